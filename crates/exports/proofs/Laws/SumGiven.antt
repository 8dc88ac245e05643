-- The answers of Sum and Remainder are what comes back through C.
use Rattle.std.specs.Prelude.{ℕ, ◌≡◌, List, ℤ, Result}
use Rattle.std.proofs.Common.{◌∙◌, ap}
use Rattle.numbers.specs.Answers.{Answer}
use Rattle.numbers.specs.Refusals.{answer_of}
use Rattle.numbers.specs.declared.Refusal.{Refusal}
use Rattle.exports.specs.Results.{result_of}
use Rattle.exports.proofs.Laws.Results.{result_mapped}
use Rattle.sums.specs.Sums.{Fills}
use Rattle.exports.specs.SumGiven.{TableGiven}

pub table_given : (answer : Answer (List ℤ)) (table : List ℤ) (r : Result Unit Refusal) (table' : List ℤ) (result : ℕ) → Fills answer table r table' → result ≡ result_of (answer_of r) → TableGiven answer table result table'
table_given answer table r table' result fills is =
    record {
      answered = is ∙ ap result_of fills.answered ∙ result_mapped (λ values. tt) answer;
      filled = fills.filled;
    }
