-- Expand's answer is what comes back through C.
use Rattle.std.specs.Prelude.{ℕ, List, length, ℤ, Result}
use Rattle.std.proofs.Common.{◌∙◌, ap}
use Rattle.numbers.specs.Refusals.{answer_of}
use Rattle.numbers.specs.declared.Refusal.{Refusal}
use Rattle.image.specs.Run.{expand, Expands}
use Rattle.exports.specs.Results.{result_of}
use Rattle.exports.proofs.Laws.Results.{result_mapped}
use Rattle.exports.specs.ImageGiven.{ExpandGiven}

pub expand_given : (image : List ℕ) (table : List ℤ) (r : Result Unit Refusal) (table' : List ℤ) → Expands image table r table' → ExpandGiven image table (result_of (answer_of r)) table'
expand_given image table r table' expands =
    record {
      answered = ap result_of expands.answer ∙ result_mapped (λ values. tt) (expand image (length table));
      filled = expands.written;
    }
