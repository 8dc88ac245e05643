-- An answer, known by cases, is what comes back through C.
use Rattle.std.specs.Prelude.{ℕ, ◌≡◌, ℤ, Ok, Err, Result as Outcome}
use Rattle.std.proofs.Common.{sym, ap, subst}
use Rattle.numbers.specs.Answers.{Answer}
use Rattle.numbers.specs.Refusals.{number, answer_of}
use Rattle.numbers.specs.declared.Refusal.{Refusal}
use Rattle.image.specs.Run.{Result, ran, result_of as evaluation}
use Rattle.image.specs.declared.Evaluated.{Evaluated}
use Rattle.exports.specs.Results.{result_of, left_behind}
use Rattle.exports.specs.RanGiven.{RanGiven}

pub ran_given : {answer : Answer Result} (value : ℤ) (words : ℕ) (known : Answer Result) → known ≡ answer → RanGiven answer value words (result_of known) (left_behind known (λ r. r.value) value) (left_behind known (λ r. r.words) words)
ran_given value words known e =
    record {
      answered = ap result_of e;
      valued = ap (λ a. left_behind a (λ r. r.value) value) e;
      counted = ap (λ a. left_behind a (λ r. r.words) words) e;
    }

-- What comes back of an answer comes back of its equal.
pub same_given : {answer same : Answer Result} {value value' : ℤ} {words result words' : ℕ} → answer ≡ same → RanGiven answer value words result value' words' → RanGiven same value words result value' words'
same_given {value} {value'} {words} {result} {words'} e given = subst (λ a. RanGiven a value words result value' words') e given

-- An evaluation comes back.
pub ran_accepted : {answer : Outcome Evaluated Refusal} {evaluated : Evaluated} {value value' : ℤ} {words words' : ℕ} → answer ≡ Ok evaluated → value' ≡ evaluated.value → words' ≡ evaluated.words → RanGiven (ran answer) value words 0 value' words'
unfolding ran answer_of evaluation
ran_accepted {answer} {evaluated} {value} {value'} {words} {words'} e v w = rw (v, w) (ran_given value words (ran (Ok evaluated)) (ap ran (sym e)))

-- A refusal leaves both as they were.
pub ran_refused : {answer : Outcome Evaluated Refusal} {refusal : Refusal} {value : ℤ} {words result : ℕ} → answer ≡ Err refusal → result ≡ number refusal → RanGiven (ran answer) value words result value words
unfolding ran answer_of
ran_refused {answer} {refusal} {value} {words} e r = rw r (ran_given value words (ran (Err refusal)) (ap ran (sym e)))
