-- How the answers of Sum and Remainder come back through C: a number as the result, the table in its buffer.
use Rattle.std.specs.Prelude.{ℕ, ◌≡◌, List, ℤ}
use Rattle.numbers.specs.Answers.{Answer, buffer_after}
use Rattle.exports.specs.Results.{result_of}

-- What such an answer gives and leaves in its table buffer.
pub record TableGiven (answer : Answer (List ℤ)) (table : List ℤ) (result : ℕ) (table' : List ℤ) : Type 0 where
  pub answered : result ≡ result_of answer
  pub filled : table' ≡ buffer_after answer (λ values. values) table
