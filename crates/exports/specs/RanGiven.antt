-- How an answer of Run's kind comes back through C: a number as the result, value and words behind references.
use Rattle.std.specs.Prelude.{ℕ, ◌≡◌, ℤ}
use Rattle.numbers.specs.Answers.{Answer}
use Rattle.image.specs.Run.{Result}
use Rattle.exports.specs.Results.{result_of, left_behind}

-- The result, and what is left behind the two references.
pub record RanGiven (answer : Answer Result) (value : ℤ) (words : ℕ) (result : ℕ) (value' : ℤ) (words' : ℕ) : Type 0 where
  pub answered : result ≡ result_of answer
  pub valued : value' ≡ left_behind answer (λ r. r.value) value
  pub counted : words' ≡ left_behind answer (λ r. r.words) words
