-- When a case of Sum or Remainder passes, by the definition of the operation. What the numbers of a case are stands in the crate checks.
use Rattle.std.specs.Prelude.{ℕ, Bool, true, ◌&&◌, List, length, replicate, ℤ, Result, nat_le}
use Rattle.numbers.specs.declared.Refusal.{Refusal}
use Rattle.numbers.specs.Answers.{Answer, buffer_after}
use Rattle.sums.specs.Sums.{plain_sum, reduced_sum, Fills}
use Rattle.cases.specs.Rows.{size_at, number_lent, answer_is, front_holds}

-- The answer is the expected one, a refusal or none, and the lent table holds these values in front.
unfoldable pub filled_is : {A : Type 0} → List ℤ → Answer A → List ℤ → List ℤ → Bool
filled_is numbers answer table front = answer_is (size_at numbers 3) (λ a. true) answer && front_holds number_lent table front

-- An operation that fills a table answers so with a buffer of the case's places.
unfoldable pub table_passes : List ℤ → (ℕ → Answer (List ℤ)) → List ℤ → Bool
table_passes numbers operation front =
    let places = size_at numbers 2 in
    let answer = operation places in
    nat_le places 4096 && filled_is numbers answer (buffer_after answer (λ table. table) (replicate places number_lent)) front

-- What is answered and left is what an operation fills.
abbrev pub FillsLike : (List ℤ → Result (Unit {0}) Refusal → List ℤ → Type 0) → (ℕ → Answer (List ℤ)) → Type 0
FillsLike leaves operation = (lent left : List ℤ) (answer : Result (Unit {0}) Refusal) → leaves lent answer left → Fills (operation (length lent)) lent answer left

-- Sum answers so, and Remainder.
unfoldable pub sum_passes : List ℤ → List ℤ → List ℤ → Bool
sum_passes numbers weights front = table_passes numbers (plain_sum (size_at numbers 1) weights) front

unfoldable pub remainder_passes : List ℤ → List ℤ → List ℤ → Bool
remainder_passes numbers weights front = table_passes numbers (reduced_sum (size_at numbers 1) weights (size_at numbers 4)) front
