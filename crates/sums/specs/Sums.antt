-- Weighted sums: the table of the sums of weights, one weight for each bit of X, and the table of their remainders by 2^q.
use Rattle.std.specs.Prelude.{ℕ, suc, ◌-◌, ◌%◌, ◌^◌, ◌≤◌, ◌<◌, ◌≡◌, Bool, ◌&&◌, not, List, map, length, get_or, leb, eqb, ℤ, pos, negsuc, Result}
use Rattle.std.specs.Int.Signed.{lt_z}
use Rattle.numbers.specs.Answers.{Answer, accepted, unless, map_answer, buffer_after}
use Rattle.numbers.specs.Conditions.{Variables, TableValue}
use Rattle.numbers.specs.Lists.{numbers_from, every, keep, exact_sum}
use Rattle.numbers.specs.Ranges.{is_variables, is_value, eq_z}
use Rattle.numbers.specs.Refusals.{answer_of}
use Rattle.numbers.specs.declared.Refusal.{Refusal}
use Rattle.diagram.specs.Walk.{bit_set}

-- The sum at X: that of the weights whose bits of X are 1, weight j belonging to bit j.
unfoldable pub sum_at : List ℤ → ℕ → ℤ
sum_at weights x = exact_sum (map (λ j. get_or weights j (pos 0)) (keep (bit_set x) (numbers_from 0 (length weights))))

-- The plain sum as a table: the sum at every X, over as many variables as there are weights.
unfoldable pub sum_table : List ℤ → List ℤ
sum_table weights = map (sum_at weights) (numbers_from 0 (2 ^ length weights))

-- A weight that is not 0.
unfoldable pub is_nonzero : ℤ → Bool
is_nonzero w = not (eq_z w (pos 0))

-- The sum of the negative weights, which is the least of all sums, and that of the positive ones, the greatest.
unfoldable pub least_sum : List ℤ → ℤ
least_sum weights = exact_sum (keep (λ w. lt_z w (pos 0)) weights)

unfoldable pub greatest_sum : List ℤ → ℤ
greatest_sum weights = exact_sum (keep (λ w. lt_z (pos 0) w) weights)

-- The remainder of an integer by m, from 0 to m - 1, of a negative one too: that of -1 is m - 1.
unfoldable pub remainder_by : ℕ → ℤ → ℕ
remainder_by m (pos a) = a % m
remainder_by m (negsuc a) = m - suc (a % m)

-- The sum reduced to 0..2^q - 1 as a table: the remainder of every sum, whether or not the sum is a value.
unfoldable pub remainder_table : ℕ → List ℤ → List ℤ
remainder_table q weights = map (λ z. pos (remainder_by (2 ^ q) z)) (sum_table weights)

-- q, the bits that a remainder has: 1 to 11.
unfoldable pub is_remainder_bits : ℕ → Bool
is_remainder_bits q = leb 1 q && leb q 11

-- The same as a condition.
abbrev pub RemainderBits : ℕ → Type 0
RemainderBits q = (1 ≤ q) × (q ≤ 11)

-- The checks on a weight list that both operations share, in their order: 1, 2, 3.
unfoldable pub of_weights : {A : Type 0} → ℕ → List ℤ → Answer A → Answer A
of_weights n weights rest =
    unless (is_variables n) 1
    (unless (eqb (length weights) n) 2
    (unless (every is_value weights) 3
    rest))

-- An accepted weight list, one that passes them: n from 1 to 12, n weights, each in the values' range.
pub record Weighted (n : ℕ) (weights : List ℤ) : Type 0 where
  pub variables : Variables n
  pub size : length weights ≡ n
  pub values : (j : ℕ) → j < n → TableValue (get_or weights j (pos 0))

-- A table for a buffer of so many numbers, the last check: it must have 2^n.
unfoldable pub into_room : ℕ → ℕ → List ℤ → Answer (List ℤ)
into_room n room table = unless (eqb room (2 ^ n)) 2 (accepted table)

-- Sum's answer for a table buffer of so many numbers: where every sum is a value, the plain sum.
unfoldable pub plain_sum : ℕ → List ℤ → ℕ → Answer (List ℤ)
plain_sum n weights room = of_weights n weights (unless (every is_value (sum_table weights)) 18 (into_room n room (sum_table weights)))

-- Remainder's answer, likewise: the sum reduced.
unfoldable pub reduced_sum : ℕ → List ℤ → ℕ → ℕ → Answer (List ℤ)
reduced_sum n weights q room = of_weights n weights (unless (is_remainder_bits q) 19 (into_room n room (remainder_table q weights)))

-- The promise of both: the answer, and what the table buffer then holds.
pub record Fills (answer : Answer (List ℤ)) (buffer : List ℤ) (r : Result Unit Refusal) (after : List ℤ) : Type 0 where
  pub answered : answer_of r ≡ map_answer (λ table. tt) answer
  pub filled : after ≡ buffer_after answer (λ table. table) buffer
