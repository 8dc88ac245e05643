-- Sums of integers: of appended lists, with one more, and how great they are.
use Rattle.std.specs.Prelude.{ℕ, suc, ◌*◌, ◌≤◌, ◌<◌, ◌≡◌, List, [], ◌∷◌, ◌++◌, length, get_or, ℤ, pos, ◌+ℤ◌}
use Rattle.std.proofs.Common.{sym, ◌∙◌, ap, arith}
use Rattle.std.proofs.Math.IntN.{+ℤ_idl, +ℤ_idr, +ℤ_assoc}
use Rattle.std.specs.Int.Signed.{mag}
use Rattle.numbers.specs.Lists.{exact_sum}
use Rattle.numbers.proofs.Laws.Machine.{mag_add}

-- Of appended lists the sums are added.
pub exact_append : (l m : List ℤ) → exact_sum (l ++ m) ≡ exact_sum l +ℤ exact_sum m
unfolding exact_sum
exact_append [] m = sym (+ℤ_idl (exact_sum m))
exact_append (z ∷ l) m = ap (λ s. z +ℤ s) (exact_append l m) ∙ sym (+ℤ_assoc z (exact_sum l) (exact_sum m))

-- One number, and one more.
pub exact_one : (z : ℤ) → exact_sum (z ∷ []) ≡ z
unfolding exact_sum
exact_one z = +ℤ_idr z

pub sum_snoc : (l : List ℤ) (z : ℤ) → exact_sum (l ++ z ∷ []) ≡ exact_sum l +ℤ z
sum_snoc l z = exact_append l (z ∷ []) ∙ ap (λ s. exact_sum l +ℤ s) (exact_one z)

-- A sum of numbers within a bound.
pub sum_small : (bound : ℕ) (l : List ℤ) → ((j : ℕ) → j < length l → mag (get_or l j (pos 0)) ≤ bound) → mag (exact_sum l) ≤ length l * suc bound
unfolding exact_sum
sum_small bound [] h = omega arith
sum_small bound (z ∷ l) h =
    let here = h 0 (omega arith) in
    let rest = sum_small bound l (λ j k. h (suc j) (omega arith)) in
    let m = mag_add z (exact_sum l) in
    omega arith
