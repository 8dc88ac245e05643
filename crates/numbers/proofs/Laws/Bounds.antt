-- Bounds of integers: tests of range passed, and differences of values.
use Rattle.std.specs.Prelude.{ℕ, zero, suc, ◌+◌, ◌≤◌, max, ◌≡◌, refl, true, false, leb, ltb, ℤ, pos, negsuc, neg_ℤ, nat_abs, ◌-ℤ◌}
use Rattle.std.proofs.Common.{arith, leb-true, le-leb, ltb-true, ltb-false}
use Rattle.std.proofs.Math.IntN.{sub_ℕ}
use Rattle.std.specs.Int.Signed.{mag, le_z}
use Rattle.numbers.specs.Ranges.{within, is_value, is_weight}
use Rattle.numbers.proofs.Laws.Bools.{yes_or_no, both, and_both}

-- From the low end on the high end decides; below it nothing lies within.
pub within_from : (low high z : ℤ) → le_z low z ≡ true → within low high z ≡ le_z z high
unfolding within
within_from low high z e = rw e

pub within_below : (low high z : ℤ) → le_z low z ≡ false → within low high z ≡ false
unfolding within
within_below low high z e = rw e

-- A natural number up to a bound.
pub within_pos : (bound a : ℕ) → a ≤ bound → within (pos 0) (pos bound) (pos a) ≡ true
unfolding within
within_pos bound a h = and_both (leb 0 a) (leb a bound) (le-leb 0 a (omega arith)) (le-leb a bound h)

-- A natural number that is a value.
pub natural_value : (a : ℕ) → a ≤ 8388607 → is_value (pos a) ≡ true
unfolding is_value within
natural_value a h = le-leb a 8388607 h

-- A value's unsigned part.
pub value_mag : (z : ℤ) → is_value z ≡ true → mag z ≤ 8388607
unfolding is_value within
value_mag (pos a) h = leb-true a 8388607 h
value_mag (negsuc a) h = leb-true a 8388607 (both (leb a 8388607) true h).0

-- A weight's unsigned part.
pub weight_mag : (z : ℤ) → is_weight z ≡ true → mag z ≤ 16777215
unfolding is_weight within
weight_mag (pos a) h = leb-true a 16777215 h
weight_mag (negsuc a) h = let l = leb-true a 16777214 (both (leb a 16777214) true h).0 in omega arith

-- A weight, by its size.
pub weight_of_size : (z : ℤ) → nat_abs z ≤ 16777215 → is_weight z ≡ true
unfolding is_weight within
weight_of_size (pos a) h = le-leb a 16777215 h
weight_of_size (negsuc a) h = and_both (leb a 16777214) true (le-leb a 16777214 (omega arith)) refl

-- A signed 32-bit number, by its unsigned part.
pub signed_32_of_mag : (z : ℤ) → mag z ≤ 2147483647 → within (neg_ℤ (pos 2147483648)) (pos 2147483647) z ≡ true
unfolding within
signed_32_of_mag (pos a) h = le-leb a 2147483647 h
signed_32_of_mag (negsuc a) h = and_both (leb a 2147483647) true (le-leb a 2147483647 h) refl

-- The size of a difference of two natural numbers.
sub_size : (a b : ℕ) → nat_abs (sub_ℕ a b) ≤ max a b
sub_size a b =
    yes_or_no (ltb a b)
    (λ e. rw e (let h = ltb-true a b e in omega arith))
    (λ e. rw e (let h = ltb-false a b e in omega arith))

-- The size of a difference.
pub difference_size : (a b : ℤ) → nat_abs (a -ℤ b) ≤ suc (mag a + mag b)
difference_size (pos a) (pos zero) = omega arith
difference_size (pos a) (pos (suc b)) = let h = sub_size a (suc b) in omega arith
difference_size (pos a) (negsuc b) = omega arith
difference_size (negsuc a) (pos zero) = let h = sub_size 0 (suc a) in omega arith
difference_size (negsuc a) (pos (suc b)) = omega arith
difference_size (negsuc a) (negsuc b) = let h = sub_size (suc b) (suc a) in omega arith

-- The difference of two values is a weight.
pub difference_weight : (a b : ℤ) → is_value a ≡ true → is_value b ≡ true → is_weight (a -ℤ b) ≡ true
difference_weight a b h k =
    weight_of_size (a -ℤ b) (let p = value_mag a h in let q = value_mag b k in let r = difference_size a b in omega arith)
