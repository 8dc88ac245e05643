-- Integers without a difference, and natural numbers compared as integers.
use Rattle.std.specs.Prelude.{ℕ, zero, suc, ◌+◌, ◌-◌, ◌*◌, ◌≤◌, ◌≡◌, ℤ, pos, ◌+ℤ◌, ◌-ℤ◌, ◌*ℤ◌, ◌≤ℤ◌}
use Rattle.std.proofs.Common.{sym, ◌∙◌, ap, one-mul, arith, le→leb, le-ltb}
use Rattle.std.proofs.Math.IntN.{+ℤ_idl, -ℤ_one, -ℤ-+ℤ_cancel}

-- Two integers without a difference are one.
pub no_difference : (a b : ℤ) → a -ℤ b ≡ pos 0 → a ≡ b
no_difference a b e = sym (-ℤ-+ℤ_cancel a b) ∙ ap (λ z. z +ℤ b) e ∙ +ℤ_idl b

-- The order of the natural numbers is that of the integers.
pub pos_le : (a b : ℕ) → a ≤ b → pos a ≤ℤ pos b
pos_le a b h = record { le = le→leb a b h }

-- A difference that is not under 0.
pub pos_sub : (a b : ℕ) → b ≤ a → pos a -ℤ pos b ≡ pos (a - b)
pos_sub a zero h = ap pos (let e : a + 0 ≡ a - 0 = omega arith in e)
pos_sub a (suc b) h = rw (le-ltb a (suc b) h)

-- a ≤ b + (k - 1) * l, from the same without subtraction; k may be 0.
pub le_less_one_times : (a b k l : ℕ) → a + l ≤ b + k * l → pos a ≤ℤ (pos b +ℤ (pos k -ℤ pos 1) *ℤ pos l)
le_less_one_times a b zero l h = rw (one-mul, pos_sub b l (omega arith)) (pos_le a (b - l) (omega arith))
le_less_one_times a b (suc k) l h = rw (-ℤ_one (pos (suc k))) (pos_le a (b + k * l) (omega arith))
