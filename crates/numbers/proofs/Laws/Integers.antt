-- Integers: equality as a test, differences.
use Rattle.std.specs.Prelude.{◌≡◌, refl, true, ℤ, pos, negsuc, neg_ℤ, ◌+ℤ◌, ◌-ℤ◌}
use Rattle.std.proofs.Common.{sym, ◌∙◌, ap, eqb-true, eq-eqb}
use Rattle.std.proofs.lemmas.Bool.{false≢true}
use Rattle.std.proofs.Math.IntN.{+ℤ_assoc, +ℤ_invr, +ℤ_comm, +ℤ_idl, +ℤ_idr, neg_ℤ-+ℤ, neg_ℤ-neg_ℤ, -ℤ-+ℤ_cancel, +ℤ-neg_ℤ_cancel}
use Rattle.numbers.specs.Ranges.{eq_z}

-- ---- equality

pub eq_z_true : (a b : ℤ) → eq_z a b ≡ true → a ≡ b
unfolding eq_z
eq_z_true (pos a) (pos b) h = ap pos (eqb-true a b h)
eq_z_true (pos a) (negsuc b) h = absurd (false≢true h)
eq_z_true (negsuc a) (pos b) h = absurd (false≢true h)
eq_z_true (negsuc a) (negsuc b) h = ap negsuc (eqb-true a b h)

pub eq_z_refl : (a : ℤ) → eq_z a a ≡ true
unfolding eq_z
eq_z_refl (pos a) = eq-eqb a a refl
eq_z_refl (negsuc a) = eq-eqb a a refl

-- ---- differences

pub sub_self : (a : ℤ) → a -ℤ a ≡ pos 0
sub_self a = +ℤ_invr a

pub sub_zero : (a : ℤ) → a -ℤ pos 0 ≡ a
sub_zero a = +ℤ_idr a

-- A difference and what was taken away.
pub sub_add : (a b : ℤ) → a -ℤ b +ℤ b ≡ a
sub_add a b = -ℤ-+ℤ_cancel a b

-- (a - b) - (c - b) is a - c.
pub sub_sub_same : (a b c : ℤ) → (a -ℤ b) -ℤ (c -ℤ b) ≡ a -ℤ c
sub_sub_same a b c =
    ap (λ x. (a -ℤ b) +ℤ x) (neg_ℤ-+ℤ c (neg_ℤ b) ∙ ap (λ x. neg_ℤ c +ℤ x) (neg_ℤ-neg_ℤ b) ∙ +ℤ_comm (neg_ℤ c) b)
    ∙ sym (+ℤ_assoc (a -ℤ b) b (neg_ℤ c))
    ∙ ap (λ x. x +ℤ neg_ℤ c) (-ℤ-+ℤ_cancel a b)

-- Both shifted by one constant, the difference stays.
pub shift_sub : (a c b : ℤ) → (a +ℤ c) -ℤ (b +ℤ c) ≡ a -ℤ b
shift_sub a c b =
    ap (λ x. (a +ℤ c) +ℤ x) (neg_ℤ-+ℤ b c ∙ +ℤ_comm (neg_ℤ b) (neg_ℤ c))
    ∙ sym (+ℤ_assoc (a +ℤ c) (neg_ℤ c) (neg_ℤ b))
    ∙ ap (λ x. x +ℤ neg_ℤ b) (+ℤ-neg_ℤ_cancel a c)

-- a - (b - c) is a - b + c.
pub sub_sub : (a b c : ℤ) → a -ℤ (b -ℤ c) ≡ a -ℤ b +ℤ c
sub_sub a b c =
    ap (λ x. a +ℤ x) (neg_ℤ-+ℤ b (neg_ℤ c) ∙ ap (λ x. neg_ℤ b +ℤ x) (neg_ℤ-neg_ℤ c)) ∙ sym (+ℤ_assoc a (neg_ℤ b) c)

-- What was taken away and what was left change places.
pub sub_exchange : (a b c : ℤ) → a -ℤ b ≡ c → a -ℤ c ≡ b
sub_exchange a b c e = ap (λ x. a -ℤ x) (sym e) ∙ sub_sub a a b ∙ ap (λ x. x +ℤ b) (sub_self a) ∙ +ℤ_idl b
