-- What two's complement holds: a number read back from its bits, its sign and its unsigned part.
use Rattle.std.specs.Prelude.{ℕ, zero, suc, ◌+◌, ◌-◌, ◌^◌, ◌≤◌, ◌<◌, ◌≡◌, refl, true, false, not, T, ltb, eqb, ℤ, pos, negsuc, neg_ℤ, nat_abs, ◌+ℤ◌, ◌-ℤ◌}
use Rattle.std.proofs.Common.{zero-le, arith, le-ltb, eq-eqb, ne_eqb, sym, ◌∙◌, ap, true≢false, Fits, SFits, of_z, to_z, to_z-of_z}
use Rattle.std.proofs.lemmas.Bool.{false≢true}
use Rattle.std.proofs.Math.IntN.{sub_ℕ}
use Rattle.std.specs.Int.Signed.{mag, lt_z, non_neg}
use Rattle.std.specs.Int.{Width, w32, w64}
use mir.ValLaws.{half_full}
use Rattle.std.proofs.Math.Facts.{sfits_widen}
use Rattle.numbers.specs.Ranges.{eq_z}
use Rattle.numbers.proofs.Laws.Bools.{yes_or_no}
use Rattle.numbers.proofs.Laws.Integers.{eq_z_true, eq_z_refl}

-- -1 less a negative number is its unsigned part.
pub complement : (z : ℤ) → lt_z z (pos 0) ≡ true → negsuc 0 -ℤ z ≡ pos (mag z)
complement (pos a) h = absurd (false≢true (sym (le-ltb a 0 zero-le) ∙ h))
complement (negsuc a) h = rw (le-ltb (suc a) 1 (omega arith)) (ap pos (let e : suc a - 1 ≡ a = omega arith in e))

-- A number that is not negative is its unsigned part.
pub not_negative : (z : ℤ) → lt_z z (pos 0) ≡ false → z ≡ pos (mag z)
not_negative (pos a) h = refl
not_negative (negsuc a) h = absurd (true≢false h)

-- The test for a negative number.
pub sign_test : (z : ℤ) → non_neg z ≡ not (lt_z z (pos 0))
sign_test (pos a) = rw (le-ltb a 0 zero-le)
sign_test (negsuc a) = refl

-- An unsigned part within a signed width: it is held signed and unsigned, and is read back as it is.
module _ (w : Width) (z : ℤ) (h : SFits w z) where
  pub part_signed : SFits w (pos (mag z))
  part_signed = record { sfits = h.sfits }

  pub part_back_signed : to_z w (of_z w (pos (mag z))) ≡ pos (mag z)
  part_back_signed = to_z-of_z part_signed

  pub part_fits : Fits w (mag z)
  part_fits = record { fits = half_full w h.sfits }

-- A number that is read back as some p, not negative, may be cast to an unsigned one.
pub cast_back : (w : Width) (y : ℤ) (p : ℕ) → y ≡ pos p → Fits w p → T (non_neg y) × Fits w (nat_abs y)
cast_back w y p e h = rw e (tt, h)

-- Numbers with equal bits are equal.
pub same_bits : (w : Width) (y z : ℤ) → SFits w y → SFits w z → of_z w y ≡ of_z w z → y ≡ z
same_bits w y z hy hz e = sym (to_z-of_z hy) ∙ ap (to_z w) e ∙ to_z-of_z hz

-- Whether two numbers have the same bits.
pub bits_equal : (w : Width) (y z : ℤ) → SFits w y → SFits w z → eqb (of_z w y) (of_z w z) ≡ eq_z y z
bits_equal w y z hy hz =
    yes_or_no (eq_z y z)
    (λ e. eq-eqb (of_z w y) (of_z w z) (ap (of_z w) (eq_z_true y z e)) ∙ sym e)
    (λ e. ne_eqb (of_z w y) (of_z w z) (λ bits. false≢true (sym e ∙ ap (eq_z y) (sym (same_bits w y z hy hz bits)) ∙ eq_z_refl y)) ∙ sym e)

-- ---- sums and differences

mag_subℕ : (a b : ℕ) → mag (sub_ℕ a b) ≤ a + b
mag_subℕ a b =
    yes_or_no (ltb a b)
    (λ e. rw e (let p : b - suc a ≤ a + b = omega arith in p))
    (λ e. rw e (let p : a - b ≤ a + b = omega arith in p))

pub mag_add : (a b : ℤ) → mag (a +ℤ b) ≤ mag a + mag b + 1
mag_add (pos a) (pos b) = omega arith
mag_add (pos a) (negsuc b) = let p = mag_subℕ a (suc b) in omega arith
mag_add (negsuc a) (pos b) = let p = mag_subℕ b (suc a) in omega arith
mag_add (negsuc a) (negsuc b) = omega arith

pub mag_neg : (b : ℤ) → mag (neg_ℤ b) ≤ mag b + 1
mag_neg (pos zero) = omega arith
mag_neg (pos (suc b)) = omega arith
mag_neg (negsuc b) = omega arith

-- The difference of two numbers of 32 bits fits 64.
pub difference_fits : (a b : ℤ) → SFits w32 a → SFits w32 b → SFits w64 (a -ℤ b)
difference_fits a b ha hb =
    record { sfits = (let p = mag_add a (neg_ℤ b) in let q = mag_neg b in let r = ha.sfits in let s = hb.sfits in let t : mag (a -ℤ b) < 2 ^ 63 = omega arith in t) }

-- A number of 32 bits fits 64.
pub wider : {z : ℤ} → SFits w32 z → SFits w64 z
wider h = sfits_widen {w = w32} {w' = w64} tt h
