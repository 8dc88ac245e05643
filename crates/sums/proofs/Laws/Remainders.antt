-- Remainders of integers: which they are, of sums, by the library's Euclidean remainder, and by the machine's remainder, which has the dividend's sign.
use Prim.Native.Nat.{ℕ, zero, suc, ◌+◌, ◌-◌, ◌*◌, ◌/◌, ◌%◌, ◌≤◌, ◌<◌}
use Rattle.std.specs.Prelude.{◌≡◌, ◌↔◌, true, false, ltb, ℤ, ◌+ℤ◌, ◌-ℤ◌, ◌*ℤ◌}
use Rattle.std.proofs.Math.Path.{refl, sym, ap}
use Rattle.std.proofs.Common.{◌∙◌, subst, true≢false, div-le_self}
use Rattle.std.proofs.Math.Nat.{mod-lt, mod-eq_of_lt, mod_self, add-mod_right, mod-eq-sub-mod, mod-add-div', suc-mod}
use native.Mathlib.Omega.{arith}
use Rattle.std.proofs.Math.IntN.{pos, negsuc, neg_ℤ, +ℤ_idr, +ℤ_assoc, -ℤ-+ℤ_cancel, pos-*ℤ-pos, negsuc-*ℤ-pos}
use Rattle.std.specs.Int.{int_rem_euclid}
use Rattle.std.proofs.lemmas.Bool.{false≢true}
use Rattle.std.specs.Int.Signed.{mag, lt_z, quot_z, rem_z}
use borrow.Author.Tests.{ltb-true, ltb-false, le-ltb, lt-ltb}
use Rattle.numbers.proofs.Laws.Bools.{yes_or_no}
use Rattle.sums.specs.Sums.{remainder_by}

-- The machine's quotient is no greater than the dividend.
pub quotient_small : (z : ℤ) (m : ℕ) → mag (quot_z z (pos m)) ≤ mag z
quotient_small (pos a) m = div-le_self a m
quotient_small (negsuc a) m = turned (suc a / m) (div-le_self (suc a) m)
  where
    turned : (r : ℕ) → r ≤ suc a → mag (neg_ℤ (pos r)) ≤ a
    turned zero l = omega arith
    turned (suc r) l = omega arith

-- By the library's Euclidean remainder.
pub euclidean : (m : ℕ) (z : ℤ) → int_rem_euclid z (pos m) ≡ pos (remainder_by m z)
unfolding remainder_by
euclidean m (pos a) = refl
euclidean m (negsuc a) = ap pos (let e : m - 1 - a % m ≡ m - suc (a % m) = omega arith in e)

module _ (m : ℕ) (some : 0 < m) where
  -- ---- multiples added

  once_more : (z : ℤ) → remainder_by m (z +ℤ pos m) ≡ remainder_by m z
  unfolding remainder_by
  once_more (pos a) = add-mod_right a m
  once_more (negsuc a) =
      yes_or_no (ltb m (suc a))
      (λ e. rw e (let l = ltb-true m (suc a) e in ap (λ r. m - suc r) (ap (λ k. k % m) (let k : suc a - suc m ≡ a - m = omega arith in k) ∙ sym (mod-eq-sub-mod (omega arith)))))
      (λ e. rw e (let l = ltb-false m (suc a) e in mod-eq_of_lt (omega arith) ∙ ap (λ r. m - suc r) (sym (mod-eq_of_lt (omega arith)))))

  times_more : (k : ℕ) (z : ℤ) → remainder_by m (z +ℤ pos (k * m)) ≡ remainder_by m z
  times_more zero z = ap (λ p. remainder_by m (z +ℤ pos p)) (let e : 0 * m ≡ 0 = omega arith in e) ∙ ap (remainder_by m) (+ℤ_idr z)
  times_more (suc k) z =
      ap (λ p. remainder_by m (z +ℤ pos p)) (let e : suc k * m ≡ k * m + m = omega arith in e)
      ∙ ap (remainder_by m) (sym (+ℤ_assoc z (pos (k * m)) (pos m)))
      ∙ once_more (z +ℤ pos (k * m))
      ∙ times_more k z

  multiple_more : (k z : ℤ) → remainder_by m (z +ℤ k *ℤ pos m) ≡ remainder_by m z
  multiple_more (pos k) z = ap (λ p. remainder_by m (z +ℤ p)) (pos-*ℤ-pos k m) ∙ times_more k z
  multiple_more (negsuc k) z =
      ap (λ p. remainder_by m (z +ℤ p)) (negsuc-*ℤ-pos k m)
      ∙ sym (times_more (suc k) (z -ℤ pos (suc k * m)))
      ∙ ap (remainder_by m) (-ℤ-+ℤ_cancel z (pos (suc k * m)))

  -- ---- which they are

  -- A remainder is below m.
  pub remainder_below : (z : ℤ) → remainder_by m z < m
  unfolding remainder_by
  remainder_below (pos a) = mod-lt a some
  remainder_below (negsuc a) = omega arith

  -- The number is its remainder and a multiple of m.
  pub remainder_parts : (z : ℤ) → (k : ℤ) × (z ≡ pos (remainder_by m z) +ℤ k *ℤ pos m)
  unfolding remainder_by
  remainder_parts (pos a) = (pos (a / m), ap pos (sym (mod-add-div' a m)) ∙ sym (ap (λ p. pos (a % m) +ℤ p) (pos-*ℤ-pos (a / m) m)))
  remainder_parts (negsuc a) =
      let l = mod-lt a some in
      let whole = mod-add-div' a m in
      let b = m - suc (a % m) in
      let p = a / m * m + (m - 1) in
      let multiple : suc (a / m) * m ≡ suc p = omega arith in
      let less : pos b +ℤ negsuc p ≡ negsuc a = rw (lt-ltb b (suc p) (omega arith)) (ap negsuc (let e : suc p - suc b ≡ a = omega arith in e)) in
      (negsuc (a / m), sym (ap (λ k. pos b +ℤ k) (negsuc-*ℤ-pos (a / m) m ∙ ap (λ k. neg_ℤ (pos k)) multiple) ∙ less))

  -- Of all numbers below m it alone is.
  pub remainder_only : (r : ℕ) (k : ℤ) → r < m → remainder_by m (pos r +ℤ k *ℤ pos m) ≡ r
  unfolding remainder_by
  remainder_only r k l = multiple_more k (pos r) ∙ mod-eq_of_lt l

  -- Of a sum only the remainders of its parts count.
  pub remainder_of_sum : (a b : ℤ) → remainder_by m (a +ℤ b) ≡ remainder_by m (a +ℤ pos (remainder_by m b))
  remainder_of_sum a b =
      let p = remainder_parts b in
      ap (λ c. remainder_by m (a +ℤ c)) p.1
      ∙ ap (remainder_by m) (sym (+ℤ_assoc a (pos (remainder_by m b)) (p.0 *ℤ pos m)))
      ∙ multiple_more p.0 (a +ℤ pos (remainder_by m b))

  -- ---- by the machine's remainder

  -- The remainder of -(a + 1), where it is not 0 and where it is.
  below_turn : (a : ℕ) → suc (a % m) < m → suc a % m ≡ suc (a % m)
  below_turn a l = suc-mod a m ∙ mod-eq_of_lt l

  at_turn : (a : ℕ) → suc (a % m) ≡ m → suc a % m ≡ 0
  at_turn a e = suc-mod a m ∙ ap (λ k. k % m) e ∙ mod_self m

  -- It is the remainder where it is not negative, and m less where it is.
  pub rem_not_negative : (z : ℤ) → lt_z (rem_z z (pos m)) (pos 0) ≡ false → rem_z z (pos m) ≡ pos (remainder_by m z)
  unfolding remainder_by
  rem_not_negative (pos a) e = refl
  rem_not_negative (negsuc a) e =
      let l = mod-lt a some in
      yes_or_no (ltb (suc (a % m)) m)
      (λ t. absurd (true≢false (rw (below_turn a (ltb-true (suc (a % m)) m t)) at e)))
      (λ t. let f = ltb-false (suc (a % m)) m t in rw (at_turn a (omega arith)) (ap pos (let r : 0 ≡ m - suc (a % m) = omega arith in r)))

  pub rem_negative : (z : ℤ) → lt_z (rem_z z (pos m)) (pos 0) ≡ true → rem_z z (pos m) +ℤ pos m ≡ pos (remainder_by m z)
  unfolding remainder_by
  rem_negative (pos a) e = absurd (false≢true (sym (le-ltb (a % m) 0 (omega arith)) ∙ e))
  rem_negative (negsuc a) e =
      let l = mod-lt a some in
      yes_or_no (ltb (suc (a % m)) m)
      (λ t. let b = ltb-true (suc (a % m)) m t in rw (below_turn a b, le-ltb m (suc (a % m)) (omega arith)) refl)
      (λ t. let f = ltb-false (suc (a % m)) m t in absurd (false≢true (rw (at_turn a (omega arith)) at e)))

-- The remainder is the one number from 0 to m - 1 that differs from the integer by a multiple of m.
pub remainder_exactly : (m : ℕ) (z : ℤ) (r : ℕ) → 0 < m → ((r < m) × ((k : ℤ) × (z ≡ pos r +ℤ k *ℤ pos m))) ↔ (remainder_by m z ≡ r)
remainder_exactly m z r some = (
  (λ p. ap (remainder_by m) p.1.1 ∙ remainder_only m some r p.1.0 p.0),
  (λ e. let p = remainder_parts m some z in (subst (λ k. k < m) e (remainder_below m some z), (p.0, p.1 ∙ ap (λ k. pos k +ℤ p.0 *ℤ pos m) e))),
)
