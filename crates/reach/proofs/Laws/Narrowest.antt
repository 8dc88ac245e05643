-- The first cut from which the narrowest cell is too wide, and the widest of the narrowest cells, given by their address widths.
use Prim.Native.Nat.{ℕ, zero, suc, max, ◌≤◌, ◌<◌}
use Rattle.std.specs.Prelude.{◌≡◌}
use Rattle.std.proofs.Math.Path.{refl, ap₂}
use Rattle.std.proofs.Math.Nat.{le_trans, le-max_left, le-max_right, max-le, max-eq_left, max-eq_right}
use Rattle.std.proofs.Common.{le_of_lt}
use native.Mathlib.Omega.{arith}
use Rattle.std.proofs.Math.Dec.{ltb}
use borrow.Author.Tests.{ltb-true, ltb-false}
use Rattle.numbers.proofs.Laws.Bools.{yes_or_no}
use Rattle.numbers.proofs.Laws.Least.{below_least, least_bounded, least_under}
use Rattle.reach.specs.Inner.Narrowest.{furthest, widest_above}

-- ---- the furthest cut

module _ (address : ℕ → ℕ) (limit n : ℕ) where
  -- Above it the narrowest cell fits.
  pub fits_above : (c : ℕ) → c < furthest address limit n → address c ≤ limit
  unfolding furthest
  fits_above c l = ltb-false limit (address c) (below_least (λ h. ltb limit (address h)) n c l)

  -- It is the bottom cut or one above.
  pub furthest_cut : furthest address limit n ≤ n
  unfolding furthest
  furthest_cut = least_bounded (λ h. ltb limit (address h)) n

  -- From it, where it is not the bottom cut, the narrowest cell is too wide.
  pub too_wide_at : furthest address limit n < n → limit < address (furthest address limit n)
  unfolding furthest
  too_wide_at l = ltb-true limit _ (least_under (λ h. ltb limit (address h)) n l)

  -- It is the cut above which the narrowest cell fits, and from which it does not or which is the bottom one.
  pub furthest_is : (h : ℕ) → h ≤ n → ((c : ℕ) → c < h → address c ≤ limit) → (h < n → limit < address h) → h ≡ furthest address limit n
  furthest_is h cut narrow wide =
      let last = furthest address limit n in
      let most = furthest_cut in
      yes_or_no (ltb h last)
      (λ l. let below = ltb-true h last l in let n = fits_above h below in let w = wide (omega arith) in absurd (omega arith))
      (λ l.
      let past = ltb-false h last l in
      yes_or_no (ltb last h)
      (λ m. let above = ltb-true last h m in let w = too_wide_at (omega arith) in let n = narrow last above in absurd (omega arith))
      (λ m. let before = ltb-false last h m in omega arith))

-- ---- the widest of the narrowest cells

module _ (address : ℕ → ℕ) where
  -- None is wider.
  pub none_wider : (h c : ℕ) → c < h → address c ≤ widest_above address h
  unfolding widest_above
  none_wider zero c l = absurd (omega arith)
  none_wider (suc h) c l =
      yes_or_no (ltb c h)
      (λ e. le_trans (none_wider h c (ltb-true c h e)) (le-max_left (widest_above address h) (address h)))
      (λ e. let same : c ≡ h = (let p = ltb-false c h e in omega arith) in rw same (le-max_right (widest_above address h) (address h)))

  -- And no less will do.
  pub widest_least : (h limit : ℕ) → ((c : ℕ) → c < h → address c ≤ limit) → widest_above address h ≤ limit
  unfolding widest_above
  widest_least zero limit narrow = omega arith
  widest_least (suc h) limit narrow = max-le (widest_least h limit (λ c l. narrow c (omega arith))) (narrow h (omega arith))

  -- One cut further down: the cell from there is the widest, or it is not.
  pub widest_next : (h : ℕ) → widest_above address h < address h → widest_above address (suc h) ≡ address h
  unfolding widest_above
  widest_next h l = max-eq_right (le_of_lt l)

  pub widest_stays : (h : ℕ) → address h ≤ widest_above address h → widest_above address (suc h) ≡ widest_above address h
  unfolding widest_above
  widest_stays h l = max-eq_left l

-- Both are decided by the address widths above the bottom cut.
module _ (left right : ℕ → ℕ) (n : ℕ) (same : (h : ℕ) → h < n → left h ≡ right h) where
  pub furthest_same : (limit : ℕ) → furthest left limit n ≡ furthest right limit n
  furthest_same limit =
      furthest_is right limit n (furthest left limit n) (furthest_cut left limit n)
      (λ c l. rw (← (same c (let m = furthest_cut left limit n in omega arith))) (fits_above left limit n c l))
      (λ l. rw (← (same (furthest left limit n) l)) (too_wide_at left limit n l))

  pub widest_same : (h : ℕ) → h ≤ n → widest_above left h ≡ widest_above right h
  unfolding widest_above
  widest_same zero cut = refl
  widest_same (suc h) cut = ap₂ max (widest_same h (omega arith)) (same h (omega arith))
