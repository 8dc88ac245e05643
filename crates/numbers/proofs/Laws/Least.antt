-- The least number that passes a test: it passes, and none below it does.
use Prim.Native.Nat.{ℕ, zero, suc, ◌+◌, ◌≤◌, ◌<◌}
use Rattle.std.specs.Prelude.{◌≡◌, Bool, true}
use Rattle.std.proofs.Common.{sym, ◌∙◌, true≢false, add-suc, suc-add}
use Rattle.std.proofs.Math.Bool.{false}
use Rattle.std.proofs.Math.Nat.{add-zero, zero-add}
use native.Mathlib.Omega.{arith}
use Rattle.std.proofs.Math.Decide.{dec_lt, ℕ_discrete}
use Rattle.numbers.specs.Lists.{least_from, least}
use Rattle.numbers.proofs.Laws.Bools.{yes_or_no}

module _ (test : ℕ → Bool) where
  found_here : (tries start : ℕ) → test start ≡ true → least_from test (suc tries) start ≡ start
  unfolding least_from
  found_here tries start e = rw (e, least_from)

  found_later : (tries start : ℕ) → test start ≡ false → least_from test (suc tries) start ≡ least_from test tries (suc start)
  unfolding least_from
  found_later tries start e = rw (e, least_from)

  found_passes : (tries start : ℕ) → test (start + tries) ≡ true → test (least_from test tries start) ≡ true
  unfolding least_from
  found_passes zero start h = rw add-zero at h
  found_passes (suc tries) start h =
      yes_or_no (test start)
      (λ e. rw (found_here tries start e) e)
      (λ e. rw (found_later tries start e) (found_passes tries (suc start) (rw (suc-add, ← add-suc) h)))

  none_before : (tries start k : ℕ) → start ≤ k → k < least_from test tries start → test k ≡ false
  unfolding least_from
  none_before zero start k h l = absurd (omega arith)
  none_before (suc tries) start k h l =
      yes_or_no (test start)
      (λ e. absurd (let m : k < start = rw (found_here tries start e) at l in omega arith))
      (λ e. at_start_or_later e (λ p. none_before tries (suc start) k p (rw (found_later tries start e) at l)) (ℕ_discrete start k))
    where
      at_start_or_later : test start ≡ false → (suc start ≤ k → test k ≡ false) → Dec (start ≡ k) → test k ≡ false
      at_start_or_later e later (yes p) = rw (← p) e
      at_start_or_later e later (no p) = later (omega arith)

  -- The first is within so many tries, and it passes unless they end before.
  found_within : (tries start : ℕ) → (least_from test tries start ≤ start + tries) × (least_from test tries start < start + tries → test (least_from test tries start) ≡ true)
  unfolding least_from
  found_within zero start = (omega arith, λ l. absurd (omega arith))
  found_within (suc tries) start =
      let rest = found_within tries (suc start) in
      let most = rest.0 in
      yes_or_no (test start)
      (λ e. rw (found_here tries start e) (omega arith, λ l. e))
      (λ e. rw (found_later tries start e) (omega arith, λ l. rest.1 (omega arith)))

  -- Where the bound passes, so does the least.
  pub least_passes : (bound : ℕ) → test bound ≡ true → test (least test bound) ≡ true
  unfolding least
  least_passes bound h = found_passes bound 0 (rw zero-add h)

  -- It is at most the bound; below it, it passes.
  pub least_bounded : (bound : ℕ) → least test bound ≤ bound
  unfolding least
  least_bounded bound = let most = (found_within bound 0).0 in omega arith

  pub least_under : (bound : ℕ) → least test bound < bound → test (least test bound) ≡ true
  unfolding least
  least_under bound h = (found_within bound 0).1 (omega arith)

  pub below_least : (bound k : ℕ) → k < least test bound → test k ≡ false
  unfolding least
  below_least bound k h = none_before bound 0 k (omega arith) h

  -- No number that passes is less.
  pub least_le : (bound k : ℕ) → test k ≡ true → least test bound ≤ k
  least_le bound k h = at_most (dec_lt k (least test bound))
    where
      at_most : Dec (k < least test bound) → least test bound ≤ k
      at_most (yes l) = absurd (true≢false (sym h ∙ below_least bound k l))
      at_most (no l) = omega arith
