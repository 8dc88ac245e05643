-- The least and the greatest sum, by the weights alone; and how great sums are.
use Rattle.std.specs.Prelude.{ℕ, ◌+◌, ◌*◌, ◌/◌, ◌%◌, ◌^◌, ◌≤◌, ◌<◌, ◌≡◌, refl, Bool, false, ◌&&◌, length, get_or, ℤ, negsuc, ◌+ℤ◌}
use Rattle.std.proofs.Math.Path.{sym, ap, ap₂}
use Rattle.std.proofs.Common.{◌∙◌, true≢false, mul-le-mul_right, pow_pos}
use Rattle.std.proofs.Math.Bool.{true, false≢true}
use mathlib.Core.List.{List, [], ◌∷◌, ◌++◌, append-nil}
use Rattle.std.proofs.Math.Nat.{two-pow-succ}
use native.Mathlib.Omega.{arith}
use Rattle.std.proofs.Math.IntN.{pos, neg_ℤ, +ℤ_idl, +ℤ_idr, +ℤ_comm}
use Rattle.std.specs.Int.Signed.{mag, lt_z, le_z}
use borrow.Author.Tests.{ltb-true}
use Rattle.numbers.specs.Conditions.{Domain, LeastOver, GreatestOver}
use Rattle.numbers.specs.Extremes.{least_of, greatest_of}
use Rattle.numbers.specs.Lists.{numbers_from, every, keep, exact_sum}
use Rattle.numbers.specs.Ranges.{within, is_value}
use Rattle.numbers.proofs.Laws.Bools.{yes_or_no, both, and_both}
use Rattle.numbers.proofs.Laws.Bounds.{value_mag}
use Rattle.numbers.proofs.Laws.Extremal.{Extreme, leasts, greatests, extreme_is}
use Rattle.numbers.proofs.Laws.Extremes.{le_z_trans, le_z_antisym, lt_z_le, lt_z_turn}
use Rattle.numbers.proofs.Laws.Lists.{every_at, every_from}
use Rattle.numbers.proofs.Laws.Machine.{mag_add}
use Rattle.numbers.proofs.Laws.Rows.{keep_one, keep_other}
use Rattle.numbers.proofs.Laws.Selections.{keep_passed, keep_failed, keep_append, keep_length}
use Rattle.numbers.proofs.Laws.Sums.{sum_snoc, sum_small}
use Rattle.numbers.proofs.Laws.Tallies.{kept_all}
use Rattle.numbers.proofs.Laws.Tests.{at_most_test}
use Rattle.sums.specs.Sums.{sum_at, sum_table, least_sum, greatest_sum}
use Rattle.sums.proofs.Laws.Split.{sum_cons, sum_even, sum_odd, one_or_none, table_length, table_at}

-- ---- what a test of the weights picks

-- A weight that passes comes before 0, and 0 before one that does not.
module _ {le : ℤ → ℤ → Bool} {pick : ℤ → ℤ → ℤ} {of : List ℤ → ℤ} (e : Extreme le pick of) (test : ℤ → Bool)
    (gain : (w : ℤ) → test w ≡ true → le w (pos 0) ≡ true) (loss : (w : ℤ) → test w ≡ false → le (pos 0) w ≡ true) where
  nothing : le (pos 0) (pos 0) ≡ true
  nothing = yes_or_no (test (pos 0)) (gain (pos 0)) (loss (pos 0))

  itself : (w : ℤ) → le w w ≡ true
  itself w = ap₂ le (sym (+ℤ_idr w)) (sym (+ℤ_idr w)) ∙ e.more w (pos 0) (pos 0) ∙ nothing

  -- Sums in order, part by part.
  added : (a b c d : ℤ) → le a b ≡ true → le c d ≡ true → le (a +ℤ c) (b +ℤ d) ≡ true
  added a b c d p q =
      e.through (a +ℤ c) (b +ℤ c) (b +ℤ d)
      (ap₂ le (+ℤ_comm a c) (+ℤ_comm b c) ∙ e.more c a b ∙ p)
      (e.more b c d ∙ q)

  -- The sum of those that pass comes before the sum at every X.
  before_sum : (weights : List ℤ) (x : ℕ) → le (exact_sum (keep test weights)) (sum_at weights x) ≡ true
  unfolding sum_at exact_sum keep numbers_from
  before_sum [] x = nothing
  before_sum (w ∷ weights) x =
      let rest = before_sum weights (x / 2) in
      let kept = exact_sum (keep test weights) in
      let here = sum_at (w ∷ []) (x % 2) in
      yes_or_no (test w)
      (λ t.
      ap₂ le (ap exact_sum (keep_passed test w weights t)) (sum_cons w weights x)
      ∙ added w here kept (sum_at weights (x / 2)) (one_or_none (λ z. le w z ≡ true) w x (gain w t) (itself w)) rest)
      (λ t.
      ap₂ le (ap exact_sum (keep_failed test w weights t) ∙ sym (+ℤ_idl kept)) (sum_cons w weights x)
      ∙ added (pos 0) here kept (sum_at weights (x / 2)) (one_or_none (λ z. le (pos 0) z ≡ true) w x nothing (loss w t)) rest)

  -- And at some X it is met.
  met : (weights : List ℤ) → (x : ℕ) × ((x < 2 ^ length weights) × (exact_sum (keep test weights) ≡ sum_at weights x))
  unfolding sum_at exact_sum keep numbers_from
  met [] = (0, (omega arith, refl))
  met (w ∷ weights) =
      let m = met weights in
      let inside = m.1.0 in
      yes_or_no (test w)
      (λ t. (m.0 * 2 + 1, (rw two-pow-succ (omega arith), ap exact_sum (keep_passed test w weights t) ∙ ap (λ s. w +ℤ s) m.1.1 ∙ sym (sum_odd w weights m.0))))
      (λ t. (m.0 * 2, (rw two-pow-succ (omega arith), ap exact_sum (keep_failed test w weights t) ∙ m.1.1 ∙ sym (sum_even w weights m.0))))

  -- So of all sums it is the extreme one.
  extreme_sum : (weights : List ℤ) → of (sum_table weights) ≡ exact_sum (keep test weights)
  extreme_sum weights =
      let m = met weights in
      extreme_is e (sum_table weights) (exact_sum (keep test weights)) m.0 (rw table_length m.1.0)
      (m.1.1 ∙ sym (table_at weights m.0 m.1.0))
      (λ i l. ap (le (exact_sum (keep test weights))) (table_at weights i (rw table_length at l)) ∙ before_sum weights i)

-- ---- the least and the greatest

pub least_of_sums : (weights : List ℤ) → least_of (sum_table weights) ≡ least_sum weights
unfolding least_sum
least_of_sums = extreme_sum leasts (λ w. lt_z w (pos 0)) (λ w. lt_z_le w (pos 0)) (λ w. lt_z_turn w (pos 0))

pub greatest_of_sums : (weights : List ℤ) → greatest_of (sum_table weights) ≡ greatest_sum weights
unfolding greatest_sum
greatest_of_sums = extreme_sum greatests (λ w. lt_z (pos 0) w) (λ w. lt_z_le (pos 0) w) (λ w. lt_z_turn (pos 0) w)

module _ (weights : List ℤ) where
  some_sum : 0 < length (sum_table weights)
  some_sum = rw table_length (pow_pos (length weights))

  -- Over all X.
  pub least_over_sums : LeastOver (Domain (length weights)) (sum_at weights) (least_sum weights)
  least_over_sums =
      let low = leasts.among (sum_table weights) some_sum in
      let inside : low.0 < 2 ^ length weights = rw table_length at low.1.0 in
      record {
        under = λ x l. (at_most_test _ _).0 (ap₂ le_z (sym (least_of_sums weights)) (sym (table_at weights x l)) ∙ leasts.before (sum_table weights) x (rw table_length l));
        met = (low.0, (inside, sym (least_of_sums weights) ∙ low.1.1 ∙ table_at weights low.0 inside));
      }

  pub greatest_over_sums : GreatestOver (Domain (length weights)) (sum_at weights) (greatest_sum weights)
  greatest_over_sums =
      let high = greatests.among (sum_table weights) some_sum in
      let inside : high.0 < 2 ^ length weights = rw table_length at high.1.0 in
      record {
        above = λ x l. (at_most_test _ _).0 (ap₂ le_z (sym (table_at weights x l)) (sym (greatest_of_sums weights)) ∙ greatests.before (sum_table weights) x (rw table_length l));
        met = (high.0, (inside, sym (greatest_of_sums weights) ∙ high.1.1 ∙ table_at weights high.0 inside));
      }

  -- So these two decide whether every sum is a value.
  value_between : (z : ℤ) → le_z (least_sum weights) z ≡ true → le_z z (greatest_sum weights) ≡ true → (is_value (least_sum weights) && is_value (greatest_sum weights)) ≡ true → is_value z ≡ true
  unfolding is_value within
  value_between z p q h =
      let b = both (is_value (least_sum weights)) (is_value (greatest_sum weights)) h in
      let low = neg_ℤ (pos 8388608) in
      let high = pos 8388607 in
      and_both (le_z low z) (le_z z high)
      (le_z_trans low (least_sum weights) z (both (le_z low (least_sum weights)) (le_z (least_sum weights) high) b.0).0 p)
      (le_z_trans z (greatest_sum weights) high q (both (le_z low (greatest_sum weights)) (le_z (greatest_sum weights) high) b.1).1)

  pub values_by_extremes : every is_value (sum_table weights) ≡ (is_value (least_sum weights) && is_value (greatest_sum weights))
  values_by_extremes =
      let table = sum_table weights in
      let low = leasts.among table some_sum in
      let high = greatests.among table some_sum in
      yes_or_no (is_value (least_sum weights) && is_value (greatest_sum weights))
      (λ h.
      every_from is_value table (pos 0)
      (λ j l. value_between (get_or table j (pos 0)) (ap (λ z. le_z z (get_or table j (pos 0))) (sym (least_of_sums weights)) ∙ leasts.before table j l) (ap (le_z (get_or table j (pos 0))) (sym (greatest_of_sums weights)) ∙ greatests.before table j l) h)
      ∙ sym h)
      (λ h.
      yes_or_no (every is_value table)
      (λ a.
      absurd (true≢false (sym (and_both (is_value (least_sum weights)) (is_value (greatest_sum weights))
      (ap is_value (sym (least_of_sums weights) ∙ low.1.1) ∙ every_at is_value table (pos 0) a low.0 low.1.0)
      (ap is_value (sym (greatest_of_sums weights) ∙ high.1.1) ∙ every_at is_value table (pos 0) a high.0 high.1.0)) ∙ h)))
      (λ a. a ∙ sym h))

-- ---- weight by weight

module _ (weights : List ℤ) (w : ℤ) where
  kept_more : (test : ℤ → Bool) → test w ≡ true → exact_sum (keep test (weights ++ w ∷ [])) ≡ exact_sum (keep test weights) +ℤ w
  kept_more test t = ap exact_sum (keep_append test weights (w ∷ []) ∙ ap (λ l. keep test weights ++ l) (keep_one test w t)) ∙ sum_snoc (keep test weights) w

  kept_still : (test : ℤ → Bool) → test w ≡ false → exact_sum (keep test (weights ++ w ∷ [])) ≡ exact_sum (keep test weights)
  kept_still test t = ap exact_sum (keep_append test weights (w ∷ []) ∙ ap (λ l. keep test weights ++ l) (keep_other test w t) ∙ append-nil (keep test weights))

  -- A negative weight is added to the least sum, any other to the greatest.
  pub least_more : lt_z w (pos 0) ≡ true → least_sum (weights ++ w ∷ []) ≡ least_sum weights +ℤ w
  unfolding least_sum
  least_more n = kept_more (λ z. lt_z z (pos 0)) n

  pub least_still : lt_z w (pos 0) ≡ false → least_sum (weights ++ w ∷ []) ≡ least_sum weights
  unfolding least_sum
  least_still n = kept_still (λ z. lt_z z (pos 0)) n

  pub greatest_still : lt_z w (pos 0) ≡ true → greatest_sum (weights ++ w ∷ []) ≡ greatest_sum weights
  unfolding greatest_sum
  greatest_still n =
      yes_or_no (lt_z (pos 0) w)
      (λ p. absurd (apart w n p))
      (λ p. kept_still (λ z. lt_z (pos 0) z) p)
    where
      apart : (z : ℤ) → lt_z z (pos 0) ≡ true → lt_z (pos 0) z ≡ true → ⊥
      apart (pos a) h k = let l = ltb-true a 0 h in omega arith
      apart (negsuc a) h k = false≢true k

  pub greatest_more : lt_z w (pos 0) ≡ false → greatest_sum (weights ++ w ∷ []) ≡ greatest_sum weights +ℤ w
  unfolding greatest_sum
  greatest_more n =
      yes_or_no (lt_z (pos 0) w)
      (λ p. kept_more (λ z. lt_z (pos 0) z) p)
      (λ p.
      let none : w ≡ pos 0 = le_z_antisym w (pos 0) (lt_z_turn (pos 0) w p) (lt_z_turn w (pos 0) n) in
      kept_still (λ z. lt_z (pos 0) z) p ∙ sym (ap (λ z. exact_sum (keep (λ z. lt_z (pos 0) z) weights) +ℤ z) none ∙ +ℤ_idr (exact_sum (keep (λ z. lt_z (pos 0) z) weights))))

-- ---- how great sums are

-- The sum of what passes a test.
kept_small : (test : ℤ → Bool) (weights : List ℤ) → every is_value weights ≡ true → mag (exact_sum (keep test weights)) ≤ length weights * 8388608
kept_small test weights values =
    let s = sum_small 8388607 (keep test weights) (kept_all test (λ w. mag w ≤ 8388607) (pos 0) weights (λ k l t. value_mag (get_or weights k (pos 0)) (every_at is_value weights (pos 0) values k l))) in
    let few = mul-le-mul_right 8388608 (keep_length test weights) in
    omega arith

pub least_small : (weights : List ℤ) → every is_value weights ≡ true → mag (least_sum weights) ≤ length weights * 8388608
unfolding least_sum
least_small = kept_small (λ w. lt_z w (pos 0))

pub greatest_small : (weights : List ℤ) → every is_value weights ≡ true → mag (greatest_sum weights) ≤ length weights * 8388608
unfolding greatest_sum
greatest_small = kept_small (λ w. lt_z (pos 0) w)

-- The sum at X.
pub sum_at_small : (weights : List ℤ) → every is_value weights ≡ true → (x : ℕ) → mag (sum_at weights x) ≤ length weights * 8388608
unfolding sum_at every exact_sum keep numbers_from
sum_at_small [] values x = omega arith
sum_at_small (w ∷ weights) values x =
    let b = both (is_value w) (every is_value weights) values in
    let rest = sum_at_small weights b.1 (x / 2) in
    let here = one_or_none (λ z. mag z ≤ 8388607) w x (omega arith) (value_mag w b.0) in
    let m = mag_add (sum_at (w ∷ []) (x % 2)) (sum_at weights (x / 2)) in
    rw (sum_cons w weights x) (omega arith)
