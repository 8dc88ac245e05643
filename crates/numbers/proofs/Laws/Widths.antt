-- Both widths are the least: the rail width tells the classes apart, the weight width holds every weight, and none less does.
use Rattle.std.specs.Prelude.{ℕ, zero, suc, ◌-◌, ◌^◌, ◌≤◌, ◌<◌, ◌≡◌, ◌↔◌, Bool, true, false, leb, ltb, get_or, ℤ, pos, negsuc, neg_ℤ}
use Rattle.std.proofs.Math.Path.{refl}
use Rattle.std.proofs.Common.{sym, ◌∙◌, ap, le_trans, le_of_lt, lt_of_lt_of_le, arith, pow_mono, leb-true, le-leb, lt-ltb, ltb-true, eq-eqb}
use Rattle.std.proofs.lemmas.Bool.{false≢true}
use Rattle.std.proofs.Math.Bool.{and-true}
use mathlib.Core.List.{List, [], ◌∷◌}
use Rattle.std.proofs.Math.Nat.{le-max_left, le-max_right}
use Rattle.std.proofs.Math.Dec.{leb-suc-suc}
use Rattle.std.proofs.Math.Pow.{suc_ones}
use Rattle.std.specs.Int.Signed.{mag, non_neg}
use Rattle.numbers.specs.Lists.{every, least}
use Rattle.numbers.specs.Ranges.{within, eq_z}
use Rattle.numbers.specs.Widths.{rail_width, holds, holds_unsigned, enough, least_width, none_negative, weight_width}
use Rattle.numbers.proofs.Laws.Bools.{yes_or_no, and_both}
use Rattle.numbers.proofs.Laws.Integers.{eq_z_true}
use Rattle.numbers.proofs.Laws.Least.{least_passes, least_le}
use Rattle.numbers.proofs.Laws.Lists.{every_at, every_from}
use Rattle.numbers.proofs.Laws.Powers.{below_power}

-- ---- rail width

pub rail_width_tells : (count : ℕ) → count ≤ 2 ^ rail_width count
unfolding rail_width
rail_width_tells count =
    leb-true count (2 ^ least (λ w. leb count (2 ^ w)) count)
    (least_passes (λ w. leb count (2 ^ w)) count (le-leb count (2 ^ count) (le_of_lt (below_power count))))

pub rail_width_least : (count w : ℕ) → count ≤ 2 ^ w → rail_width count ≤ w
unfolding rail_width
rail_width_least count w h = least_le (λ w. leb count (2 ^ w)) count w (le-leb count (2 ^ w) h)

-- ---- weight width

-- A range from -(p + 1) to p.
within_mag : (p : ℕ) (z : ℤ) → within (negsuc p) (pos p) z ≡ leb (mag z) p
unfolding within
within_mag p (pos m) = refl
within_mag p (negsuc m) = and-true (leb m p)

-- a + 1 bits hold what has an unsigned part below 2^a.
pub holds_suc : (a : ℕ) (z : ℤ) → holds (suc a) z ≡ ltb (mag z) (2 ^ a)
unfolding holds
holds_suc a z =
    ap (λ (x : ℤ). within (neg_ℤ x) (pos (2 ^ a - 1)) z) (ap pos (sym (suc_ones a)))
    ∙ within_mag (2 ^ a - 1) z
    ∙ sym (leb-suc-suc (mag z) (2 ^ a - 1))
    ∙ ap (leb (suc (mag z))) (suc_ones a)

-- More bits than the unsigned part hold a weight.
pub holds_enough : (a : ℕ) (z : ℤ) → mag z < a → holds a z ≡ true
holds_enough zero z h = absurd (omega arith)
holds_enough (suc a) z h = holds_suc a z ∙ lt-ltb (mag z) (2 ^ a) (lt_of_lt_of_le (below_power (mag z)) (pow_mono (omega arith)))

-- So does it without a sign.
below_enough : (a : ℕ) (z : ℤ) → mag z < a → holds_unsigned a z ≡ true
unfolding holds_unsigned
below_enough a (pos m) h = lt-ltb m _ (let p = below_power m in let q : 2 ^ m ≤ 2 ^ a = pow_mono (omega arith) in omega arith)
below_enough a (negsuc m) h = refl

-- The least width by a rule by which more bits than the unsigned part hold a weight: it holds every weight, and none less does.
module _ (rule : ℕ → ℤ → Bool) where
  all_held : ((a : ℕ) (z : ℤ) → mag z < a → rule a z ≡ true) → (weights : List ℤ) (a : ℕ) → enough weights ≤ a → every (rule a) weights ≡ true
  unfolding every enough
  all_held held [] a h = refl
  all_held held (z ∷ weights) a h =
      and_both (rule a z) (every (rule a) weights)
      (held a z (le_trans (le-max_left (suc (mag z)) (enough weights)) h))
      (all_held held weights a (le_trans (le-max_right (suc (mag z)) (enough weights)) h))

  pub least_width_holds : ((a : ℕ) (z : ℤ) → mag z < a → rule a z ≡ true) → (weights : List ℤ) → every (rule (least_width rule weights)) weights ≡ true
  unfolding least_width
  least_width_holds held weights = least_passes (λ a. every (rule a) weights) (enough weights) (all_held held weights (enough weights) (omega arith))

  pub least_width_le : (weights : List ℤ) (a : ℕ) → every (rule a) weights ≡ true → least_width rule weights ≤ a
  unfolding least_width
  least_width_le weights a h = least_le (λ a. every (rule a) weights) (enough weights) a h

-- Without a negative weight every weight is below 2^a for the width a, and for none less.
module _ (weights : List ℤ) (plain : none_negative weights ≡ true) where
  pub unsigned_width_holds : every (holds_unsigned (weight_width weights)) weights ≡ true
  unfolding weight_width
  unsigned_width_holds = rw plain (least_width_holds holds_unsigned below_enough weights)

  pub unsigned_width_least : (a : ℕ) → every (holds_unsigned a) weights ≡ true → weight_width weights ≤ a
  unfolding weight_width
  unsigned_width_least a h = rw plain (least_width_le holds_unsigned weights a h)

-- With one, the width holds every weight in two's complement, and none less does.
module _ (weights : List ℤ) (signed : none_negative weights ≡ false) where
  pub signed_width : weight_width weights ≡ least_width holds weights
  unfolding weight_width
  signed_width = rw signed

  pub signed_width_holds : every (holds (weight_width weights)) weights ≡ true
  unfolding weight_width
  signed_width_holds = rw signed (least_width_holds holds holds_enough weights)

  pub signed_width_least : (a : ℕ) → every (holds a) weights ≡ true → weight_width weights ≤ a
  unfolding weight_width
  signed_width_least a h = rw signed (least_width_le holds weights a h)

-- ---- weights that are all 0

zero_alone : (z : ℤ) → non_neg z ≡ true → holds_unsigned 0 z ≡ true → eq_z z (pos 0) ≡ true
unfolding holds_unsigned eq_z
zero_alone (pos m) plain h = eq-eqb m 0 (let l = ltb-true m 1 h in omega arith)
zero_alone (negsuc m) plain h = absurd (false≢true plain)

zeros_unsigned : (weights : List ℤ) → every (λ z. eq_z z (pos 0)) weights ≡ true → every (holds_unsigned 0) weights ≡ true
unfolding holds_unsigned
zeros_unsigned weights h =
    every_from (holds_unsigned 0) weights (pos 0)
    (λ j l. ap (holds_unsigned 0) (eq_z_true (get_or weights j (pos 0)) (pos 0) (every_at (λ z. eq_z z (pos 0)) weights (pos 0) h j l)))

-- No bit is enough exactly where every weight is 0.
pub weight_width_zero : (weights : List ℤ) → (weight_width weights ≡ 0) ↔ (every (λ z. eq_z z (pos 0)) weights ≡ true)
unfolding holds none_negative
weight_width_zero weights = (
  (λ e.
      yes_or_no (none_negative weights)
      (λ plain.
      let below : every (holds_unsigned 0) weights ≡ true = rw e at (unsigned_width_holds weights plain) in
      every_from (λ z. eq_z z (pos 0)) weights (pos 0)
      (λ j l. zero_alone (get_or weights j (pos 0)) (every_at non_neg weights (pos 0) plain j l) (every_at (holds_unsigned 0) weights (pos 0) below j l)))
      (λ signed. rw e at (signed_width_holds weights signed))),
  (λ h.
      yes_or_no (none_negative weights)
      (λ plain. let w = unsigned_width_least weights plain 0 (zeros_unsigned weights h) in omega arith)
      (λ signed. let w = signed_width_least weights signed 0 h in omega arith)),
)
