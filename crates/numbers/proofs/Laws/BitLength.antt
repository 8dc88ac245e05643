-- The length of a number in bits: the least, what leading zeros leave, and what both widths come down to.
use Rattle.std.specs.Prelude.{ℕ, zero, suc, ◌+◌, ◌-◌, ◌*◌, ◌^◌, ◌≤◌, ◌<◌, max, ◌≡◌, refl, ◌↔◌, Bool, true, false, not, ◌||◌, List, [], ◌∷◌, ltb, length, get_or, ℤ, pos, negsuc}
use Rattle.std.proofs.Common.{sym, ◌∙◌, le_antisymm, arith, pow_mono, pow_pos, ltb-true, lt-ltb, le-ltb}
use Rattle.std.proofs.Math.Path.{ap}
use Rattle.std.proofs.lemmas.Bool.{false≢true}
use Rattle.std.proofs.Math.Bool.{true≢false}
use Rattle.std.proofs.Math.Nat.{two-pow-succ}
use Rattle.std.proofs.Math.Decide.{dec_lt}
use Rattle.std.specs.Int.Count.{count_leading_zeros}
use Rattle.std.proofs.lemmas.Nat.{leading_length}
use Rattle.std.specs.Int.Signed.{mag, lt_z, non_neg}
use Rattle.numbers.specs.Lists.{every}
use Rattle.numbers.specs.Inner.Bits.{bit_length, greatest_part}
use Rattle.numbers.specs.Ranges.{is_weight}
use Rattle.numbers.specs.Widths.{rail_width, holds, holds_unsigned, least_width, none_negative, weight_width}
use Rattle.numbers.proofs.Laws.Bools.{yes_or_no, both, and_both}
use Rattle.numbers.proofs.Laws.Bounds.{weight_mag}
use Rattle.numbers.proofs.Laws.Integers.{eq_z_true}
use Rattle.numbers.proofs.Laws.Least.{least_passes, least_le}
use Rattle.numbers.proofs.Laws.Lists.{every_at, every_from}
use Rattle.numbers.proofs.Laws.Powers.{below_power}
use Rattle.numbers.proofs.Laws.Widths.{rail_width_tells, rail_width_least, holds_suc, holds_enough, least_width_holds, least_width_le, signed_width, unsigned_width_holds, unsigned_width_least}

pub bit_length_holds : (a : ℕ) → a < 2 ^ bit_length a
unfolding bit_length
bit_length_holds a = ltb-true a _ (least_passes (λ k. ltb a (2 ^ k)) a (lt-ltb a (2 ^ a) (below_power a)))

pub bit_length_least : (a k : ℕ) → a < 2 ^ k → bit_length a ≤ k
unfolding bit_length
bit_length_least a k h = least_le (λ k. ltb a (2 ^ k)) a k (lt-ltb a (2 ^ k) h)

-- Of k digits, those that are not leading zeros.
pub bit_length_zeros : (k a : ℕ) → a < 2 ^ k → k - count_leading_zeros k a ≡ bit_length a
bit_length_zeros k a h = exact (leading_length k a h)
  where
    exact : (m : ℕ) × (count_leading_zeros k a + m ≡ k) × (a < 2 ^ m) × (2 ^ m ≤ 2 * a + 1) → k - count_leading_zeros k a ≡ bit_length a
    exact s = (let e = s.1 in let d : k - count_leading_zeros k a ≡ s.0 = omega arith in d) ∙ le_antisymm (not_less (dec_lt (bit_length a) s.0)) (bit_length_least a s.0 s.2)
      where
        not_less : Dec (bit_length a < s.0) → s.0 ≤ bit_length a
        not_less (yes l) =
            absurd
            (let p = bit_length_holds a in
            let q : 2 ^ suc (bit_length a) ≤ 2 ^ s.0 = pow_mono l in
            omega (arith, two-pow-succ (bit_length a), s.3))
        not_less (no l) = omega arith

-- The rail width of a count is the length of the count less one.
pub rail_width_bits : (a : ℕ) → rail_width (suc a) ≡ bit_length a
rail_width_bits a =
    le_antisymm
    (rail_width_least (suc a) (bit_length a) (bit_length_holds a))
    (bit_length_least a (rail_width (suc a)) (rail_width_tells (suc a)))

-- ---- the weight width, by the greatest unsigned part

-- A test of unsigned parts holds of every weight exactly where it holds of the greatest.
all_below : (test : ℤ → Bool) (k : ℕ) → 0 < k → (weights : List ℤ) → ((j : ℕ) → j < length weights → test (get_or weights j (pos 0)) ≡ ltb (mag (get_or weights j (pos 0))) k) → (every test weights ≡ true) ↔ (greatest_part weights < k)
unfolding every greatest_part
all_below test k some [] tells = ((λ h. some), (λ h. refl))
all_below test k some (z ∷ weights) tells =
    let rest = all_below test k some weights (λ j l. tells (suc j) (omega arith)) in
    let here = tells 0 (omega arith) in (
      (λ h.
          let parts = both (test z) (every test weights) h in
          let a = ltb-true (mag z) k (sym here ∙ parts.0) in
          let b = rest.0 parts.1 in
          omega arith),
      (λ h. and_both (test z) (every test weights) (here ∙ lt-ltb (mag z) k (omega arith)) (rest.1 (omega arith))),
    )

-- Without a sign a weight that is not negative is held by its unsigned part.
below_part : (a : ℕ) (z : ℤ) → non_neg z ≡ true → holds_unsigned a z ≡ ltb (mag z) (2 ^ a)
unfolding holds_unsigned
below_part a (pos m) plain = refl
below_part a (negsuc m) plain = absurd (false≢true plain)

module _ (weights : List ℤ) where
  signed_held : (a : ℕ) → (every (holds (suc a)) weights ≡ true) ↔ (greatest_part weights < 2 ^ a)
  signed_held a = all_below (holds (suc a)) (2 ^ a) (pow_pos a) weights (λ j l. holds_suc a (get_or weights j (pos 0)))

  unsigned_held : none_negative weights ≡ true → (a : ℕ) → (every (holds_unsigned a) weights ≡ true) ↔ (greatest_part weights < 2 ^ a)
  unfolding none_negative
  unsigned_held plain a = all_below (holds_unsigned a) (2 ^ a) (pow_pos a) weights (λ j l. below_part a (get_or weights j (pos 0)) (every_at non_neg weights (pos 0) plain j l))

  -- Without a negative weight it is the length of the greatest unsigned part.
  pub unsigned_length : none_negative weights ≡ true → weight_width weights ≡ bit_length (greatest_part weights)
  unsigned_length plain =
      let most = greatest_part weights in
      le_antisymm
      (unsigned_width_least weights plain (bit_length most) ((unsigned_held plain (bit_length most)).1 (bit_length_holds most)))
      (bit_length_least most (weight_width weights) ((unsigned_held plain (weight_width weights)).0 (unsigned_width_holds weights plain)))

  -- In two's complement weights that are not all 0 have one bit more.
  pub complement_length : (every (holds 0) weights ≡ true → ⊥) → least_width holds weights ≡ suc (bit_length (greatest_part weights))
  complement_length some =
      let most = greatest_part weights in
      le_antisymm
      (least_width_le holds weights (suc (bit_length most)) ((signed_held (bit_length most)).1 (bit_length_holds most)))
      (at_least (least_width holds weights) (least_width_holds holds holds_enough weights))
    where
      at_least : (w : ℕ) → every (holds w) weights ≡ true → suc (bit_length (greatest_part weights)) ≤ w
      at_least zero h = absurd (some h)
      at_least (suc v) h = let b = bit_length_least (greatest_part weights) v ((signed_held v).0 h) in omega arith

  -- With a negative weight it is that.
  pub signed_length : none_negative weights ≡ false → weight_width weights ≡ suc (bit_length (greatest_part weights))
  unfolding holds none_negative
  signed_length signed =
      signed_width weights signed
      ∙ complement_length
      (λ h.
      true≢false
      (sym (every_from non_neg weights (pos 0) (λ j l. ap non_neg (eq_z_true (get_or weights j (pos 0)) (pos 0) (every_at (holds zero) weights (pos 0) h j l)))) ∙ signed))

  -- Weights of unsigned parts below 2^a have at most a + 1 bits.
  pub weight_width_within : (a : ℕ) → greatest_part weights < 2 ^ a → weight_width weights ≤ suc a
  weight_width_within a h =
      let b = bit_length_least (greatest_part weights) a h in
      yes_or_no (none_negative weights)
      (λ plain. let w = unsigned_length plain in omega arith)
      (λ signed. let w = signed_length signed in omega arith)

-- The unsigned parts of weights in range are below 2^24.
parts_small : (weights : List ℤ) → every is_weight weights ≡ true → greatest_part weights < 2 ^ 24
parts_small weights h =
    (all_below (λ z. ltb (mag z) (2 ^ 24)) (2 ^ 24) (pow_pos 24) weights (λ j l. refl)).0
    (every_from (λ z. ltb (mag z) (2 ^ 24)) weights (pos 0)
    (λ j l. lt-ltb (mag (get_or weights j (pos 0))) (2 ^ 24) (let m = weight_mag (get_or weights j (pos 0)) (every_at is_weight weights (pos 0) h j l) in omega arith)))

-- No cell has a weight width of more than 25, nor would any in two's complement.
pub weight_width_most : (weights : List ℤ) → every is_weight weights ≡ true → weight_width weights ≤ 25
weight_width_most weights h = weight_width_within weights 24 (parts_small weights h)

pub signed_width_most : (weights : List ℤ) → every is_weight weights ≡ true → least_width holds weights ≤ 25
signed_width_most weights h = least_width_le holds weights 25 ((signed_held weights 24).1 (parts_small weights h))

-- ---- two weights

-- Neither is negative exactly where both tests for it fail.
pub pair_sign : (low high : ℤ) → none_negative (low ∷ high ∷ []) ≡ not (lt_z low (pos 0) || lt_z high (pos 0))
unfolding none_negative every
pair_sign (pos a) (pos b) = rw (le-ltb a 0 (omega arith), le-ltb b 0 (omega arith))
pair_sign (pos a) (negsuc b) = rw (le-ltb a 0 (omega arith))
pair_sign (negsuc a) high = refl

-- The greater of two unsigned parts is the greatest.
pub pair_part : (low high : ℤ) → max (mag low) (mag high) ≡ greatest_part (low ∷ high ∷ [])
unfolding greatest_part
pair_part low high = omega arith
