-- The classes of a cut: same number exactly for equal differences, numbers by first appearance and all used, and what one class shares.
use Rattle.std.specs.Prelude.{ℕ, ◌+◌, ◌-◌, ◌*◌, ◌^◌, ◌≤◌, ◌<◌, ◌≡◌, ◌↔◌, length, take, pos, ◌-ℤ◌}
use Rattle.std.proofs.Math.Path.{sym, ap}
use Rattle.std.proofs.Common.{◌∙◌, mul-one, pow_pos, pow-add}
use mathlib.Core.List.{List, [], ◌∷◌, map}
use Rattle.std.proofs.Math.Nat.{sub_self, pow-zero, zero-add}
use native.Mathlib.Omega.{arith}
use Rattle.std.proofs.Math.ListN.{get_or, length-map}
use Rattle.std.proofs.Math.IntN.{ℤ}
use Rattle.numbers.specs.Lists.{numbers_from}
use Rattle.numbers.proofs.Laws.Lists.{length_range, get_d_range, get_d_map}
use Rattle.numbers.proofs.Laws.Powers.{part_room}
use Rattle.blocks.specs.Blocks.{block, blocks, first, differences}
use Rattle.blocks.specs.Classes.{number_in, distinct, classes, class_count, class_of}
use Rattle.blocks.proofs.Laws.Blocks.{blocks_count, block_length, block_within, first_of_block}
use Rattle.blocks.proofs.Laws.Differences.{single_difference, same_parts, same_weight}
use Rattle.blocks.proofs.Laws.Known.{number_at, distinct_known, number_when_met, own_distinct, Among, distinct_seen, distinct_length, distinct_one}

-- The differences of the blocks of cut h, left to right.
unfoldable pub cut_differences : ℕ → List ℤ → ℕ → List (List ℤ)
cut_differences n table h = map differences (blocks n table (n - h))

module _ (n : ℕ) (table : List ℤ) (h : ℕ) (cut : h ≤ n) where
  pub cut_length : length (cut_differences n table h) ≡ 2 ^ h
  unfolding cut_differences
  cut_length =
      length-map (blocks n table (n - h)) differences
      ∙ blocks_count n table (n - h)
      ∙ ap (λ k. 2 ^ k) (let e : n - (n - h) ≡ h = omega arith in e)

  pub cut_at : (j : ℕ) → j < 2 ^ h → get_or (cut_differences n table h) j [] ≡ differences (block table (n - h) j)
  unfolding cut_differences blocks
  cut_at j l =
      get_d_map differences (blocks n table (n - h)) j [] [] below
      ∙ ap differences (get_d_map (block table (n - h)) (numbers_from 0 (2 ^ (n - (n - h)))) j 0 [] below' ∙ ap (block table (n - h)) (get_d_range 0 (2 ^ (n - (n - h))) j 0 below'' ∙ zero-add j))
    where
      below'' : j < 2 ^ (n - (n - h))
      below'' = rw (let e : n - (n - h) ≡ h = omega arith in e) l

      below' : j < length (numbers_from 0 (2 ^ (n - (n - h))))
      below' = rw length_range below''

      below : j < length (blocks n table (n - h))
      below = rw blocks_count below''

  within_cut : (j : ℕ) → j < 2 ^ h → j < length (cut_differences n table h)
  within_cut j l = rw cut_length l

  -- Classes are below their count.
  pub class_below : (j : ℕ) → j < 2 ^ h → class_of n table h (block table (n - h) j) < class_count n table h
  unfolding class_of class_count classes cut_differences
  class_below j l = rw (cut_at j l) at (distinct_known (cut_differences n table h) j (within_cut j l))

  -- What a class stands for.
  pub class_stands : (j : ℕ) → j < 2 ^ h → get_or (classes n table h) (class_of n table h (block table (n - h) j)) [] ≡ differences (block table (n - h) j)
  unfolding class_of class_count
  class_stands j l = number_at (classes n table h) (differences (block table (n - h) j)) (class_below j l)

  -- Two blocks have one class exactly when their differences are equal.
  pub same_class : (j k : ℕ) → j < 2 ^ h → k < 2 ^ h → (class_of n table h (block table (n - h) j) ≡ class_of n table h (block table (n - h) k)) ↔ (differences (block table (n - h) j) ≡ differences (block table (n - h) k))
  unfolding class_of
  same_class j k lj lk = (
    (λ e. sym (class_stands j lj) ∙ ap (λ c. get_or (classes n table h) c []) e ∙ class_stands k lk),
    (λ e. ap (number_in (classes n table h)) e),
  )

  -- Left to right: a block's class is that of the first earlier block with equal differences, or the next new number.
  pub class_by_appearance : (j : ℕ) → j < 2 ^ h → class_of n table h (block table (n - h) j) ≡ number_in (distinct (take j (cut_differences n table h))) (differences (block table (n - h) j))
  unfolding class_of classes cut_differences
  class_by_appearance j l = rw (cut_at j l) at (number_when_met (cut_differences n table h) j (within_cut j l))

  -- Every number below the count is the class of some block.
  pub class_used : (c : ℕ) → c < class_count n table h → (j : ℕ) × ((j < 2 ^ h) × (class_of n table h (block table (n - h) j) ≡ c))
  unfolding class_of class_count classes cut_differences Among
  class_used c l =
      let s = distinct_seen (cut_differences n table h) c l in
      let j = s.0 in
      let lj : j < 2 ^ h = rw cut_length at s.1.0 in (
        j,
        (
          lj,
          ap (number_in (distinct (cut_differences n table h))) (sym (cut_at j lj) ∙ s.1.1)
              ∙ own_distinct (cut_differences n table h) c l,
        ),
      )

  -- A cut has no more classes than blocks.
  pub class_count_le : class_count n table h ≤ 2 ^ h
  unfolding class_count classes cut_differences
  class_count_le = rw cut_length at (distinct_length (cut_differences n table h))

  -- Where all blocks have equal differences there is one class.
  one_class : (d : List ℤ) → ((j : ℕ) → j < 2 ^ h → differences (block table (n - h) j) ≡ d) → class_count n table h ≡ 1
  unfolding class_count classes cut_differences
  one_class d all =
      distinct_one d (cut_differences n table h)
      (λ j l. let l' : j < 2 ^ h = rw cut_length at l in cut_at j l' ∙ all j l')
      (rw cut_length (pow_pos h))

-- At cut 0 there is one class.
pub one_class_at_top : (n : ℕ) (table : List ℤ) → class_count n table 0 ≡ 1
one_class_at_top n table =
    one_class n table 0 (omega arith) (differences (block table (n - 0) 0)) (λ j l. ap (λ k. differences (block table (n - 0) k)) (let e : j ≡ 0 = omega (arith, pow-zero 2) in e))

-- And at cut n, whose blocks are single values.
pub one_class_at_bottom : (n : ℕ) (table : List ℤ) → length table ≡ 2 ^ n → class_count n table n ≡ 1
one_class_at_bottom n table e = one_class n table n (omega arith) (pos 0 ∷ []) single
  where
    single : (j : ℕ) → j < 2 ^ n → differences (block table (n - n) j) ≡ pos 0 ∷ []
    single j l =
        rw sub_self
        (single_difference (block table 0 j) (block_length table 0 j (rw (pow-zero, mul-one) (omega arith)) ∙ pow-zero 2))

-- Blocks of one class share, at every cut below and for every group value, the class of the sub-block and its weight.
module _ (n : ℕ) (table : List ℤ) (whole : length table ≡ 2 ^ n) (h : ℕ) (cut : h ≤ n) (j k : ℕ) (lj : j < 2 ^ h) (lk : k < 2 ^ h) where
  pub one_class_shares : class_of n table h (block table (n - h) j) ≡ class_of n table h (block table (n - h) k) → (g v : ℕ) → h + g ≤ n → v < 2 ^ g
      → (class_of n table (h + g) (block (block table (n - h) j) (n - (h + g)) v) ≡ class_of n table (h + g) (block (block table (n - h) k) (n - (h + g)) v))
      × (first (block (block table (n - h) j) (n - (h + g)) v) -ℤ first (block table (n - h) j) ≡ first (block (block table (n - h) k) (n - (h + g)) v) -ℤ first (block table (n - h) k))
  unfolding class_of
  one_class_shares e g v ends lv = (
    ap (number_in (classes n table (h + g))) (same_parts left right alike i v),
    ap (λ z. z -ℤ first left) (first_of_block left i v)
        ∙ same_weight left right alike (v * 2 ^ i) within
        ∙ ap (λ z. z -ℤ first right) (sym (first_of_block right i v)),
  )
    where
      left : List ℤ
      left = block table (n - h) j

      right : List ℤ
      right = block table (n - h) k

      i : ℕ
      i = n - (h + g)

      alike : differences left ≡ differences right
      alike = (same_class n table h cut j k lj lk).0 e

      long : length left ≡ 2 ^ (n - h)
      long = block_length table (n - h) j (rw whole (block_within n h j cut lj))

      parts : 2 ^ g * 2 ^ i ≡ 2 ^ (n - h)
      parts = sym (pow-add 2 g i) ∙ ap (λ m. 2 ^ m) (let d : g + (n - (h + g)) ≡ n - h = omega arith in d)

      within : v * 2 ^ i < length left
      within = let r = part_room (2 ^ g) i v lv in let p = pow_pos i in omega (arith, long, parts)
