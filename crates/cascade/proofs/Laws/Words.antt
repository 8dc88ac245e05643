-- The words of a cell: how many there are, which block each one stands for, and their classes and weights.
use Rattle.std.specs.Prelude.{ℕ, ◌+◌, ◌-◌, ◌*◌, ◌/◌, ◌%◌, ◌^◌, ◌≤◌, ◌<◌, ◌≡◌, true, length, ℤ, pos, ◌-ℤ◌}
use Rattle.std.proofs.Common.{sym, ◌∙◌, ap₂, mul_assoc, mod-lt, div-add-mod', div-lt_iff_lt-mul, arith, pow_pos, pow-add}
use Rattle.std.proofs.Math.Path.{ap}
use mathlib.Core.List.{List, [], map}
use Rattle.std.proofs.Math.Nat.{zero-add, mul_comm}
use Rattle.std.proofs.Math.ListN.{get_or}
use Rattle.std.proofs.lemmas.List.{length-map}
use Rattle.numbers.specs.Lists.{numbers_from, every}
use Rattle.numbers.specs.Ranges.{is_value, is_weight}
use Rattle.numbers.proofs.Laws.Bounds.{difference_weight}
use Rattle.numbers.proofs.Laws.Integers.{sub_self, sub_zero}
use Rattle.numbers.proofs.Laws.Lists.{length_range, get_d_range, get_d_map, every_at}
use Rattle.numbers.proofs.Laws.Powers.{part_room}
use Rattle.numbers.proofs.Laws.Selections.{length_flat_map, get_d_flat_map}
use Rattle.blocks.specs.Blocks.{block, first, differences}
use Rattle.blocks.specs.Classes.{number_in, classes, class_count, class_of}
use Rattle.blocks.proofs.Laws.Blocks.{block_length, first_of_block, block_within, block_in_block}
use Rattle.blocks.proofs.Laws.Classes.{class_below, class_stands, class_used}
use Rattle.blocks.proofs.Laws.Differences.{differences_at, first_differences, differences_of_block}
use Rattle.image.specs.Cells.{Word}
use Rattle.cascade.specs.Cascade.{word_of, words_of}

-- ---- words by class and group value

module _ (n : ℕ) (table : List ℤ) (h g : ℕ) where
  -- A class has a word for each group value.
  class_words : (values : List ℤ) → length (map (word_of n table h g values) (numbers_from 0 (2 ^ g))) ≡ 2 ^ g
  class_words values = length-map (numbers_from 0 (2 ^ g)) (word_of n table h g values) ∙ length_range 0 (2 ^ g)

  -- As many words as classes times group values.
  pub words_count : length (words_of n table h g) ≡ class_count n table h * 2 ^ g
  unfolding words_of class_count
  words_count =
      length_flat_map (λ values. map (word_of n table h g values) (numbers_from 0 (2 ^ g))) (2 ^ g) class_words (classes n table h)
      ∙ mul_comm (2 ^ g) (length (classes n table h))

  -- The word for a class and a group value is worked out from the differences that the class stands for.
  pub word_of_class : (c v : ℕ) (d : Word) → c < class_count n table h → v < 2 ^ g → get_or (words_of n table h g) (c * 2 ^ g + v) d ≡ word_of n table h g (get_or (classes n table h) c []) v
  unfolding words_of class_count
  word_of_class c v d lc lv =
      ap (λ p. get_or (words_of n table h g) (p + v) d) (mul_comm c (2 ^ g))
      ∙ get_d_flat_map (λ values. map (word_of n table h g values) (numbers_from 0 (2 ^ g))) (2 ^ g) class_words (classes n table h) [] d c v lc lv
      ∙ get_d_map (word_of n table h g (get_or (classes n table h) c [])) (numbers_from 0 (2 ^ g)) v 0 d (rw length_range lv)
      ∙ ap (word_of n table h g (get_or (classes n table h) c [])) (get_d_range 0 (2 ^ g) v 0 lv ∙ zero-add v)

-- A word sees differences only.
pub word_by_differences : (n : ℕ) (table : List ℤ) (h g : ℕ) (values : List ℤ) (v : ℕ) → v * 2 ^ (n - (h + g)) < length values → word_of n table h g (differences values) v ≡ word_of n table h g values v
unfolding word_of class_of
word_by_differences n table h g values v inside =
    ap₂ (λ c w. record { class = c; weight = w })
    (ap (number_in (classes n table (h + g))) (differences_of_block values (n - (h + g)) v))
    weights
  where
    i : ℕ
    i = n - (h + g)

    weights : first (block (differences values) i v) -ℤ first (differences values) ≡ first (block values i v) -ℤ first values
    weights =
        ap₂ (λ a b. a -ℤ b) (first_of_block (differences values) i v) (first_differences values)
        ∙ sub_zero (get_or (differences values) (v * 2 ^ i) (pos 0))
        ∙ differences_at values (v * 2 ^ i) inside
        ∙ ap (λ a. a -ℤ first values) (sym (first_of_block values i v))

-- ---- words by block

module _ (n : ℕ) (table : List ℤ) (h g : ℕ) (ends : h + g ≤ n) where
  -- A group takes a cut to blocks 2^g times smaller.
  heights : g + (n - (h + g)) ≡ n - h
  heights = omega arith

  -- A block holds 2^g sub-blocks.
  pub sub_blocks : 2 ^ g * 2 ^ (n - (h + g)) ≡ 2 ^ (n - h)
  sub_blocks = sym (pow-add 2 g (n - (h + g))) ∙ ap (λ k. 2 ^ k) heights

  -- Sub-block v of block j at cut h is a block at cut h + g.
  pub sub_block : (j v : ℕ) → v < 2 ^ g → block (block table (n - h) j) (n - (h + g)) v ≡ block table (n - (h + g)) (j * 2 ^ g + v)
  sub_block j v lv = rw heights at (block_in_block table (n - (h + g)) g j v lv)

  -- And it is one of that cut's blocks.
  pub sub_block_below : (j v : ℕ) → j < 2 ^ h → v < 2 ^ g → j * 2 ^ g + v < 2 ^ (h + g)
  sub_block_below j v lj lv = let r = part_room (2 ^ h) g j lj in omega (arith, pow-add 2 h g)

  -- Sub-block 0 begins where its block does.
  sub_block_zero : (j : ℕ) → first (block table (n - (h + g)) (j * 2 ^ g)) ≡ first (block table (n - h) j)
  sub_block_zero j =
      first_of_block table (n - (h + g)) (j * 2 ^ g)
      ∙ ap (λ x. get_or table x (pos 0)) (mul_assoc j (2 ^ g) (2 ^ (n - (h + g))) ∙ ap (λ p. j * p) sub_blocks)
      ∙ sym (first_of_block table (n - h) j)

  -- The class of a block's word is that of the sub-block.
  pub word_class : (j v : ℕ) → v < 2 ^ g → (word_of n table h g (block table (n - h) j) v).class ≡ class_of n table (h + g) (block table (n - (h + g)) (j * 2 ^ g + v))
  unfolding word_of
  word_class j v lv = ap (class_of n table (h + g)) (sub_block j v lv)

  -- The weight of a block's word is the first value of the sub-block less that of the block.
  pub word_weight : (j v : ℕ) → v < 2 ^ g → (word_of n table h g (block table (n - h) j) v).weight ≡ first (block table (n - (h + g)) (j * 2 ^ g + v)) -ℤ first (block table (n - h) j)
  unfolding word_of
  word_weight j v lv = ap (λ part. first part -ℤ first (block table (n - h) j)) (sub_block j v lv)

module _ (n : ℕ) (table : List ℤ) (size : length table ≡ 2 ^ n) (h g : ℕ) (ends : h + g ≤ n) where
  -- The word of a block's class is the block's own.
  pub word_of_block : (j v : ℕ) (d : Word) → j < 2 ^ h → v < 2 ^ g → get_or (words_of n table h g) (class_of n table h (block table (n - h) j) * 2 ^ g + v) d ≡ word_of n table h g (block table (n - h) j) v
  word_of_block j v d lj lv =
      word_of_class n table h g (class_of n table h (block table (n - h) j)) v d (class_below n table h cut j lj) lv
      ∙ ap (λ values. word_of n table h g values v) (class_stands n table h cut j lj)
      ∙ word_by_differences n table h g (block table (n - h) j) v inside
    where
      cut : h ≤ n
      cut = omega arith

      whole : length (block table (n - h) j) ≡ 2 ^ (n - h)
      whole = block_length table (n - h) j (let r = block_within n h j cut lj in omega arith)

      inside : v * 2 ^ (n - (h + g)) < length (block table (n - h) j)
      inside = let r = part_room (2 ^ g) (n - (h + g)) v lv in let p = pow_pos (n - (h + g)) in omega (arith, whole, sub_blocks n table h g ends)

  -- Every word is that of some block and its group value.
  pub word_has_block : (k : ℕ) (d : Word) → k < class_count n table h * 2 ^ g → (j : ℕ) × ((j < 2 ^ h) × (get_or (words_of n table h g) k d ≡ word_of n table h g (block table (n - h) j) (k % 2 ^ g)))
  word_has_block k d l =
      let used = class_used n table h (omega arith) (k / 2 ^ g) ((div-lt_iff_lt-mul (pow_pos g)).1 l) in
      let j = used.0 in (
        j,
        (
          used.1.0,
          ap (λ p. get_or (words_of n table h g) p d) (sym (div-add-mod' k (2 ^ g)))
              ∙ ap (λ c. get_or (words_of n table h g) (c * 2 ^ g + k % 2 ^ g) d) (sym used.1.1)
              ∙ word_of_block j (k % 2 ^ g) d used.1.0 (mod-lt k (pow_pos g)),
        ),
      )

  -- ---- what holds of each word

  -- The class of each word is below the count of the cut where the cell ends.
  pub word_class_below : (k : ℕ) (d : Word) → k < class_count n table h * 2 ^ g → (get_or (words_of n table h g) k d).class < class_count n table (h + g)
  word_class_below k d l =
      let b = word_has_block k d l in
      let v = k % 2 ^ g in
      let lv : v < 2 ^ g = mod-lt k (pow_pos g) in
      let e : (get_or (words_of n table h g) k d).class ≡ class_of n table (h + g) (block table (n - (h + g)) (b.0 * 2 ^ g + v)) = (ap (λ word. word.class) b.1.1 ∙ word_class n table h g ends b.0 v lv) in
      rw e (class_below n table (h + g) ends (b.0 * 2 ^ g + v) (sub_block_below n table h g ends b.0 v b.1.0 lv))

  -- At group value 0 the weight is 0.
  pub word_weight_zero : (k : ℕ) (d : Word) → k < class_count n table h * 2 ^ g → k % 2 ^ g ≡ 0 → (get_or (words_of n table h g) k d).weight ≡ pos 0
  word_weight_zero k d l e =
      let b = word_has_block k d l in
      ap (λ word. word.weight) b.1.1
      ∙ word_weight n table h g ends b.0 (k % 2 ^ g) (mod-lt k (pow_pos g))
      ∙ ap (λ a. a -ℤ first (block table (n - h) b.0)) (ap (λ p. first (block table (n - (h + g)) p)) (begin b.0) ∙ sub_block_zero n table h g ends b.0)
      ∙ sub_self (first (block table (n - h) b.0))
    where
      begin : (j : ℕ) → j * 2 ^ g + k % 2 ^ g ≡ j * 2 ^ g
      begin j = omega arith

  -- The weight of each word is in range where the table's values are.
  pub word_weight_range : every is_value table ≡ true → (k : ℕ) (d : Word) → k < class_count n table h * 2 ^ g → is_weight (get_or (words_of n table h g) k d).weight ≡ true
  word_weight_range values k d l =
      let b = word_has_block k d l in
      let v = k % 2 ^ g in
      let lv : v < 2 ^ g = mod-lt k (pow_pos g) in
      ap is_weight (ap (λ word. word.weight) b.1.1 ∙ word_weight n table h g ends b.0 v lv)
      ∙ difference_weight (first (block table (n - (h + g)) (b.0 * 2 ^ g + v))) (first (block table (n - h) b.0))
      (first_value (h + g) (b.0 * 2 ^ g + v) ends (sub_block_below n table h g ends b.0 v b.1.0 lv))
      (first_value h b.0 (omega arith) b.1.0)
    where
      first_value : (cut j : ℕ) → cut ≤ n → j < 2 ^ cut → is_value (first (block table (n - cut) j)) ≡ true
      first_value cut j lc lj =
          ap is_value (first_of_block table (n - cut) j)
          ∙ every_at is_value table (pos 0) values (j * 2 ^ (n - cut)) (let r = block_within n cut j lc lj in omega (arith, pow_pos (n - cut)))
