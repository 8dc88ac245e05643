-- The cells of a table keep the reader's rules: counts, words, classes, weights, widths.
use Rattle.std.specs.Prelude.{ℕ, ◌+◌, ◌*◌, ◌%◌, ◌^◌, ◌≤◌, ◌<◌, ◌≡◌, true, List, map, length, get_or, leb, ℤ, pos}
use Rattle.std.proofs.Math.Path.{refl, ap}
use Rattle.std.proofs.Common.{◌∙◌}
use Rattle.std.proofs.Math.Nat.{le_trans, mul-mod_left, mul-le-mul}
use native.Mathlib.Omega.{arith}
use Rattle.std.proofs.Math.Pow.{pow_pos, pow_mono}
use borrow.Author.Tests.{leb-true}
use Rattle.numbers.specs.Ranges.{is_variables, is_value, is_weight, most_variables, widest_address}
use Rattle.numbers.specs.Widths.{rail_width, weight_width, cell_bits}
use Rattle.numbers.proofs.Laws.Bools.{both}
use Rattle.numbers.proofs.Laws.Lists.{every_at}
use Rattle.numbers.proofs.Laws.Widths.{rail_width_least}
use Rattle.numbers.proofs.Laws.Powers.{part_room}
use Rattle.blocks.specs.Blocks.{first}
use Rattle.blocks.specs.Classes.{class_count, rail_at}
use Rattle.blocks.proofs.Laws.Classes.{class_below, class_count_le, one_class_at_top, one_class_at_bottom}
use Rattle.image.specs.Cells.{Word, bits_of}
use Rattle.image.specs.Reader.{most_classes}
use Rattle.image.specs.WellFormed.{no_word, weights}
use Rattle.image.proofs.Laws.Held.{width_small}
use Rattle.diagram.specs.Accepted.{Accepted}
use Rattle.cascade.specs.Cascade.{words_of, cell_of, card_for}
use Rattle.cascade.specs.Groupings.{address_width}
use Rattle.cascade.proofs.Laws.Words.{words_count, word_class_below, word_weight_zero, word_weight_range}

-- ---- the cells of any table

module _ (n : ℕ) (table : List ℤ) where
  -- Every cut has a class.
  pub class_count_some : (h : ℕ) → h ≤ n → 1 ≤ class_count n table h
  class_count_some h cut = let l = class_below n table h cut 0 (pow_pos h) in omega arith

  -- The rails at cut h are no more than the variables above it.
  pub rail_at_le : (h : ℕ) → h ≤ n → rail_at n table h ≤ h
  unfolding rail_at
  rail_at_le h cut = rail_width_least (class_count n table h) h (class_count_le n table h cut)

  -- The incoming count of a cell from the top cut is 1.
  pub top_incoming : (g : ℕ) → (cell_of n table 0 g).incoming ≡ 1
  unfolding cell_of
  top_incoming g = one_class_at_top n table

  -- ---- the cell from cut h to cut h + g

  -- Its outgoing count is the next cell's incoming one.
  pub counts_agree : (h g next : ℕ) → (cell_of n table h g).outgoing ≡ (cell_of n table (h + g) next).incoming
  unfolding cell_of
  counts_agree h g next = refl

  -- Its width is the weight width of its words' weights.
  pub cell_width : (h g : ℕ) → (cell_of n table h g).width ≡ weight_width (map (λ word. word.weight) (cell_of n table h g).words)
  unfolding cell_of
  cell_width h g = refl

  -- It has a word for each incoming class and group value.
  pub cell_words : (h g : ℕ) → length (cell_of n table h g).words ≡ class_count n table h * 2 ^ g
  unfolding cell_of
  cell_words h g = words_count n table h g

  -- Its address width is at most the cut where it ends.
  pub address_width_le : (h g : ℕ) → h + g ≤ n → address_width n table h g ≤ h + g
  unfolding address_width
  address_width_le h g ends = let r = rail_at_le h (omega arith) in omega arith

-- ---- the card of an accepted table

module _ (n : ℕ) (table : List ℤ) (accepted : Accepted n table) where
  -- An accepted table has at most 12 variables.
  pub variables_most : n ≤ 12
  unfolding is_variables most_variables
  variables_most = leb-true n 12 (both (leb 1 n) (leb n 12) accepted.variables).1

  -- And at least one.
  pub variables_some : 1 ≤ n
  unfolding is_variables most_variables
  variables_some = leb-true 1 n (both (leb 1 n) (leb n 12) accepted.variables).0

  -- The offset of a card is a value.
  pub offset_in_range : (sizes : List ℕ) → is_value (card_for n table sizes).offset ≡ true
  unfolding card_for first
  offset_in_range sizes = every_at is_value table (pos 0) accepted.values 0 (let s = accepted.size in omega (arith, pow_pos n))

  -- Every cut has at most 4,096 classes.
  pub class_count_most : (h : ℕ) → h ≤ n → class_count n table h ≤ most_classes
  unfolding most_classes
  class_count_most h cut = le_trans (class_count_le n table h cut) (pow_mono {i = h} {j = 12} (let m = variables_most in omega arith))

  -- The outgoing count of a cell to the bottom cut is 1.
  pub bottom_outgoing : (h g : ℕ) → h + g ≡ n → (cell_of n table h g).outgoing ≡ 1
  unfolding cell_of
  bottom_outgoing h g e = ap (class_count n table) e ∙ one_class_at_bottom n table accepted.size

  -- ---- the cell from cut h to cut h + g

  module _ (h g : ℕ) (ends : h + g ≤ n) where
    -- Its incoming count is from 1 to 4,096.
    pub cell_incoming : (1 ≤ (cell_of n table h g).incoming) × ((cell_of n table h g).incoming ≤ most_classes)
    unfolding cell_of
    cell_incoming = (class_count_some n table h (omega arith), class_count_most h (omega arith))

    -- Its outgoing count is from 1 to 4,096.
    pub cell_outgoing : (1 ≤ (cell_of n table h g).outgoing) × ((cell_of n table h g).outgoing ≤ most_classes)
    unfolding cell_of
    cell_outgoing = (class_count_some n table (h + g) ends, class_count_most (h + g) ends)

    -- Its address width is at most 12.
    pub cell_address : rail_width (cell_of n table h g).incoming + (cell_of n table h g).group ≤ widest_address
    unfolding cell_of address_width rail_at widest_address
    cell_address = let a = address_width_le n table h g ends in let m = variables_most in omega arith

    -- Each word's class is below the outgoing count.
    pub cell_class_below : (k : ℕ) (d : Word) → k < length (cell_of n table h g).words → (get_or (cell_of n table h g).words k d).class < (cell_of n table h g).outgoing
    unfolding cell_of
    cell_class_below k d l = word_class_below n table accepted.size h g ends k d (rw (cell_words n table h g) at l)

    -- Each word's weight is in range.
    pub cell_weight_range : (k : ℕ) (d : Word) → k < length (cell_of n table h g).words → is_weight (get_or (cell_of n table h g).words k d).weight ≡ true
    unfolding cell_of
    cell_weight_range k d l = word_weight_range n table accepted.size h g ends accepted.values k d (rw (cell_words n table h g) at l)

    -- At group value 0 the weight is 0.
    pub cell_weight_zero : (k : ℕ) (d : Word) → k < length (cell_of n table h g).words → k % 2 ^ g ≡ 0 → (get_or (cell_of n table h g).words k d).weight ≡ pos 0
    unfolding cell_of
    cell_weight_zero k d l e = word_weight_zero n table accepted.size h g ends k d (rw (cell_words n table h g) at l) e

    -- So it is for the first word of each class.
    pub class_weight_zero : (c : ℕ) (d : Word) → c < (cell_of n table h g).incoming → (get_or (cell_of n table h g).words (c * 2 ^ g) d).weight ≡ pos 0
    unfolding cell_of
    class_weight_zero c d l = cell_weight_zero (c * 2 ^ g) d (let r = part_room (class_count n table h) g c l in omega (arith, words_count n table h g, pow_pos g)) (mul-mod_left c (2 ^ g))

    -- Its weights fit 25 bits.
    pub cell_width_most : (cell_of n table h g).width ≤ 25
    unfolding cell_of weights
    cell_width_most = width_small (words_of n table h g) (λ k l. cell_weight_range k no_word l)

    -- Its memory bits are at most those of 4,096 words of 12 and 25 bits.
    pub cell_bits_most : bits_of (cell_of n table h g) ≤ 4096 * (12 + 25)
    unfolding bits_of cell_bits cell_of rail_at widest_address
    cell_bits_most = mul-le-mul addresses wide
      where
        addresses : 2 ^ (rail_width (class_count n table h) + g) ≤ 2 ^ 12
        addresses = pow_mono cell_address

        wide : rail_width (class_count n table (h + g)) + (cell_of n table h g).width ≤ 12 + 25
        wide = let r = rail_at_le n table (h + g) ends in let w = cell_width_most in let m = variables_most in omega arith
