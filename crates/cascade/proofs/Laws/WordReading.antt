-- A word of a cell, read at its class's first block: the places that are read, and the word that is found there.
use Rattle.std.specs.Prelude.{ℕ, ◌+◌, ◌-◌, ◌*◌, ◌/◌, ◌%◌, ◌^◌, ◌≤◌, ◌<◌, ◌≡◌, List, ℤ, ◌-ℤ◌}
use Rattle.std.proofs.Math.Path.{sym, ap}
use Rattle.std.proofs.Common.{◌∙◌, mod-lt, div-add-mod', div-lt_iff_lt-mul, pow_pos, pow_mono, SFits}
use Rattle.std.proofs.Math.Nat.{mul-add-div_right, div-eq_of_lt, add-zero}
use native.Mathlib.Omega.{arith}
use Rattle.std.proofs.Math.ListN.{length, get_or}
use Rattle.std.specs.Int.{w32}
use Rattle.numbers.proofs.Laws.Bounds.{weight_mag}
use Rattle.numbers.proofs.Laws.Powers.{part_room}
use Rattle.blocks.specs.Blocks.{block, first, differences}
use Rattle.blocks.specs.Classes.{class_count, class_of}
use Rattle.blocks.specs.Rows.{cut_place, all_numbers}
use Rattle.blocks.specs.Inner.Layout.{class_at}
use Rattle.blocks.proofs.Laws.Blocks.{block_length, block_within}
use Rattle.blocks.proofs.Laws.Classes.{class_count_le}
use Rattle.blocks.proofs.Laws.Places.{place_inside, length_numbers, length_firsts, class_at_lem, first_block}
use Rattle.image.specs.WellFormed.{no_word}
use Rattle.cascade.specs.Cascade.{word_of, words_of}
use Rattle.cascade.specs.Inner.Words.{cell_word, word_block, BlockReady, WordReady}
use Rattle.cascade.proofs.Laws.Cells.{variables_most}
use Rattle.cascade.proofs.Laws.Words.{word_of_class, word_by_differences, sub_blocks, sub_block_below, word_class, word_weight, word_weight_range}

module _ {n h g k : ℕ} {table : List ℤ} {first_row : List ℕ} (r : WordReady n h g k table first_row) where
  open r use {admitted, ends, word, placed}

  cut : h ≤ n
  cut = let e = ends in omega arith

  few : n ≤ 12
  few = variables_most n table admitted

  -- Cuts and groups are small.
  cut_small : h < 64
  cut_small = let f = few in let c = cut in omega arith

  pub group_small : g < 64
  group_small = let f = few in let e = ends in omega arith

  pub end_small : h + g < 64
  end_small = let f = few in let e = ends in omega arith

  -- So are the blocks' heights.
  pub height_small : n - h < 64
  height_small = let f = few in omega arith

  pub lower_small : n - (h + g) < 64
  lower_small = let f = few in omega arith

  -- The word's class and its group value.
  class_below_count : k / 2 ^ g < class_count n table h
  class_below_count = (div-lt_iff_lt-mul (pow_pos g)).1 word

  value_below : k % 2 ^ g < 2 ^ g
  value_below = mod-lt k (pow_pos g)

  -- The place of the class's first block in the row.
  first_place : cut_place h + k / 2 ^ g < length first_row
  first_place = rw (placed, length_firsts n table) (place_inside n h (k / 2 ^ g) cut (let m = class_count_le n table h cut in let l = class_below_count in omega arith))

  -- The class's first block.
  abbrev pub outer : ℕ
  outer = get_or first_row (cut_place h + k / 2 ^ g) 0

  found : (outer < 2 ^ h) × (differences (block table (n - h) outer) ≡ class_at n table h (k / 2 ^ g))
  found = rw placed (first_block n table h cut (k / 2 ^ g) class_below_count)

  -- The word's block is one of the cut where the cell ends, and lies in the class's first block.
  pub block_below : word_block first_row h g k < 2 ^ (h + g)
  unfolding word_block
  block_below = sub_block_below n table h g ends outer (k % 2 ^ g) found.0 value_below

  block_small : word_block first_row h g k < 4096
  block_small = let b = block_below in let f = few in let e = ends in omega (arith, pow_mono {i = h + g} {j = 12} (omega arith))

  pub block_ready : BlockReady first_row h g k
  block_ready = record { cut = cut_small; group = group_small; place = first_place; small = block_small }

  pub block_outer : word_block first_row h g k / 2 ^ g ≡ outer
  unfolding word_block
  block_outer = mul-add-div_right (pow_pos g) outer (k % 2 ^ g) ∙ ap (λ q. outer + q) (div-eq_of_lt value_below) ∙ add-zero outer

  -- Both blocks begin within the table.
  pub block_inside : word_block first_row h g k * 2 ^ (n - (h + g)) < length table
  block_inside = let w = block_within n (h + g) (word_block first_row h g k) ends block_below in let p = pow_pos (n - (h + g)) in omega (arith, admitted.size)

  pub outer_inside : outer * 2 ^ (n - h) < length table
  outer_inside = let w = block_within n h outer cut found.0 in let p = pow_pos (n - h) in omega (arith, admitted.size)

  -- The word is that of the class's first block at its group value.
  word_read : cell_word n table h g k ≡ word_of n table h g (block table (n - h) outer) (k % 2 ^ g)
  unfolding cell_word class_at
  word_read =
      ap (λ p. get_or (words_of n table h g) p no_word) (sym (div-add-mod' k (2 ^ g)))
      ∙ word_of_class n table h g (k / 2 ^ g) (k % 2 ^ g) no_word class_below_count value_below
      ∙ ap (λ values. word_of n table h g values (k % 2 ^ g)) (sym found.1)
      ∙ word_by_differences n table h g (block table (n - h) outer) (k % 2 ^ g) inside
    where
      whole : length (block table (n - h) outer) ≡ 2 ^ (n - h)
      whole = block_length table (n - h) outer (let w = block_within n h outer cut found.0 in omega (arith, admitted.size))

      inside : k % 2 ^ g * 2 ^ (n - (h + g)) < length (block table (n - h) outer)
      inside = let m = part_room (2 ^ g) (n - (h + g)) (k % 2 ^ g) value_below in let p = pow_pos (n - (h + g)) in omega (arith, whole, sub_blocks n table h g ends)

  -- Its weight is the first value of its block less that of the block around it.
  pub weight_read : first (block table (n - (h + g)) (word_block first_row h g k)) -ℤ first (block table (n - h) outer) ≡ (cell_word n table h g k).weight
  unfolding word_block
  weight_read = sym (ap (λ w. w.weight) word_read ∙ word_weight n table h g ends outer (k % 2 ^ g) value_below)

  -- It is a weight, and fits.
  pub weight_fits : SFits w32 (cell_word n table h g k).weight
  unfolding cell_word
  weight_fits = let m = weight_mag (get_or (words_of n table h g) k no_word).weight (word_weight_range n table admitted.size h g ends admitted.values k no_word word) in record { sfits = omega arith }

  -- Its class is that of its block.
  class_of_word : (cell_word n table h g k).class ≡ class_of n table (h + g) (block table (n - (h + g)) (word_block first_row h g k))
  unfolding word_block
  class_of_word = ap (λ w. w.class) word_read ∙ word_class n table h g ends outer (k % 2 ^ g) value_below

  -- It stands in the row of classes there.
  pub class_read : get_or (all_numbers n table) (cut_place (h + g) + word_block first_row h g k) 0 ≡ (cell_word n table h g k).class
  class_read = class_at_lem n table (h + g) ends (word_block first_row h g k) block_below ∙ sym class_of_word

  pub class_place : cut_place (h + g) + word_block first_row h g k < length (all_numbers n table)
  class_place = rw (length_numbers n table) (place_inside n (h + g) (word_block first_row h g k) ends block_below)
