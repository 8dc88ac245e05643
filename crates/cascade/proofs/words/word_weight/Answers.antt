-- `words::word_weight` meets its contract: the difference of two values fits.
use Prim.Native.Nat.{◌+◌, ◌-◌, ◌*◌, ◌/◌, ◌%◌, ◌^◌}
use mathlib.Core.Path.{◌≡◌, ◌∙◌, ap, ap₂}
use lib.Pow.{pow_pos}
use lib.IntN.{◌-ℤ◌}
use mir.Syntax.{w32}
use mir.Val.{of_z, to_z}
use mir.Facts.{to_z-of_z}
use borrow.Author.Rules.{sfits_of}
use Rattle.numbers.proofs.Laws.Pieces.{shifted_one}
use Rattle.blocks.specs.Blocks.{block, first}
use Rattle.cascade.specs.Inner.Words.{cell_word}
use Rattle.cascade.proofs.Laws.WordReading.{group_small, block_ready, height_small, lower_small, outer, block_outer, block_inside, outer_inside, weight_read, weight_fits}
use Rattle.cascade.proofs.words.word_weight.Goals as goal
use Rattle.cascade.proofs.words.word_weight.Goals.{After-first_of_block-2, After-word_block-block, Start}

pub word_block-block-requires : goal.word_block-block-requires
word_block-block-requires c = block_ready c.requires

-- As many words a class as group values.
values : (c : Start) → 1 * 2 ^ c.args.g % 18446744073709551616 ≡ 2 ^ c.args.g
values c = shifted_one c.args.g (group_small c.requires)

pub overflow_shl-around : goal.overflow_shl-around
overflow_shl-around c = group_small c.requires

pub nonzero_div-around : goal.nonzero_div-around
nonzero_div-around c = rw (values (goal.at.nonzero_div-around c).Start) (pow_pos c.args.g)

-- The block around the word's.
is_around : (c : After-word_block-block) → c.word_block-block.result / (1 * 2 ^ c.args.g % 18446744073709551616) ≡ outer c.requires
is_around c = ap₂ ◌/◌ c.word_block-block.ensures (values (goal.at.overflow_shl-around c).Start) ∙ block_outer c.requires

pub first_of_block-requires : goal.first_of_block-requires
first_of_block-requires c = (lower_small c.requires, rw c.word_block-block.ensures (block_inside c.requires))

pub first_of_block-requires-2 : goal.first_of_block-requires-2
first_of_block-requires-2 c = (height_small c.requires, rw (is_around (goal.at.first_of_block-requires-2 c).After-word_block-block) (outer_inside c.requires))

-- The values that were read, and their difference.
difference : (c : After-first_of_block-2) → let a = c.args in to_z w32 (of_z w32 c.first_of_block.result) -ℤ to_z w32 (of_z w32 c.first_of_block-2.result) ≡ (cell_word a.n a.table.now a.h a.g a.k).weight
difference c =
    ap₂ ◌-ℤ◌
    (to_z-of_z {w = w32} (sfits_of c.first_of_block.type_inv) ∙ c.first_of_block.ensures ∙ ap (λ j. first (block c.args.table.now (c.args.n - (c.args.h + c.args.g)) j)) c.word_block-block.ensures)
    (to_z-of_z {w = w32} (sfits_of c.first_of_block-2.type_inv) ∙ c.first_of_block-2.ensures ∙ ap (λ j. first (block c.args.table.now (c.args.n - c.args.h) j)) (is_around (goal.at.overflow_sub-result c).After-word_block-block))
    ∙ weight_read c.requires

pub overflow_sub-result : goal.overflow_sub-result
overflow_sub-result c = rw (difference c) (weight_fits c.requires)

pub returns : goal.returns
returns c = ap (λ z. to_z w32 (of_z w32 z)) (difference c) ∙ to_z-of_z (weight_fits c.requires)
