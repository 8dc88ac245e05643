-- `forks::weight_of_block` meets its contract: the difference of two values fits.
use Prim.Native.Nat.{◌+◌, ◌*◌}
use mathlib.Core.Path.{◌≡◌, ◌∙◌, ap, ap₂}
use lib.IntN.{◌-ℤ◌}
use mir.Syntax.{w32}
use mir.Val.{SFits, of_z, to_z}
use mir.Facts.{to_z-of_z}
use borrow.Author.Rules.{sfits_of}
use Rattle.blocks.specs.Blocks.{block, first}
use Rattle.diagram.proofs.Laws.Forks.{weight_fits}
use Rattle.builder.proofs.forks.weight_of_block.Goals as goal
use Rattle.builder.proofs.forks.weight_of_block.Goals.{After-first_of_block-2, Start}

-- The values that were read, and their difference.
difference : (c : After-first_of_block-2) → let a = c.args in to_z w32 (of_z w32 c.first_of_block.result) -ℤ to_z w32 (of_z w32 c.first_of_block-2.result) ≡ first (block a.table.now a.i (a.j * 2 + 1)) -ℤ first (block a.table.now a.i (a.j * 2))
difference c = ap₂ ◌-ℤ◌ (to_z-of_z {w = w32} (sfits_of c.first_of_block.type_inv) ∙ c.first_of_block.ensures) (to_z-of_z {w = w32} (sfits_of c.first_of_block-2.type_inv) ∙ c.first_of_block-2.ensures)

fits : (c : After-first_of_block-2) → let a = c.args in SFits w32 (first (block a.table.now a.i (a.j * 2 + 1)) -ℤ first (block a.table.now a.i (a.j * 2)))
fits c = weight_fits c.args.table.now c.args.i c.args.j c.requires.table_value c.requires.i_bound.1

pub overflow_sub-result : goal.overflow_sub-result
overflow_sub-result c = rw (difference c) (fits c)

pub returns : goal.returns
returns c = ap (λ z. to_z w32 (of_z w32 z)) (difference c) ∙ to_z-of_z (fits c)
