-- `forks::class_branches` meets its contract: the class's first block is looked at.
use Prim.Native.Nat.{suc, ◌-◌}
use mathlib.Core.Path.{◌∙◌, ap₂}
use native.Mathlib.Numerals.{add-one}
use native.Mathlib.Omega.{arith}
use Rattle.blocks.specs.Blocks.{block}
use Rattle.diagram.specs.Records.{branches}
use Rattle.diagram.proofs.Laws.FirstBlocks.{cut_small, half_small, first_place, first_within, first_branches}
use Rattle.builder.proofs.forks.class_branches.Goals as goal

pub in_cut-j-requires : goal.in_cut-j-requires
in_cut-j-requires c = let k = c.requires in (let s = cut_small k in omega arith, first_place k)

pub block_branches-requires : goal.block_branches-requires
block_branches-requires c =
    let k = c.requires in
    rw (c.in_cut-j.ensures, add-one c.args.h) (let s = half_small k in omega arith, first_within k)

pub returns : goal.returns
returns c =
    let a = c.args in
    c.block_branches.ensures
    ∙ ap₂ (λ m j. branches (a.n - m) (block a.table.now (suc (a.n - m)) j)) (add-one a.h) c.in_cut-j.ensures
    ∙ first_branches c.requires
