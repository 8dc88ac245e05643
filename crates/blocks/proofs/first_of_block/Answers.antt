-- `blocks::first_of_block` meets its contract.
use Rattle.std.proofs.Common.{rules, add-zero, sym, ◌∙◌, ap, ◌*◌, ◌^◌, ◌<◌, length, get_or, pos, w32, SFits, to_z-of_z}
use lib.Pow.{pow_pos}
use Rattle.blocks.specs.Blocks.{first}
use Rattle.blocks.proofs.Laws.Blocks.{block_at}
use Rattle.blocks.proofs.first_of_block.Goals as goal
use Rattle.blocks.proofs.first_of_block.Goals.{After-power}

-- The place that is read.
inside : (c : After-power) → c.args.j * c.power.result < length c.args.table.now
inside c = rw c.power.ensures c.requires.1

pub overflow_mul-result : goal.overflow_mul-result
overflow_mul-result c = let l = inside c in search rules

pub offset_bounds-table-j : goal.offset_bounds-table-j
offset_bounds-table-j c = let l = inside c in search rules

pub bounds-table-j : goal.bounds-table-j
bounds-table-j c = inside c

pub returns : goal.returns
unfolding first
returns c =
    let a = c.args in
    let fits : SFits w32 (get_or a.table.now (a.j * c.power.result) (pos 0)) = search rules in
    to_z-of_z fits
    ∙ ap (λ p. get_or a.table.now (a.j * p) (pos 0)) c.power.ensures
    ∙ sym (block_at a.table.now a.i a.j 0 (pow_pos a.i) ∙ ap (λ x. get_or a.table.now x (pos 0)) (add-zero (a.j * 2 ^ a.i)))
