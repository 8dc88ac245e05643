-- `blocks::in_cut` meets its contract.
use Rattle.std.proofs.Common.{rules, ap, ◌+◌, ◌-◌, ◌<◌, length, get_or}
use lib.Pow.{pow_pos}
use Rattle.blocks.specs.Rows.{cut_place}
use Rattle.blocks.proofs.in_cut.Goals as goal
use Rattle.blocks.proofs.in_cut.Goals.{After-power}

-- The place that is read.
inside : (c : After-power) → c.power.result - 1 + c.args.k < length c.args.row.now
unfolding cut_place
inside c = rw c.power.ensures c.requires.1

pub overflow_sub-result : goal.overflow_sub-result
overflow_sub-result c = rw c.power.ensures (pow_pos c.args.h)

pub overflow_add-result : goal.overflow_add-result
overflow_add-result c = let l = inside c in search rules

pub offset_bounds-row-power : goal.offset_bounds-row-power
offset_bounds-row-power c = let l = inside c in search rules

pub bounds-row-power : goal.bounds-row-power
bounds-row-power c = inside (goal.at.bounds-row-power c).After-power

pub returns : goal.returns
unfolding cut_place
returns c = let a = c.args in ap (λ p. get_or a.row.now (p - 1 + a.k) 0) c.power.ensures
