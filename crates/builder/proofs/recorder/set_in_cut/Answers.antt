-- `recorder::set_in_cut` meets its contract.
use Prim.Native.Nat.{◌+◌, ◌-◌, ◌<◌}
use mathlib.Core.Path.{ap}
use lib.ListN.{length, set}
use borrow.Author.Rules.{scaled_Fits}
use Rattle.blocks.specs.Rows.{cut_place}
use Rattle.builder.proofs.recorder.set_in_cut.Goals as goal
use Rattle.builder.proofs.recorder.set_in_cut.Goals.{After-power}

-- The place that is written.
inside : (c : After-power) → c.power.result - 1 + c.args.k < length c.args.row.now
unfolding cut_place
inside c = rw c.power.ensures c.requires.1

pub offset_bounds-row-place : goal.offset_bounds-row-place
offset_bounds-row-place c = scaled_Fits (c.power.result - 1 + c.args.k) (length c.args.row.now) 8 (inside c) c.well_formed.0.1

pub bounds-row-place : goal.bounds-row-place
bounds-row-place c = inside c

pub returns : goal.returns
unfolding cut_place
returns c = let a = c.args in ap (λ p. set a.row.now (p - 1 + a.k) a.number) c.power.ensures
