-- `cells::list_cells` meets its contract. The loop's invariant: the cells down to cut h are listed.
use Rattle.std.proofs.Common.{◌+◌, ◌<◌, ◌≡◌, ap, arith, set}
use mathlib.Core.Path.{subst⁻¹}
use mir.Facts.{Fits-of_lt}
use Rattle.numbers.specs.Lists.{padded}
use Rattle.numbers.specs.Ranges.{most_variables}
use Rattle.cascade.specs.Plan.{no_cell}
use Rattle.cascade.specs.declared.Cell.{Cell}
use Rattle.planner.specs.Inner.Listed.{size_at, chosen_cell, CellChosen}
use Rattle.planner.proofs.Laws.Leading.{moves, places}
use Rattle.planner.proofs.Laws.Listed.{ListedTo, none_listed, room_listed, one_listed, plan_listed}
use Rattle.planner.proofs.cells.list_cells.Goals as goal
use Rattle.planner.proofs.cells.list_cells.Goals.{After-chosen_cell-cell, In-loop-h}

pub loop-h-init : goal.loop-h-init
unfolding padded most_variables no_cell
loop-h-init c = none_listed c.args.cuts.now c.requires

-- In a turn a cell lies ahead.
ahead : (c : In-loop-h) → let a = c.args in CellChosen a.cuts.now.n c.loop-h.h a.cuts.now.table.now a.use_counts.now a.choices.now
ahead c = c.loop-h.invariant.ahead c.loop-h-test.true

room : (c : In-loop-h) → c.loop-h.count < 12
room c = let l = c.loop-h in room_listed c.args.cuts.now l.h l.count l.sizes l.cells l.invariant c.loop-h-test.true

pub offset_bounds-sizes-count : goal.offset_bounds-sizes-count
offset_bounds-sizes-count c = Fits-of_lt (let r = room (goal.at.offset_bounds-sizes-count c).In-loop-h in omega arith)

pub bounds-sizes-count : goal.bounds-sizes-count
bounds-sizes-count c = room (goal.at.bounds-sizes-count c).In-loop-h

pub offset_bounds-cells-count : goal.offset_bounds-cells-count
offset_bounds-cells-count c = Fits-of_lt (let r = room (goal.at.offset_bounds-cells-count c).In-loop-h in omega arith)

pub bounds-cells-count : goal.bounds-cells-count
bounds-cells-count c = room (goal.at.bounds-cells-count c).In-loop-h

-- The size of the cell that was found.
is_size : (c : After-chosen_cell-cell) → c.chosen_cell-cell.result.group ≡ size_at c.args.choices.now c.loop-h.h
unfolding chosen_cell
is_size c = ap (λ cell. cell.group) c.chosen_cell-cell.ensures

pub overflow_add-h : goal.overflow_add-h
overflow_add-h c = Fits-of_lt (let e = is_size (goal.at.overflow_add-h c).After-chosen_cell-cell in let p = (places c.args.cuts.now (ahead (goal.at.overflow_add-h c).In-loop-h)).1.0 in omega arith)

pub loop-h-smaller : goal.loop-h-smaller
loop-h-smaller c = let e = is_size (goal.at.loop-h-smaller c).After-chosen_cell-cell in let m = moves c.args.cuts.now (ahead (goal.at.loop-h-smaller c).In-loop-h) in omega arith

pub loop-h-preserved : goal.loop-h-preserved
unfolding chosen_cell
loop-h-preserved c =
    let l = c.loop-h in
    let a = c.args in
    subst⁻¹ (λ (cell : Cell). ListedTo a.cuts.now a.use_counts.now a.choices.now (l.h + cell.group) (l.count + 1) (set l.sizes l.count cell.group) (set l.cells l.count cell)) c.chosen_cell-cell.ensures
    (one_listed a.cuts.now l.h l.count l.sizes l.cells l.invariant c.loop-h-test.true)

pub returns : goal.returns
returns c =
    let l = c.loop-h in
    plan_listed c.args.cuts.now l.h l.count l.sizes l.cells l.invariant c.loop-h-test.false c.args.bits
