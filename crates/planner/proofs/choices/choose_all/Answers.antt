-- `choices::choose_all` meets its contract. The loop's invariant: the choices from cut h down are made.
use Rattle.std.proofs.Common.{◌≤◌, ◌≡◌, arith}
use mir.Facts.{Fits-of_lt}
use Rattle.cascade.proofs.Laws.Cells.{variables_most}
use Rattle.planner.proofs.Laws.Choosing.{chosen_bottom, chosen_next, chosen_all}
use Rattle.planner.proofs.choices.choose_all.Goals as goal
use Rattle.planner.proofs.choices.choose_all.Goals.{After-choose, Start}

few : (c : Start) → c.args.cuts.now.n ≤ 12
few c = let k = c.args.cuts.now in variables_most k.n k.table.now k.admitted

pub offset_bounds-choices-cuts : goal.offset_bounds-choices-cuts
offset_bounds-choices-cuts c = Fits-of_lt (let f = few (goal.at.offset_bounds-choices-cuts c).Start in omega arith)

pub bounds-choices-cuts : goal.bounds-choices-cuts
bounds-choices-cuts c = let f = few (goal.at.bounds-choices-cuts c).Start in omega arith

pub loop-h-init : goal.loop-h-init
loop-h-init c = let s = (goal.at.loop-h-init c).Start in chosen_bottom s.args.cuts.now.n s.args.limit s.args.cuts.now.table.now (few s)

-- The cut is one of the table's.
small : (c : After-choose) → c.loop-h.h ≤ 12
small c = let f = few (goal.at.offset_bounds-choices-h c).Start in let i = c.loop-h.invariant.cut in omega arith

pub offset_bounds-choices-h : goal.offset_bounds-choices-h
offset_bounds-choices-h c = Fits-of_lt (let s = small c in omega arith)

pub bounds-choices-h : goal.bounds-choices-h
bounds-choices-h c = let s = small c in omega arith

pub loop-h-preserved : goal.loop-h-preserved
loop-h-preserved c =
    let s = (goal.at.loop-h-preserved c).Start in
    let l = c.loop-h in
    rw c.choose.ensures (chosen_next s.args.cuts.now.n s.args.limit s.args.cuts.now.table.now (few s) l.h l.choices l.invariant c.loop-h-test.true)

pub returns : goal.returns
returns c =
    let s = (goal.at.returns c).Start in
    let l = c.loop-h in
    chosen_all s.args.cuts.now.n s.args.limit s.args.cuts.now.table.now (few s) l.choices
    (rw (let e : 0 ≡ l.h = (let t = c.loop-h-test.false in omega arith) in e) l.invariant)
