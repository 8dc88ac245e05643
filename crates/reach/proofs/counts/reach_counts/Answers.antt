-- `counts::reach_counts` meets its contract.
use Prim.Native.Nat.{◌≤◌}
use native.Mathlib.Numerals.{add-one}
use native.Mathlib.Omega.{arith}
use mir.Facts.{Fits-of_lt}
use Rattle.cascade.proofs.Laws.Cells.{variables_most}
use Rattle.reach.proofs.Laws.Narrowest.{furthest_cut}
use Rattle.reach.specs.Inner.Counts.{reached_in}
use Rattle.reach.proofs.counts.reach_counts.Goals as goal
use Rattle.reach.proofs.counts.reach_counts.Goals.{After-furthest_cut-last}

-- The furthest cut is one that a table can have.
small : (c : After-furthest_cut-last) → c.furthest_cut-last.result ≤ 12
small c =
    let s = c.args.cuts.now in
    let most : c.furthest_cut-last.result ≤ s.n = rw c.furthest_cut-last.ensures (furthest_cut _ _ _) in
    let v = variables_most s.n s.table.now s.admitted in
    omega arith

pub overflow_add-result : goal.overflow_add-result
overflow_add-result c = Fits-of_lt (let s = small (goal.at.overflow_add-result c).After-furthest_cut-last in omega arith)

pub list_cuts-requires : goal.list_cuts-requires
list_cuts-requires c = small (goal.at.list_cuts-requires c).After-furthest_cut-last

pub returns : goal.returns
unfolding reached_in
returns c =
    let last = c.furthest_cut-last.ensures in
    let least = c.least_limit-least.ensures in
    let listed = c.list_cuts.ensures in
    let next = add-one c.furthest_cut-last.result in
    rw (listed, least, next, last)
