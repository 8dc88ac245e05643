-- `reach_cuts::panstrait_reach` meets its contract.
use Rattle.exports.proofs.Laws.ReachGiven.{reach_given, reach_refused}
use Rattle.exports.proofs.reach_cuts.panstrait_reach.Goals as goal

pub returns-in-Ok : goal.returns-in-Ok
returns-in-Ok c = reach_given _ _ _ _ _ _ _ c.reach.ensures _ c.in-Ok.is

pub returns-in-Err : goal.returns-in-Err
returns-in-Err c = rw c.from.ensures (reach_refused _ _ _ _ _ _ _ c.reach.ensures _ c.in-Err.is)
