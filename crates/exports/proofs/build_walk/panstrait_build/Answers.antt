-- `build_walk::panstrait_build` meets its contract.
use Rattle.std.proofs.Common.{rules}
use Rattle.exports.proofs.Laws.DiagramGiven.{build_accepted, build_refused}
use Rattle.exports.proofs.build_walk.panstrait_build.Goals as goal

pub returns-in-Ok : goal.returns-in-Ok
returns-in-Ok c = search (rules, build_accepted)

pub returns-in-Err : goal.returns-in-Err
returns-in-Err c = search (rules, build_refused)
