-- `build_walk::panstrait_walk` meets its contract.
use Rattle.std.specs.Int.{w32}
use Rattle.std.proofs.Common.{rules, to_z-of_z}
use Rattle.exports.proofs.Laws.DiagramGiven.{walk_accepted, walk_refused}
use Rattle.exports.proofs.build_walk.panstrait_walk.Goals as goal

pub returns-in-Ok : goal.returns-in-Ok
returns-in-Ok c =
    let told = rw (to_z-of_z {w = w32} c.ranges.offset) at c.walk.ensures in
    search (rules, walk_accepted)

pub returns-in-Err : goal.returns-in-Err
returns-in-Err c =
    let told = rw (to_z-of_z {w = w32} c.ranges.offset) at c.walk.ensures in
    search (rules, walk_refused)
