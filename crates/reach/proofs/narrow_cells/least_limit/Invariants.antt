use mathlib.Core.Path.{◌≡◌}
use Rattle.reach.specs.Inner.Narrowest.{widest_above}
use Rattle.reach.specs.Inner.NarrowCells.{narrowest_in}
use Rattle.reach.proofs.narrow_cells.least_limit.Given as goal

abbrev pub invariant-loop-h : goal.invariant-loop-h
invariant-loop-h l = l.least ≡ widest_above (narrowest_in l.cuts.counts.now) l.h
