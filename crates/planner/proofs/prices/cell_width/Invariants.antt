use Rattle.std.proofs.Common.{◌*◌, ◌^◌, ◌≡◌}
use Rattle.planner.specs.Inner.Extremes.{extremes_of}
use Rattle.planner.proofs.prices.cell_width.Given as goal

abbrev pub invariant-loop-class : goal.invariant-loop-class
invariant-loop-class l = l.gathered ≡ extremes_of l.cuts.n l.cuts.table.now l.h l.g (l.class * 2 ^ l.g)
