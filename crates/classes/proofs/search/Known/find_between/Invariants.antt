use Rattle.std.proofs.Common.{◌≡◌, ◌-◌, ◌≤◌}
use Rattle.blocks.specs.Blocks.{differences}
use Rattle.classes.specs.Inner.Searching.{part_differences, found_between}
use Rattle.classes.proofs.search.Known.find_between.Given as goal

abbrev pub invariant-loop-class : goal.invariant-loop-class
invariant-loop-class l = (l.class ≤ l.to) × (found_between (part_differences l.self.table.now l.self.size l.self.firsts.now) l.from l.to (differences l.values) ≡ found_between (part_differences l.self.table.now l.self.size l.self.firsts.now) l.class l.to (differences l.values))

abbrev pub decreases-loop-class : goal.decreases-loop-class
decreases-loop-class l = l.to - l.class
