use Rattle.std.proofs.Common.{◌-◌, length}
use Rattle.image.proofs.Laws.Reading.{Checking}
use Rattle.reader.proofs.check.Given as goal

abbrev pub invariant-loop-command : goal.invariant-loop-command
invariant-loop-command l = Checking l.image l.place

abbrev pub decreases-loop-command : goal.decreases-loop-command
decreases-loop-command l = length l.image - l.place.at
