-- `tally::Tally::note` meets its contract.
use Rattle.std.proofs.Common.{sym, ap}
use Rattle.cases.specs.Tallies.{noted}
use Rattle.cases.proofs.tally.Tally.note.Goals as goal

pub returns-then-passed-2 : goal.returns-then-passed-2
unfolding noted
returns-then-passed-2 g c = ap (noted c.args.self) (sym c.if-passed-2.true)

pub returns-else-passed-2 : goal.returns-else-passed-2
unfolding noted
returns-else-passed-2 g c = ap (noted c.args.self) (sym c.if-passed-2.false)
