use Rattle.planner.proofs.Laws.Choosing.{Trying}
use Rattle.planner.proofs.choices.choose.Given as goal

abbrev pub invariant-loop-g : goal.invariant-loop-g
invariant-loop-g l = Trying l.cuts.n l.h l.limit l.cuts.table.now l.choices l.best l.g
