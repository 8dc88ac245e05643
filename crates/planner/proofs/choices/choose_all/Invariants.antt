use Rattle.planner.proofs.Laws.Choosing.{ChosenFrom}
use Rattle.planner.proofs.choices.choose_all.Given as goal

abbrev pub invariant-loop-h : goal.invariant-loop-h
invariant-loop-h l = ChosenFrom l.cuts.n l.limit l.cuts.table.now l.h l.choices
