use Rattle.classes.proofs.Laws.AllCuts.{CutsSoFar}
use Rattle.classes.proofs.class_cuts.Given as goal

abbrev pub invariant-loop-h : goal.invariant-loop-h
invariant-loop-h l = CutsSoFar l.n l.table l.h l.classes l.firsts l.counts l.tried l.uses l.use_counts
