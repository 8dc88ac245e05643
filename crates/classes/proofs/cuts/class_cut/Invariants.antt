use Rattle.std.proofs.Common.{length}
use Rattle.classes.specs.Inner.Noting.{cut_rows}
use Rattle.classes.proofs.Laws.Cut.{CutSoFar}
use Rattle.classes.proofs.cuts.class_cut.Given as goal

abbrev pub invariant-loop-j : goal.invariant-loop-j
invariant-loop-j l = CutSoFar l.table l.size (length l.initial.classes) l.j (cut_rows l.count l.classes l.firsts l.tried l.uses l.use_counts)
