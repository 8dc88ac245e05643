use Rattle.diagram.proofs.Laws.CutRecords.{CutSoFar}
use Rattle.builder.proofs.recorder.place_cut.Given as goal

abbrev pub invariant-loop-c : goal.invariant-loop-c
invariant-loop-c l = CutSoFar l.cuts.n l.h l.before l.cuts.table.now l.initial.row l.initial.nodes l.c l.made l.row l.nodes
