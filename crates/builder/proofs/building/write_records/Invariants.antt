use Rattle.std.specs.Prelude.{◌-◌}
use Rattle.diagram.proofs.Laws.AllRecords.{RecordsSoFar}
use Rattle.builder.proofs.building.write_records.Given as goal

abbrev pub invariant-loop-h : goal.invariant-loop-h
invariant-loop-h l = RecordsSoFar l.cuts.n l.cuts.table.now l.initial.nodes l.nodes l.row l.made (l.cuts.n - l.h)
