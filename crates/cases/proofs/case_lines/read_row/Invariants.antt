use Rattle.std.proofs.Common.{length}
use Rattle.decimal.proofs.Laws.Values.{ValuesSoFar}
use Rattle.cases.proofs.case_lines.read_row.Given as goal

abbrev pub invariant-loop-count : goal.invariant-loop-count
invariant-loop-count l = ValuesSoFar l.line (record { at = 0; line = 1 }) (length l.initial.row) l.initial.row l.place l.count l.row
