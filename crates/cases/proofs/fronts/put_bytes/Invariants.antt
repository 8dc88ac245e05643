use Rattle.cases.proofs.Laws.Rows.{BytesTo}
use Rattle.cases.proofs.fronts.put_bytes.Given as goal

abbrev pub invariant-loop-i : goal.invariant-loop-i
invariant-loop-i l = BytesTo l.initial.bytes l.row l.i l.bytes
