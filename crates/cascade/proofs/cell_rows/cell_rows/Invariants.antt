use Rattle.cascade.proofs.Laws.Rows.{RowsTo}
use Rattle.cascade.proofs.cell_rows.cell_rows.Given as goal

abbrev pub invariant-loop-k : goal.invariant-loop-k
invariant-loop-k l = RowsTo l.fn.cells l.initial.rows l.k l.rows
