use Rattle.compiler.specs.Inner.Writing.{cell_groups}
use Rattle.compiler.proofs.Laws.Cells.{CellsWritten}
use Rattle.compiler.proofs.cells.write_cells.Given as goal

abbrev pub invariant-loop-cell : goal.invariant-loop-cell
invariant-loop-cell l = CellsWritten l.cuts.n l.cuts.table.now (cell_groups l.cells) l.initial.image l.image l.at l.h l.cell-index
