use Rattle.lines.proofs.Laws.Pieces.{PiecesWritten}
use Rattle.listing.specs.Inner.CellLines.{plan_line}
use Rattle.listing.proofs.cell_lines.write_cascade.Given as goal

abbrev pub invariant-loop-cell : goal.invariant-loop-cell
invariant-loop-cell l = PiecesWritten plan_line l.cells l.initial.text l.at l.cell-index l.next l.text
