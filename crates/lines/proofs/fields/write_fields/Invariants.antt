use Rattle.lines.specs.Inner.Writing.{field}
use Rattle.lines.proofs.Laws.Pieces.{PiecesWritten}
use Rattle.lines.proofs.fields.write_fields.Given as goal

abbrev pub invariant-loop-number : goal.invariant-loop-number
invariant-loop-number l = PiecesWritten field l.numbers l.initial.text l.at l.number-index l.next l.text
