use Rattle.std.proofs.Common.{◌+◌, ◌*◌}
use Rattle.operands.specs.Bytes.{signed_bytes}
use Rattle.lines.proofs.Laws.Pieces.{PiecesWritten}
use Rattle.decimal.proofs.values.write_input.Given as goal

abbrev pub invariant-loop-j : goal.invariant-loop-j
invariant-loop-j l = PiecesWritten signed_bytes l.values l.initial.input 2 l.j (2 + 4 * l.j) l.input
