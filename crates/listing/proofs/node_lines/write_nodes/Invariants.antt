use Rattle.numbers.specs.Lists.{numbers_from}
use Rattle.listing.specs.Inner.NodeLines.{record_line}
use Rattle.lines.proofs.Laws.Pieces.{PiecesWritten}
use Rattle.listing.proofs.node_lines.write_nodes.Given as goal

abbrev pub invariant-loop-k : goal.invariant-loop-k
invariant-loop-k l = PiecesWritten (record_line l.nodes) (numbers_from 1 l.count) l.initial.text l.at l.k l.next l.text
