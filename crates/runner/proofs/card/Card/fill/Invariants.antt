use Rattle.image.proofs.Laws.Spreading.{AllBlocks}
use Rattle.runner.proofs.card.Card.fill.Given as goal

abbrev pub invariant-loop-left : goal.invariant-loop-left
invariant-loop-left l = AllBlocks l.self.image.now l.at l.left l.count l.classes l.table

abbrev pub decreases-loop-left : goal.decreases-loop-left
decreases-loop-left l = l.left
