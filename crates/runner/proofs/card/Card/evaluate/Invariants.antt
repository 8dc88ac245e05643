use Rattle.image.specs.Inner.Evaluation.{card_read}
use Rattle.image.specs.Run.{run_card}
use Rattle.image.proofs.Laws.Evaluating.{Evaluating}
use Rattle.runner.proofs.card.Card.evaluate.Given as goal

abbrev pub invariant-loop-progress : goal.invariant-loop-progress
invariant-loop-progress l = Evaluating l.self.image.now l.x (run_card (card_read l.self.image.now) l.x) l.progress

abbrev pub decreases-loop-progress : goal.decreases-loop-progress
decreases-loop-progress l = l.progress.left
