-- `card::Card::evaluate` meets its contract. The loop's invariant: the cells left lead to the card's answer.
use Rattle.std.proofs.Common.{arith}
use Rattle.std.proofs.lemmas.Grind.{common_steps}
use Rattle.image.specs.Inner.Evaluation.{card_read, result_so_far}
use Rattle.image.specs.Run.{result_of, run_card}
use Rattle.image.proofs.Laws.Evaluating.{cell_ahead, cell_takes, result_reached}
use Rattle.runner.proofs.card.Card.evaluate.Goals as goal

pub read_cell-progress-requires : goal.read_cell-progress-requires
read_cell-progress-requires c =
    let image = c.args.self.now.image.now in
    cell_ahead image c.args.x (run_card (card_read image) c.args.x) c.loop-progress.progress c.loop-progress.invariant c.loop-progress-test.true

pub loop-progress-smaller : goal.loop-progress-smaller
loop-progress-smaller c =
    let image = c.args.self.now.image.now in
    let x = c.args.x in
    let progress = c.loop-progress.progress in
    let ahead = cell_ahead image x (run_card (card_read image) x) progress c.loop-progress.invariant c.loop-progress-test.true in
    let takes = cell_takes image x (run_card (card_read image) x) progress ahead in
    grind (arith, common_steps)

pub returns : goal.returns
unfolding result_of result_so_far
returns c =
    let image = c.args.self.now.image.now in
    let progress = c.loop-progress.progress in
    let none = c.loop-progress-test.false in
    let reached = result_reached image c.args.x (run_card (card_read image) c.args.x) progress c.loop-progress.invariant (omega arith) in
    grind (arith, common_steps)
