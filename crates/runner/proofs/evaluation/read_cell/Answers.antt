-- `evaluation::read_cell` meets its contract: the cell ahead is all there.
use Rattle.std.proofs.Common.{arith}
use Rattle.std.proofs.lemmas.Grind.{common_steps}
use Rattle.image.proofs.Laws.Evaluating.{command_room}
use Rattle.runner.proofs.evaluation.read_cell.Goals as goal

pub overflow_add-at : goal.overflow_add-at
overflow_add-at c = let room = command_room c.args.image.now c.args.progress.left c.args.progress.at c.requires.there in grind (arith, common_steps)

pub read_one-group-requires : goal.read_one-group-requires
read_one-group-requires c = let room = command_room c.args.image.now c.args.progress.left c.args.progress.at c.requires.there in omega arith

pub overflow_add-at-2 : goal.overflow_add-at-2
overflow_add-at-2 c = let room = command_room c.args.image.now c.args.progress.left c.args.progress.at c.requires.there in grind (arith, common_steps)
