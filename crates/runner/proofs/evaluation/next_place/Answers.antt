-- `evaluation::next_place` meets its contract.
use Rattle.std.proofs.Common.{arith}
use Rattle.image.specs.Inner.Evaluation.{first_word, next_place}
use Rattle.std.proofs.lemmas.Grind.{common_steps}
use Rattle.image.proofs.Laws.Evaluating.{command_room, group_narrow}
use Rattle.runner.proofs.evaluation.next_place.Goals as goal

pub overflow_add-at : goal.overflow_add-at
overflow_add-at c = let room = command_room c.args.image.now c.requires.1.0 c.args.at c.requires.1.1 in grind (arith, common_steps)

pub read_two-incoming-requires : goal.read_two-incoming-requires
read_two-incoming-requires c = let room = command_room c.args.image.now c.requires.1.0 c.args.at c.requires.1.1 in omega arith

pub overflow_add-at-2 : goal.overflow_add-at-2
overflow_add-at-2 c = let room = command_room c.args.image.now c.requires.1.0 c.args.at c.requires.1.1 in grind (arith, common_steps)

pub word_place-requires : goal.word_place-requires
unfolding next_place first_word
word_place-requires c =
    let there = c.requires.1.1 in
    let next = there.next in
    let narrow = group_narrow c.args.image.now c.requires.1.0 c.args.at there c.args.group c.requires.0 in
    grind (arith, common_steps)
