-- `runner::expand_accepted` meets its contract: an accepted image has few variables, and what it tells of the buffer's room.
use Rattle.std.proofs.Common.{length, arith}
use Rattle.numbers.specs.Refusals.{number}
use Rattle.numbers.specs.declared.Refusal.TheVariants as refusals
use Rattle.image.proofs.Laws.Evaluating.{variables_narrow, variables_size}
use Rattle.image.proofs.Laws.Running.{expand_room, expands_refused, expands_table}
use Rattle.runner.proofs.expand_accepted.Goals as goal

pub overflow_shl-variables : goal.overflow_shl-variables
overflow_shl-variables c = variables_narrow c.args.card.now.image.now c.args.card.now.accepted c.variables.result c.variables.ensures

pub returns-then-table-variables : goal.returns-then-table-variables
unfolding number
returns-then-table-variables c =
    let image = c.args.card.now.image.now in
    let table = c.args.table.now in
    let size = variables_size image c.args.card.now.accepted c.variables.result c.variables.ensures in
    let other = c.if-table-variables.true in
    expands_refused image table refusals.Length (expand_room image c.args.card.now.accepted (length table) (omega arith))

pub returns : goal.returns
returns c =
    let image = c.args.card.now.image.now in
    let size = variables_size image c.args.card.now.accepted c.variables.result c.variables.ensures in
    let same = c.if-table-variables.false in
    expands_table image c.args.card.now.accepted c.args.table.now c.fill.new.table (omega arith) c.fill.ensures
