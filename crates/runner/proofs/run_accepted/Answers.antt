-- `runner::run_accepted` meets its contract: an accepted image has few variables.
use Rattle.image.proofs.Laws.Evaluating.{variables_narrow}
use Rattle.runner.proofs.run_accepted.Goals as goal

pub overflow_shl-variables : goal.overflow_shl-variables
overflow_shl-variables c = variables_narrow c.args.image.now c.requires c.variables.result c.variables.ensures
