-- `planning::refused_plan` meets its contract.
use mathlib.Core.Path.{refl}
use Rattle.numbers.specs.Lists.{padded}
use Rattle.numbers.specs.Ranges.{most_variables}
use Rattle.cascade.specs.Plan.{no_cell}
use Rattle.planner.specs.Inner.Rows.{refused_plan}
use Rattle.planner.proofs.planning.refused_plan.Goals as goal

pub returns : goal.returns
unfolding refused_plan padded most_variables no_cell
returns c = refl
