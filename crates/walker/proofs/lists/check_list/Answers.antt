-- `lists::check_list` meets its contract: the checks in their order.
use Rattle.std.proofs.Common.{w32, ◌≡◌, sym, ◌∙◌, ap, true, to_z-of_z}
use Rattle.numbers.specs.Ranges.{is_variables, is_value}
use Rattle.diagram.specs.Walk.{list_fits, of_list}
use Rattle.diagram.specs.Inner.Checks.{list_checks}
use Rattle.numbers.specs.Refusals.{number, answer_of}
use Rattle.walker.proofs.lists.check_list.Goals as goal
use Rattle.walker.proofs.lists.check_list.Goals.{After-is_value, After-list_fits, Else-not-is_variables}

pub returns-then-not-is_variables : goal.returns-then-not-is_variables
unfolding list_checks of_list number answer_of
returns-then-not-is_variables c = rw (sym c.is_variables.ensures ∙ c.if-not-is_variables.true)

-- What passed, check by check.
variables : (c : Else-not-is_variables) → is_variables c.args.n ≡ true
variables c = sym c.is_variables.ensures ∙ c.if-not-is_variables.false

in_range : (c : After-is_value) → is_value c.args.offset ≡ c.is_value.result
in_range c = sym (c.is_value.ensures ∙ ap is_value (to_z-of_z {w = w32} c.ranges.offset))

pub returns-then-not-is_value : goal.returns-then-not-is_value
unfolding list_checks of_list number answer_of
returns-then-not-is_value c = rw (variables (goal.at.returns-then-not-is_value c).Else-not-is_variables, in_range (goal.at.returns-then-not-is_value c).After-is_value ∙ c.if-not-is_value.true)

pub list_fits-requires : goal.list_fits-requires
list_fits-requires c = variables (goal.at.list_fits-requires c).Else-not-is_variables

-- The records are looked at.
module _ (c : After-list_fits) where
  accepted_variables : is_variables c.args.n ≡ true
  accepted_variables = sym c.is_variables.ensures ∙ c.if-not-is_variables.false

  accepted_start : is_value c.args.offset ≡ true
  accepted_start = sym (c.is_value.ensures ∙ ap is_value (to_z-of_z {w = w32} c.ranges.offset)) ∙ c.if-not-is_value.false

  fits : list_fits c.args.n c.args.records.now ≡ c.list_fits.result
  fits = sym c.list_fits.ensures

pub returns-then-not-list_fits : goal.returns-then-not-list_fits
unfolding list_checks of_list number answer_of
returns-then-not-list_fits c = let d = (goal.at.returns-then-not-list_fits c).After-list_fits in rw (accepted_variables d, accepted_start d, fits d ∙ c.if-not-list_fits.true)

pub returns : goal.returns
unfolding list_checks of_list number answer_of
returns c = let d = (goal.at.returns c).After-list_fits in rw (accepted_variables d, accepted_start d, fits d ∙ c.if-not-list_fits.false)
