-- `weight_lists::check_weights` meets its contract.
use Rattle.std.proofs.Common.{◌≡◌, sym, ◌∙◌, eq-eqb, ne_eqb}
use Rattle.std.specs.Prelude.{true}
use Rattle.numbers.specs.Ranges.{is_variables}
use Rattle.numbers.specs.Refusals.{number, answer_of}
use Rattle.sums.specs.Sums.{of_weights}
use Rattle.sums.specs.Inner.Checks.{weight_checks}
use Rattle.sums.proofs.weight_lists.check_weights.Goals as goal
use Rattle.sums.proofs.weight_lists.check_weights.Goals.{Else-not-is_variables}

pub returns-then-not-is_variables : goal.returns-then-not-is_variables
unfolding weight_checks of_weights answer_of number
returns-then-not-is_variables c = rw (sym c.is_variables.ensures ∙ c.if-not-is_variables.true)

variables : (c : Else-not-is_variables) → is_variables c.args.n ≡ true
variables c = sym c.is_variables.ensures ∙ c.if-not-is_variables.false

pub returns-then-weights-n : goal.returns-then-weights-n
unfolding weight_checks of_weights answer_of number
returns-then-weights-n c = rw (variables (goal.at.returns-then-weights-n c).Else-not-is_variables, ne_eqb _ _ c.if-weights-n.true)

pub returns-then-not-values_fit : goal.returns-then-not-values_fit
unfolding weight_checks of_weights answer_of number
returns-then-not-values_fit c =
    rw (variables (goal.at.returns-then-not-values_fit c).Else-not-is_variables, eq-eqb _ _ c.if-weights-n.false, sym c.values_fit.ensures ∙ c.if-not-values_fit.true)

pub returns : goal.returns
unfolding weight_checks of_weights answer_of number
returns c =
    rw (variables (goal.at.returns c).Else-not-is_variables, eq-eqb _ _ c.if-weights-n.false, sym c.values_fit.ensures ∙ c.if-not-values_fit.false)
