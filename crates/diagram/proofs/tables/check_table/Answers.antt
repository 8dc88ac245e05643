-- `tables::check_table` meets its contract.
use Prim.Native.Nat.{◌^◌}
use mathlib.Core.Path.{◌≡◌, sym, ◌∙◌}
use mathlib.Core.Bool.{true}
use native.Mathlib.Omega.{arith}
use lib.ListN.{length}
use borrow.Author.Tests.{eq-eqb, ne_eqb}
use Rattle.numbers.specs.Ranges.{is_variables}
use Rattle.diagram.specs.Build.{of_table}
use Rattle.diagram.specs.Inner.Checks.{table_checks}
use Rattle.numbers.specs.Refusals.{number, answer_of}
use Rattle.diagram.proofs.Laws.Checks.{variables_range}
use Rattle.diagram.proofs.tables.check_table.Goals as goal
use Rattle.diagram.proofs.tables.check_table.Goals.{Else-not-is_variables, Else-table-power}

pub returns-then-not-is_variables : goal.returns-then-not-is_variables
unfolding table_checks of_table number answer_of
returns-then-not-is_variables c = rw (sym c.is_variables.ensures ∙ c.if-not-is_variables.true)

-- What passed, check by check.
variables : (c : Else-not-is_variables) → is_variables c.args.n ≡ true
variables c = sym c.is_variables.ensures ∙ c.if-not-is_variables.false

pub power-requires : goal.power-requires
power-requires c = let v = (variables_range _ (variables c)).1 in omega arith

pub returns-then-table-power : goal.returns-then-table-power
unfolding table_checks of_table number answer_of
returns-then-table-power c =
    let a = c.args in
    rw (variables (goal.at.returns-then-table-power c).Else-not-is_variables, ne_eqb (length a.table.now) (2 ^ a.n) (λ e. c.if-table-power.true (e ∙ sym c.power.ensures)))

size : (c : Else-table-power) → length c.args.table.now ≡ 2 ^ c.args.n
size c = c.if-table-power.false ∙ c.power.ensures

pub returns-then-not-values_fit : goal.returns-then-not-values_fit
unfolding table_checks of_table number answer_of
returns-then-not-values_fit c =
    let d = (goal.at.returns-then-not-values_fit c).Else-table-power in
    rw (variables (goal.at.returns-then-not-values_fit c).Else-not-is_variables, eq-eqb _ _ (size d), sym c.values_fit.ensures ∙ c.if-not-values_fit.true)

pub returns : goal.returns
unfolding table_checks of_table number answer_of
returns c =
    let d = (goal.at.returns c).Else-table-power in
    rw (variables (goal.at.returns c).Else-not-is_variables, eq-eqb _ _ (size d), sym c.values_fit.ensures ∙ c.if-not-values_fit.false)
