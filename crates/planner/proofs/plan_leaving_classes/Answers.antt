-- `planner::plan_leaving_classes` meets its contract.
use Rattle.std.proofs.Common.{sym, ◌∙◌, ap}
use mathlib.Core.Path.{subst⁻¹}
use Rattle.diagram.specs.Accepted.{Accepted}
use Rattle.numbers.specs.Refusals.{number, answer_of}
use Rattle.numbers.specs.declared.Refusal.TheVariants as refusals
use Rattle.diagram.proofs.Laws.Builds.{passed_table}
use Rattle.cascade.specs.Plan.{Plans}
use Rattle.cascade.specs.declared.Planned.{Planned}
use Rattle.planner.proofs.Laws.Plans.{refused_plans, plan_unfit, plan_limited}
use Rattle.planner.proofs.Laws.Rows.{rows_filled, rows_kept, classed, unclassed}
use Rattle.planner.proofs.plan_leaving_classes.Goals as goal
use Rattle.planner.proofs.plan_leaving_classes.Goals.{In_default}

-- The table passed its checks.
module _ (c : In_default) where
  passed : Accepted c.args.n c.args.table.now
  unfolding answer_of
  passed = passed_table c.args.n c.args.table.now (sym c.check_table.ensures ∙ ap answer_of c.in_default.is)

pub returns-in-Err : goal.returns-in-Err
unfolding answer_of
returns-in-Err c =
    let a = c.args in
    let unfit = sym c.check_table.ensures ∙ ap answer_of c.in-Err.is in record {
      plans = subst⁻¹ (λ (r : Planned). Plans a.n a.table.now a.limit r) c.refused_plan.ensures
          (refused_plans a.n a.table.now a.limit c.in-Err.refusal (plan_unfit a.n a.table.now a.limit _ unfit));
      rows_left = rows_kept a.n a.table.now a.limit (unclassed a.n a.table.now a.limit (number c.in-Err.refusal) unfit);
    }

pub returns-then-not-is_limit : goal.returns-then-not-is_limit
unfolding number
returns-then-not-is_limit c =
    let a = c.args in
    let accepted = passed (goal.at.returns-then-not-is_limit c).In_default in
    let unlimited = sym c.is_limit.ensures ∙ c.if-not-is_limit.true in record {
      plans = subst⁻¹ (λ (r : Planned). Plans a.n a.table.now a.limit r) c.refused_plan-then-not-is_limit.ensures
          (refused_plans a.n a.table.now a.limit refusals.Limit (plan_limited a.n a.table.now a.limit accepted unlimited));
      rows_left = rows_kept a.n a.table.now a.limit (classed a.n a.table.now a.limit accepted ∙ unlimited);
    }

pub plan_table-requires-clause-accepted : goal.plan_table-requires-clause-accepted
plan_table-requires-clause-accepted c = (passed (goal.at.plan_table-requires-clause-accepted c).In_default, sym c.is_limit.ensures ∙ c.if-not-is_limit.false)

pub returns : goal.returns
returns c =
    let a = c.args in record {
      plans = c.plan_table.ensures.plans;
      rows_left = rows_filled a.n a.table.now a.limit (classed a.n a.table.now a.limit (passed (goal.at.returns c).In_default) ∙ sym c.is_limit.ensures ∙ c.if-not-is_limit.false) c.plan_table.ensures.rows_filled;
    }
