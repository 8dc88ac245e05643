-- `plan_compile::panstrait_plan` meets its contract.
use Rattle.exports.proofs.Laws.Planned.{plan_given, plan_refused}
use Rattle.exports.proofs.plan_compile.panstrait_plan.Goals as goal

pub returns-in-Ok : goal.returns-in-Ok
returns-in-Ok c = plan_given _ _ _ _ _ _ _ _ c.plan-planned.ensures _ _ c.in-Ok.is c.cell_rows.ensures

pub returns-in-Err : goal.returns-in-Err
returns-in-Err c = rw c.from.ensures (plan_refused _ _ _ _ _ _ _ _ c.plan-planned.ensures _ c.in-Err.is)
