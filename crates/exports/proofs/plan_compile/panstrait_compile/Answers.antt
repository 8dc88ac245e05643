-- `plan_compile::panstrait_compile` meets its contract.
use Rattle.exports.proofs.Laws.Planned.{compile_given, compile_refused}
use Rattle.exports.proofs.plan_compile.panstrait_compile.Goals as goal

pub returns-in-Ok : goal.returns-in-Ok
returns-in-Ok c = compile_given _ _ _ _ _ _ _ _ _ _ _ c.compile.ensures _ _ c.in-Ok.is c.cell_rows.ensures

pub returns-in-Err : goal.returns-in-Err
returns-in-Err c = rw c.from.ensures (compile_refused _ _ _ _ _ _ _ _ _ _ _ c.compile.ensures _ c.in-Err.is)
