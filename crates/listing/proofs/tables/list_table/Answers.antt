-- `tables::list_table` meets its contract, by Plan's answer.
use Rattle.std.proofs.Common.{arith}
use Rattle.cascade.proofs.Laws.Planned.{plan_refused, planned_groups}
use Rattle.listing.specs.Listing.{answer_text}
use Rattle.listing.proofs.Laws.Texts.{text_ready, refusal_fits}
use Rattle.listing.proofs.tables.list_table.Goals as goal

pub write_table-requires : goal.write_table-requires
write_table-requires c = text_ready c.args.n c.args.table.now c.args.limit c.plan-planned.result _ c.args.text.now c.requires.0 c.plan-planned.ensures c.in-Ok.is c.requires.1

pub write_refusal-requires : goal.write_refusal-requires
write_refusal-requires c = refusal_fits _ c.args.text.now (omega arith) c.requires.1

pub returns-in-Ok : goal.returns-in-Ok
unfolding answer_text
returns-in-Ok c = rw (planned_groups c.args.n c.args.table.now c.args.limit c.plan-planned.result c.plan-planned.ensures _ c.in-Ok.is) c.write_table.ensures

pub returns-in-Err : goal.returns-in-Err
unfolding answer_text
returns-in-Err c = rw (plan_refused c.args.n c.args.table.now c.args.limit c.plan-planned.result c.plan-planned.ensures _ c.in-Err.is) (rw c.from.ensures at c.write_refusal.ensures)
