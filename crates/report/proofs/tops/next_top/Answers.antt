-- `tops::next_top` meets its contract: it stays but where a multiple of 8 begins.
use Rattle.std.proofs.Common.{◌+◌, ◌<◌, ◌∙◌, arith, pow_mono}
use mir.Facts.{Fits-of_lt}
use Rattle.diagram.proofs.Laws.Checks.{variables_range}
use Rattle.report.proofs.Laws.Tops.{top_next}
use Rattle.report.proofs.tops.next_top.Goals as goal
use Rattle.report.proofs.tops.next_top.Goals.{Start}

-- X and the next fit.
small : (c : Start) → c.args.x + 1 < 4097
small c = let v = (variables_range c.args.list.now.n c.args.list.now.passing.variables).1 in let m = pow_mono {i = c.args.list.now.n} {j = 12} v in let l = c.requires.0 in omega arith

pub overflow_add-x : goal.overflow_add-x
overflow_add-x c = let l = small c in Fits-of_lt (omega arith)

pub returns-then-x-ne0 : goal.returns-then-x-ne0
returns-then-x-ne0 c =
    let l = c.args.list.now in
    c.requires.1 ∙ top_next l.n l.offset l.records.now c.args.x c.requires.0 c.if-x-ne0.true

pub overflow_add-x-2 : goal.overflow_add-x-2
overflow_add-x-2 c = let l = small (goal.at.overflow_add-x-2 c).Start in Fits-of_lt (omega arith)
