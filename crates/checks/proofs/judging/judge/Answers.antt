-- `judging::judge` meets its contract: the numbers are as many as they say, and the rows decide.
use Rattle.std.proofs.Common.{sym, ◌∙◌}
use Rattle.checks.proofs.Laws.Cases.{other_length, rows_judged}
use Rattle.checks.proofs.judging.judge.Goals as goal

pub returns-then-row-third : goal.returns-then-row-third
returns-then-row-third c =
    sym (other_length c.args.row.now c.size_at-first.ensures.value c.size_at.ensures.value c.size_at-2.ensures.value c.if-row-third.true)

pub returns : goal.returns
returns c =
    c.judge_rows.ensures
    ∙ sym (rows_judged c.args.row.now c.size_at-first.ensures.value c.size_at.ensures.value c.size_at-2.ensures.value c.if-row-third.false)
