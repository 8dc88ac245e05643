-- `judging::judge_line` meets its contract: the numbers that were read decide.
use Rattle.std.proofs.Common.{◌≤◌, length, sym, ◌∙◌, ap, pos, arith, length-take-le}
use lib.ListN.{length-replicate}
use Rattle.cases.specs.Text.{line_numbers}
use Rattle.cases.proofs.Laws.Text.{count_within, row_taken}
use Rattle.checks.specs.Cases.{case_passes, line_passes}
use Rattle.checks.proofs.judging.judge_line.Goals as goal
use Rattle.checks.proofs.judging.judge_line.Goals.{After-read_row-count}

-- The numbers that were read are within the row.
within : (c : After-read_row-count) → c.read_row-count.result ≤ length c.read_row-count.new.row
within c = let w = count_within c.read_row-count.ensures in let k = c.read_row-count.auto.row in omega arith

pub slice_bounds-row-end : goal.slice_bounds-row-end
slice_bounds-row-end c = within (goal.at.slice_bounds-row-end c).After-read_row-count

pub slice_bounds-judge-end : goal.slice_bounds-judge-end
slice_bounds-judge-end c = sym (length-take-le _ _ (within (goal.at.slice_bounds-judge-end c).After-read_row-count))

pub returns : goal.returns
unfolding line_passes
returns c =
    c.judge.ensures ∙ ap case_passes (row_taken c.read_row-count.ensures ∙ ap (λ k. line_numbers k c.args.line.now) (length-replicate 8448 (pos 0)))
