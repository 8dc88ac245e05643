-- `judging::judge_all` is safe and ends: both lines end within the text, the first behind its start.
use Rattle.std.proofs.Common.{◌≡◌, ℕ, ◌+◌, ◌≤◌, List, length, drop, arith}
use Rattle.cases.specs.Text.{line_length}
use Rattle.cases.proofs.Laws.Text.{behind_within, behind_further}
use Rattle.checks.proofs.judging.judge_all.Goals as goal

-- The line of the title and the line of the numbers end within the text.
title_within : (text : List ℕ) (at : ℕ) → at ≤ length text → {numbers : ℕ} → numbers ≡ at + line_length (drop at text) → numbers ≤ length text
title_within text at inside e = let f = behind_within text at inside in omega arith

both_within : (text : List ℕ) (at : ℕ) → at ≤ length text → {numbers next : ℕ} → numbers ≡ at + line_length (drop at text) → next ≡ numbers + line_length (drop numbers text) → next ≤ length text
both_within text at inside {numbers} e f = title_within text numbers (title_within text at inside e) f

pub behind_line-next-requires : goal.behind_line-next-requires
behind_line-next-requires g c = title_within c.args.cases.now c.loop-at.at c.loop-at.invariant c.behind_line-numbers.ensures

pub slice_bounds-judge_line-end : goal.slice_bounds-judge_line-end
slice_bounds-judge_line-end g c = both_within c.args.cases.now c.loop-at.at c.loop-at.invariant c.behind_line-numbers.ensures c.behind_line-next.ensures

pub slice_bounds-note-end : goal.slice_bounds-note-end
slice_bounds-note-end g c = title_within c.args.cases.now c.loop-at.at c.loop-at.invariant c.behind_line-numbers.ensures

pub loop-at-smaller : goal.loop-at-smaller
loop-at-smaller g c =
    let on = behind_further c.args.cases.now c.loop-at.at c.loop-at-test.true in
    let inside = both_within c.args.cases.now c.loop-at.at c.loop-at.invariant c.behind_line-numbers.ensures c.behind_line-next.ensures in
    omega (arith, on, inside, c.behind_line-numbers.ensures, c.behind_line-next.ensures)

pub loop-at-preserved : goal.loop-at-preserved
loop-at-preserved g c = both_within c.args.cases.now c.loop-at.at c.loop-at.invariant c.behind_line-numbers.ensures c.behind_line-next.ensures
