use Rattle.std.proofs.Common.{◌-◌, ◌≤◌, length}
use Rattle.checks.proofs.judging.judge_all.Given as goal

abbrev pub invariant-loop-at : goal.invariant-loop-at
invariant-loop-at g l = l.at ≤ length l.cases

abbrev pub decreases-loop-at : goal.decreases-loop-at
decreases-loop-at g l = length l.cases - l.at
