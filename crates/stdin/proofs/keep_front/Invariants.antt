-- No more bytes are kept than there is room for. A read that is not the end gives a byte at least, so what is left of the buffer is the measure.
use Rattle.std.proofs.Common.{length, ◌-◌, ◌≤◌}
use Rattle.stdin.proofs.keep_front.Given as goal

abbrev pub invariant-loop-kept : goal.invariant-loop-kept
invariant-loop-kept g l = l.kept ≤ length l.initial.buffer

abbrev pub decreases-loop-kept : goal.decreases-loop-kept
decreases-loop-kept g l = length l.initial.buffer - l.kept
