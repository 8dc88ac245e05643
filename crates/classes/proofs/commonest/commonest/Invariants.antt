use Rattle.std.proofs.Common.{take}
use Rattle.blocks.proofs.Laws.Commonest.{Leading}
use Rattle.classes.proofs.commonest.commonest.Given as goal

abbrev pub invariant-loop-class : goal.invariant-loop-class
invariant-loop-class l = Leading (take l.class l.use_counts) l.common
