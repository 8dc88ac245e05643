use Rattle.image.proofs.Laws.Spreading.{Spread}
use Rattle.runner.proofs.expansion.spread.Given as goal

abbrev pub invariant-loop-y : goal.invariant-loop-y
invariant-loop-y l = Spread l.image l.words l.group l.count l.initial.classes l.initial.table l.classes l.table l.y
