use Rattle.sums.specs.Inner.Filling.{SumsWritten}
use Rattle.sums.proofs.sum_tables.write_sums.Given as goal

abbrev pub invariant-loop-j : goal.invariant-loop-j
invariant-loop-j l = SumsWritten l.weights l.table l.j
