use Rattle.listing.proofs.Laws.Values.{ValuesRead}
use Rattle.listing.proofs.input.read_values.Given as goal

abbrev pub invariant-loop-j : goal.invariant-loop-j
invariant-loop-j l = ValuesRead l.input l.initial.values l.j l.values
