use Rattle.decimal.proofs.Laws.Values.{ValuesSoFar}
use Rattle.decimal.proofs.values.read_values.Given as goal

abbrev pub invariant-loop-j : goal.invariant-loop-j
invariant-loop-j l = ValuesSoFar l.rest.text.now (record { at = l.rest.at; line = 1 }) l.count l.initial.values l.place l.j l.values
