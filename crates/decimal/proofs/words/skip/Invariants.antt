use Rattle.decimal.proofs.Laws.Positions.{Skipping}
use Rattle.decimal.proofs.words.skip.Given as goal

abbrev pub invariant-loop-at : goal.invariant-loop-at
invariant-loop-at l = Skipping l.text l.fn.place (record { at = l.at; line = l.line })
