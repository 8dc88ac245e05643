use Rattle.lines.proofs.Laws.Digits.{DigitsLeft}
use Rattle.lines.proofs.decimals.write_number.Given as goal

abbrev pub invariant-loop-k : goal.invariant-loop-k
invariant-loop-k l = DigitsLeft l.initial.text l.at l.number l.k l.rest l.text
