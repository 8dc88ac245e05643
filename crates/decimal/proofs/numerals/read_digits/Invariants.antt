use Rattle.decimal.proofs.Laws.Numbers.{DigitsSoFar}
use Rattle.decimal.proofs.numerals.read_digits.Given as goal

abbrev pub invariant-loop-byte : goal.invariant-loop-byte
invariant-loop-byte l = DigitsSoFar l.digits 0 l.byte-index l.value
