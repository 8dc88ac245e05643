-- `widths::bit_length` meets its contract: what the leading zeros leave of 32 digits.
use lib.Count.{leading_le}
use Rattle.numbers.proofs.Laws.BitLength.{bit_length_zeros}
use Rattle.numbers.proofs.widths.bit_length.Goals as goal

pub overflow_sub-result : goal.overflow_sub-result
overflow_sub-result c = leading_le 32 c.args.number

pub returns : goal.returns
returns c = bit_length_zeros 32 c.args.number c.ranges.number.fits
