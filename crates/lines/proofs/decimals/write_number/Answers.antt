-- `decimals::write_number` meets its contract. The loop's invariant: with the digits that are left the whole number stands there.
use Rattle.std.proofs.Common.{◌-◌, arith}
use Rattle.lines.proofs.Laws.Digits.{all_left, next_digit, none_left}
use Rattle.lines.proofs.decimals.write_number.Goals as goal

pub loop-k-init : goal.loop-k-init
loop-k-init c = all_left _ _ _ c.digit_count-count.ensures

pub loop-k-preserved : goal.loop-k-preserved
loop-k-preserved c = let l = c.loop-k-test.true in next_digit _ _ _ (c.loop-k.k - 1) (omega arith) c.requires c.loop-k.invariant

pub returns : goal.returns
returns c = let l = c.loop-k-test.false in none_left _ _ _ (omega arith) c.digit_count-count.ensures c.loop-k.invariant
