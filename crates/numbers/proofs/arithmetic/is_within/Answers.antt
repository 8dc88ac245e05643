-- `arithmetic::is_within` meets its contract.
use Rattle.std.proofs.Common.{◌∙◌}
use mir.Facts.{to_z-of_z}
use Rattle.numbers.proofs.Laws.Comparing.{int_in_range}
use Rattle.numbers.proofs.arithmetic.is_within.Goals as goal

pub returns : goal.returns
returns c =
    let f = c.ranges in
    let e = c.new.ensures in
    c.contains.ensures.value ∙ rw (e.start, e.end, e.exhausted, to_z-of_z f.low, to_z-of_z f.high, to_z-of_z f.number) (int_in_range c.args.low c.args.high c.args.number)
