-- `arithmetic::is_limit` meets its contract.
use Rattle.std.proofs.Common.{◌∙◌}
use Rattle.numbers.specs.Ranges.{is_limit, widest_address}
use Rattle.numbers.proofs.Laws.Comparing.{nat_in_range}
use Rattle.numbers.proofs.arithmetic.is_limit.Goals as goal

pub returns : goal.returns
unfolding is_limit widest_address
returns c = let e = c.new.ensures in c.contains.ensures.value ∙ rw (e.start, e.end, e.exhausted) (nat_in_range 1 12 c.args.limit)
