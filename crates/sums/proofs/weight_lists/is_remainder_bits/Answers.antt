-- `weight_lists::is_remainder_bits` meets its contract.
use Rattle.std.proofs.Common.{◌∙◌}
use Rattle.numbers.proofs.Laws.Comparing.{nat_in_range}
use Rattle.sums.specs.Sums.{is_remainder_bits}
use Rattle.sums.proofs.weight_lists.is_remainder_bits.Goals as goal

pub returns : goal.returns
unfolding is_remainder_bits
returns c = let e = c.new.ensures in c.contains.ensures.value ∙ rw (e.start, e.end, e.exhausted) (nat_in_range 1 11 c.args.q)
