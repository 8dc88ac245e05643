-- `decimals::digit_count` meets its contract.
use Rattle.std.proofs.Common.{rules}
use Rattle.lines.proofs.Laws.Digits.{logarithm_counts}
use Rattle.lines.proofs.decimals.digit_count.Goals as goal

pub returns : goal.returns
returns c = let log = c.checked_ilog10.ensures in logarithm_counts c.args.number _ _ _ (λ k post. search rules) log.none log.power_le log.next_power_gt c.map_or.ensures
