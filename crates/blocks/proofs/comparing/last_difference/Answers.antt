-- `comparing::last_difference` meets its contract.
use Rattle.std.proofs.Common.{rules, ◌-◌, length, pos}
use Rattle.std.proofs.lemmas.Option.{unwrap_or-slice_get}
use Rattle.blocks.proofs.Laws.Comparing.{last_by_values}
use Rattle.blocks.proofs.comparing.last_difference.Goals as goal

pub returns : goal.returns
returns c = let e = last_by_values c.args.values.now in let u = unwrap_or-slice_get c.args.values.now (length c.args.values.now - 1) (pos 0) in search rules
