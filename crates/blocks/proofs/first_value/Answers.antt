-- `blocks::first_value` meets its contract.
use Rattle.std.proofs.Common.{w32, pos, ◌∙◌, ap}
use Rattle.std.proofs.lemmas.Option.{unwrap_or-slice_get}
use Rattle.std.specs.Option.{unwrap_or}
use mir.Facts.{to_z-of_z}
use Rattle.blocks.specs.Blocks.{first}
use Rattle.blocks.proofs.first_value.Goals as goal

pub returns : goal.returns
unfolding first
returns c = let e = c.unwrap_or.ensures ∙ ap (λ o. unwrap_or o (pos 0)) (c.copied.ensures ∙ c.first.ensures.value) ∙ unwrap_or-slice_get c.args.values.now 0 (pos 0) in to_z-of_z {w = w32} (record { sfits = c.unwrap_or.type_inv }) ∙ e
