-- `arithmetic::is_weight` meets its contract.
use mathlib.Core.Path.{◌∙◌, ap}
use lib.IntN.{pos, neg_ℤ}
use mir.Facts.{to_z-of_z}
use Rattle.numbers.specs.Ranges.{is_weight, within}
use Rattle.numbers.proofs.arithmetic.is_weight.Goals as goal

pub returns : goal.returns
unfolding is_weight
returns c = c.is_within.ensures ∙ ap (within (neg_ℤ (pos 16777215)) (pos 16777215)) (to_z-of_z c.ranges.number)
