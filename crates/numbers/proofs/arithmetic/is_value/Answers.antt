-- `arithmetic::is_value` meets its contract.
use mathlib.Core.Path.{◌∙◌, ap}
use lib.IntN.{pos, neg_ℤ}
use mir.Facts.{to_z-of_z}
use Rattle.numbers.specs.Ranges.{is_value, within}
use Rattle.numbers.proofs.arithmetic.is_value.Goals as goal

pub returns : goal.returns
unfolding is_value
returns c = c.is_within.ensures ∙ ap (within (neg_ℤ (pos 8388608)) (pos 8388607)) (to_z-of_z c.ranges.number)
