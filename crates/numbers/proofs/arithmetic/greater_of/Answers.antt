-- `arithmetic::greater_of` meets its contract.
use Rattle.std.proofs.Common.{◌∙◌}
use mir.Syntax.{w32}
use mir.Facts.{to_z-of_z}
use borrow.Author.Rules.{sfits_of}
use Rattle.numbers.proofs.Laws.Comparing.{max_greater}
use Rattle.numbers.proofs.arithmetic.greater_of.Goals as goal

pub returns : goal.returns
returns c =
    let f = c.ranges in
    to_z-of_z {w = w32} (sfits_of c.max.type_inv) ∙ c.max.ensures.value ∙ rw (to_z-of_z f.a, to_z-of_z f.b) (max_greater c.args.a c.args.b)
