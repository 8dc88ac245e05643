-- `arithmetic::lesser_of` meets its contract.
use Rattle.std.proofs.Common.{◌∙◌}
use mir.Syntax.{w32}
use mir.Facts.{to_z-of_z}
use borrow.Author.Rules.{sfits_of}
use Rattle.numbers.proofs.Laws.Comparing.{min_lesser}
use Rattle.numbers.proofs.arithmetic.lesser_of.Goals as goal

pub returns : goal.returns
returns c =
    let f = c.ranges in
    to_z-of_z {w = w32} (sfits_of c.min.type_inv) ∙ c.min.ensures.value ∙ rw (to_z-of_z f.a, to_z-of_z f.b) (min_lesser c.args.a c.args.b)
