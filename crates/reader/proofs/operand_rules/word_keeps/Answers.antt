-- `operand_rules::word_keeps` meets its contract.
use Rattle.std.proofs.Common.{◌<◌, arith, pos, pow_pos, w32}
use Rattle.std.proofs.lemmas.Int.{to_z-of_z}
use Rattle.std.proofs.lemmas.Bool.Decides.{nat_tests}
use Rattle.numbers.specs.Ranges.{most_variables}
use Rattle.numbers.proofs.Laws.Machine.{bits_equal}
use Rattle.numbers.proofs.Laws.Pieces.{shifted_one}
use Rattle.image.specs.Inner.Bounds.{WithinBounds}
use Rattle.image.specs.Reader.{keeps_rules}
use Rattle.image.specs.declared.Place.{Place}
use Rattle.reader.proofs.operand_rules.word_keeps.Goals as goal

-- A group is narrower than a machine word.
narrow : (p : Place) → WithinBounds p → p.group < 64
unfolding most_variables
narrow p b = let h = b.group in omega arith

pub overflow_shl-place : goal.overflow_shl-place
overflow_shl-place c = narrow c.args.place c.requires

pub nonzero_rem-place : goal.nonzero_rem-place
nonzero_rem-place c = rw (shifted_one c.args.place.group (narrow c.args.place c.requires)) (pow_pos c.args.place.group)

pub returns-then-place-ne0 : goal.returns-then-place-ne0
unfolding keeps_rules
returns-then-place-ne0 c =
    let size = shifted_one c.args.place.group (narrow c.args.place c.requires) in
    grind (arith, nat_tests, to_z-of_z)

pub returns-else-place-ne0 : goal.returns-else-place-ne0
unfolding keeps_rules
returns-else-place-ne0 c =
    let size = shifted_one c.args.place.group (narrow c.args.place c.requires) in
    let zero = bits_equal w32 c.args.weight (pos 0) c.ranges.weight (record { sfits = omega arith }) in
    grind (arith, nat_tests, to_z-of_z)

pub returns-else-is_weight : goal.returns-else-is_weight
unfolding keeps_rules
returns-else-is_weight c = grind (arith, nat_tests, to_z-of_z)
