-- `arithmetic::unsigned_part` meets its contract, by the weight's sign.
use mathlib.Core.Path.{◌≡◌, sym, ◌∙◌, ap, subst}
use lib.IntN.{pos, negsuc, nat_abs, ◌-ℤ◌}
use lib.Signed.{mag}
use mir.Syntax.{w32}
use mir.Val.{SFits, of_z, to_z}
use mir.Facts.{to_z-of_z}
use Rattle.numbers.proofs.Laws.Machine.{complement, not_negative, part_signed, part_back_signed, part_fits, cast_back}
use Rattle.numbers.proofs.arithmetic.unsigned_part.Goals as goal
use Rattle.numbers.proofs.arithmetic.unsigned_part.Goals.{Else-number-lt0, Then-number-lt0}

negative : (c : Then-number-lt0) → negsuc 0 -ℤ to_z w32 (of_z w32 c.args.number) ≡ pos (mag c.args.number)
negative c =
    let z = c.args.number in
    let back = to_z-of_z c.ranges.number in
    ap (λ y. negsuc 0 -ℤ y) back ∙ complement z (rw back at c.if-number-lt0.true)

negative_back : (c : Then-number-lt0) → to_z w32 (of_z w32 (negsuc 0 -ℤ to_z w32 (of_z w32 c.args.number))) ≡ pos (mag c.args.number)
negative_back c = ap (λ y. to_z w32 (of_z w32 y)) (negative c) ∙ part_back_signed w32 c.args.number c.ranges.number

positive_back : (c : Else-number-lt0) → to_z w32 (of_z w32 c.args.number) ≡ pos (mag c.args.number)
positive_back c = let back = to_z-of_z c.ranges.number in back ∙ not_negative c.args.number (rw back at c.if-number-lt0.false)

pub overflow_sub-result : goal.overflow_sub-result
overflow_sub-result c = subst (SFits w32) (sym (negative c)) (part_signed w32 c.args.number c.ranges.number)

pub overflow_cast-result : goal.overflow_cast-result
overflow_cast-result c = cast_back w32 _ (mag c.args.number) (negative_back c) (part_fits w32 c.args.number c.ranges.number)

pub overflow_cast-result-else-number-lt0 : goal.overflow_cast-result-else-number-lt0
overflow_cast-result-else-number-lt0 c = cast_back w32 _ (mag c.args.number) (positive_back c) (part_fits w32 c.args.number c.ranges.number)

pub returns-then-number-lt0 : goal.returns-then-number-lt0
returns-then-number-lt0 c = ap nat_abs (negative_back c)

pub returns-else-number-lt0 : goal.returns-else-number-lt0
returns-else-number-lt0 c = ap nat_abs (positive_back c)
