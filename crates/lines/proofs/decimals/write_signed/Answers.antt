-- `decimals::write_signed` meets its contract, by the sign.
use Rattle.std.specs.Prelude.{◌+◌, ◌≡◌, ◌∷◌, length, pos}
use Rattle.std.proofs.Common.{refl, ◌∙◌, ap, sym, arith}
use Rattle.std.proofs.Math.Facts.{to_z-of_z}
use Rattle.std.proofs.Math.ListN.{length-set}
use Rattle.std.specs.Int.Signed.{mag}
use Rattle.lines.specs.Text.{decimal}
use Rattle.lines.proofs.Laws.Writing.{byte_stored, writes_behind, negative_decimal, other_decimal}
use Rattle.lines.proofs.decimals.write_signed.Goals as goal
use Rattle.lines.proofs.decimals.write_signed.Goals.{Else-number-lt0, Then-number-lt0}

-- A negative number: a minus sign, and one more than its unsigned part.
module _ (c : Then-number-lt0) where
  negative : decimal c.args.number ≡ 45 ∷ decimal (pos (c.unsigned_part-part.result + 1))
  negative =
      let back = to_z-of_z c.ranges.number in
      negative_decimal c.args.number (rw back at c.if-number-lt0.true)
      ∙ ap (λ size. 45 ∷ decimal (pos (size + 1))) (sym (c.unsigned_part-part.ensures ∙ ap mag back))

-- Any other is its unsigned part.
module _ (c : Else-number-lt0) where
  other : decimal c.args.number ≡ decimal (pos c.unsigned_part-part.result)
  other =
      let back = to_z-of_z c.ranges.number in
      other_decimal c.args.number (rw back at c.if-number-lt0.false)
      ∙ ap (λ size. decimal (pos size)) (sym (c.unsigned_part-part.ensures ∙ ap mag back))

pub bounds-text-at : goal.bounds-text-at
bounds-text-at c = let e = ap length (negative c) in let p = c.requires in omega arith

pub write_number-requires : goal.write_number-requires
write_number-requires c = let e = ap length (negative (goal.at.write_number-requires c).Then-number-lt0) in let p = c.requires in let a = c.args in let s = length-set a.text.now a.at 45 in omega arith

pub returns-then-number-lt0 : goal.returns-then-number-lt0
returns-then-number-lt0 c =
    let t = (goal.at.returns-then-number-lt0 c).Then-number-lt0 in
    let a = c.args in
    let e = ap length (negative t) in
    let p = c.requires in
    rw (negative t) (writes_behind (byte_stored a.text.now a.at 45 refl (omega arith)) (omega arith) c.write_number.ensures)

pub returns : goal.returns
returns c = rw (other (goal.at.returns c).Else-number-lt0) c.write_number-2.ensures
