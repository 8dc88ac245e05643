-- `fields::write_field` meets its contract.
use Rattle.std.proofs.Common.{refl, arith}
use Rattle.std.proofs.Math.Facts.{to_z-of_z}
use Rattle.std.proofs.Math.ListN.{length-set}
use Rattle.lines.specs.Inner.Writing.{field}
use Rattle.lines.proofs.Laws.Writing.{byte_stored, writes_behind}
use Rattle.lines.proofs.fields.write_field.Goals as goal

pub bounds-text-at : goal.bounds-text-at
unfolding field
bounds-text-at c = let p = c.requires in omega arith

pub write_signed-requires : goal.write_signed-requires
unfolding field
write_signed-requires c =
    let p = c.requires in
    let kept = length-set c.args.text.now c.args.at 32 in
    rw (to_z-of_z c.ranges.number) (omega arith)

pub returns : goal.returns
unfolding field
returns c =
    let a = c.args in
    let p = c.requires in
    writes_behind (byte_stored a.text.now a.at 32 refl (omega arith)) (omega arith) (rw (to_z-of_z c.ranges.number) at c.write_signed.ensures)
