-- `fields::write_fields` meets its contract. The loop's invariant: the fields so far are written.
use Rattle.std.specs.Prelude.{ℕ, ◌+◌, ◌≤◌, ◌≡◌, List, [], ◌∷◌, length, get_or, ℤ, pos}
use Rattle.std.proofs.Common.{rules, refl, ◌∙◌, ap, length-append, arith}
use Rattle.std.proofs.Math.Facts.{to_z-of_z}
use Rattle.std.specs.Int.{w32}
use mathlib.Core.List.{flat_map}
use Rattle.lines.specs.Text.{fields}
use Rattle.lines.specs.Inner.Writing.{field}
use Rattle.lines.proofs.Laws.Writing.{byte_stored, writes_behind}
use Rattle.lines.proofs.Laws.Pieces.{no_pieces, pieces_kept, piece_room, piece_written, all_pieces, field_pieces}
use Rattle.lines.proofs.fields.write_fields.Goals as goal

-- The fields and the newline.
whole : (numbers : List ℤ) → length (fields numbers) ≡ length (flat_map field numbers) + 1
whole numbers = ap length (field_pieces numbers) ∙ length-append (flat_map field numbers) (10 ∷ [])

-- The fields have room.
room : (numbers : List ℤ) (text : List ℕ) (at : ℕ) → at + length (fields numbers) ≤ length text → at + length (flat_map field numbers) ≤ length text
room numbers text at p = let w = whole numbers in omega arith

pub loop-number-init : goal.loop-number-init
loop-number-init c = let a = c.args in no_pieces field a.numbers.now a.text.now a.at

pub write_field-next-requires : goal.write_field-next-requires
write_field-next-requires c =
    let a = c.args in
    let t = c.loop-number-test.true in
    let i = c.loop-number.invariant in
    let r = room a.numbers.now a.text.now a.at c.requires in
    let k = pieces_kept field a.numbers.now a.text.now a.at i r in
    let next = piece_room field a.numbers.now a.text.now a.at i r (pos 0) t in
    rw (to_z-of_z {w = w32} {z = get_or a.numbers.now c.loop-number.number-index (pos 0)} (search rules)) (omega arith)

pub loop-number-preserved : goal.loop-number-preserved
loop-number-preserved c =
    let a = c.args in
    piece_written field a.numbers.now a.text.now a.at c.loop-number.invariant (room a.numbers.now a.text.now a.at c.requires) (pos 0) c.loop-number-test.true
    (rw (to_z-of_z {w = w32} {z = get_or a.numbers.now c.loop-number.number-index (pos 0)} (search rules)) at c.write_field-next.ensures)

pub bounds-text-next : goal.bounds-text-next
bounds-text-next c =
    let a = c.args in
    let r = room a.numbers.now a.text.now a.at c.requires in
    let e = (all_pieces field a.numbers.now a.text.now a.at c.loop-number.invariant r c.loop-number-test.false).behind in
    let k = pieces_kept field a.numbers.now a.text.now a.at c.loop-number.invariant r in
    let w = whole a.numbers.now in
    let p = c.requires in
    omega arith

pub overflow_add-result : goal.overflow_add-result
overflow_add-result c =
    let a = c.args in
    let e = (all_pieces field a.numbers.now a.text.now a.at c.loop-number.invariant (room a.numbers.now a.text.now a.at c.requires) c.loop-number-test.false).behind in
    let w = whole a.numbers.now in
    let p = c.requires in
    omega arith

pub returns : goal.returns
returns c =
    let a = c.args in
    let r = room a.numbers.now a.text.now a.at c.requires in
    let all = all_pieces field a.numbers.now a.text.now a.at c.loop-number.invariant r c.loop-number-test.false in
    let e = all.behind in
    let k = pieces_kept field a.numbers.now a.text.now a.at c.loop-number.invariant r in
    let w = whole a.numbers.now in
    let p = c.requires in
    rw (field_pieces a.numbers.now) (writes_behind all r (byte_stored c.loop-number.text c.loop-number.next 10 refl (omega arith)))
