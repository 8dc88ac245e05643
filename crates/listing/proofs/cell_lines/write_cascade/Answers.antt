-- `cell_lines::write_cascade` meets its contract. The loop's invariant: the lines of the cells so far are written.
use Rattle.std.proofs.Common.{ℕ, ◌+◌, ◌≤◌, ◌≡◌, ◌∙◌, ap, List, [], ◌∷◌, ◌++◌, length, pos, arith, length-append, take_all}
use mathlib.Core.List.{flat_map}
use Rattle.cascade.specs.Plan.{no_cell}
use Rattle.cascade.specs.declared.Cell.{Cell}
use Rattle.lines.specs.Text.{ascii, line}
use Rattle.lines.proofs.Laws.Pieces.{no_pieces, pieces_kept, piece_room, piece_written, all_pieces}
use Rattle.lines.proofs.Laws.Writing.{writes_behind}
use Rattle.listing.specs.Inner.CellLines.{plan_line, plan_lines, cascade_text}
use Rattle.listing.proofs.cell_lines.write_cascade.Goals as goal

-- The text of cells: a line of each and the last line.
whole : (cells : List Cell) (bits : ℕ) → cascade_text cells (length cells) bits ≡ flat_map plan_line cells ++ line "bits" (pos bits ∷ [])
unfolding cascade_text plan_lines
whole cells bits = ap (λ row. flat_map plan_line row ++ line "bits" (pos bits ∷ [])) (take_all (length cells) cells (omega arith))

-- How long it is.
parts : (cells : List Cell) (bits : ℕ) → length (cascade_text cells (length cells) bits) ≡ length (flat_map plan_line cells) + length (line "bits" (pos bits ∷ []))
parts cells bits = ap length (whole cells bits) ∙ length-append (flat_map plan_line cells) (line "bits" (pos bits ∷ []))

-- The lines of the cells have room.
room : (cells : List Cell) (bits at : ℕ) (text : List ℕ) → at + length (cascade_text cells (length cells) bits) ≤ length text → at + length (flat_map plan_line cells) ≤ length text
room cells bits at text p = let w = parts cells bits in omega arith

pub loop-cell-init : goal.loop-cell-init
loop-cell-init c = let a = c.args in no_pieces plan_line a.cells.now a.text.now a.at

pub write_cell-next-requires : goal.write_cell-next-requires
unfolding no_cell
write_cell-next-requires c =
    let a = c.args in
    let l = c.loop-cell in
    let t = c.loop-cell-test.true in
    let r = room a.cells.now a.bits a.at a.text.now c.requires.bits_in_bounds in
    let k = pieces_kept plan_line a.cells.now a.text.now a.at l.invariant r in
    let next = piece_room plan_line a.cells.now a.text.now a.at l.invariant r no_cell t in
    record { cell_small = c.requires.bits_bound.1.small l.cell-index t; cell_in_bounds = omega arith }

pub loop-cell-preserved : goal.loop-cell-preserved
unfolding no_cell
loop-cell-preserved c =
    let a = c.args in
    piece_written plan_line a.cells.now a.text.now a.at c.loop-cell.invariant (room a.cells.now a.bits a.at a.text.now c.requires.bits_in_bounds) no_cell c.loop-cell-test.true c.write_cell-next.ensures

pub write_count-requires : goal.write_count-requires
unfolding line ascii
write_count-requires c =
    let a = c.args in
    let l = c.loop-cell in
    let r = room a.cells.now a.bits a.at a.text.now c.requires.bits_in_bounds in
    let k = pieces_kept plan_line a.cells.now a.text.now a.at l.invariant r in
    let b = (all_pieces plan_line a.cells.now a.text.now a.at l.invariant r c.loop-cell-test.false).behind in
    let p = c.requires.bits_in_bounds in
    let w = parts a.cells.now a.bits in
    record { count_bound = c.requires.bits_bound.0; count_in_bounds = omega arith }

pub returns : goal.returns
unfolding line ascii
returns c =
    let a = c.args in
    let l = c.loop-cell in
    let r = room a.cells.now a.bits a.at a.text.now c.requires.bits_in_bounds in
    rw (whole a.cells.now a.bits) (writes_behind (all_pieces plan_line a.cells.now a.text.now a.at l.invariant r c.loop-cell-test.false) r c.write_count.ensures)
