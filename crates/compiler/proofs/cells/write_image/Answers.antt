-- `cells::write_image` meets its contract: the table command, the cells and the last command, one behind the other.
use Rattle.std.specs.Prelude.{◌+◌, ◌≤◌, ◌≡◌, length}
use Rattle.std.proofs.Common.{◌∙◌, arith, of_z, to_z, to_z-of_z}
use Rattle.std.specs.Int.{w32}
use borrow.Author.Rules.{sfits_of}
use Rattle.blocks.specs.Blocks.{first}
use Rattle.cascade.proofs.Laws.Cells.{variables_most}
use Rattle.compiler.specs.Inner.Writing.{cells_bytes, cell_groups}
use Rattle.compiler.proofs.Laws.Images.{image_bytes, image_written}
use Rattle.compiler.proofs.cells.write_image.Goals as goal
use Rattle.compiler.proofs.cells.write_image.Goals.{Start}

-- The three pieces have room.
room : (s : Start) → 6 + length (cells_bytes s.args.cuts.now.n s.args.cuts.now.table.now (cell_groups s.args.cells.now)) + 5 ≤ length s.args.image.now
room s = let l = image_bytes s.args.cuts.now.n s.args.cuts.now.table.now (cell_groups s.args.cells.now) in let r = s.requires.image_in_bounds in omega arith

pub write_table-requires : goal.write_table-requires
write_table-requires c =
    let s = (goal.at.write_table-requires c).Start in
    let r = room s in
    let m = variables_most s.args.cuts.now.n s.args.cuts.now.table.now s.args.cuts.now.admitted in
    (omega arith, omega arith)

pub write_cells-at-requires-clause-cells_in_bounds : goal.write_cells-at-requires-clause-cells_in_bounds
write_cells-at-requires-clause-cells_in_bounds c =
    let r = room (goal.at.write_cells-at-requires-clause-cells_in_bounds c).Start in
    let k = c.write_table.auto.buffer in
    omega arith

pub write_end-requires : goal.write_end-requires
write_end-requires c =
    let r = room (goal.at.write_end-requires c).Start in
    let at = c.write_cells-at.ensures.0 in
    let opened = c.write_table.auto.buffer in
    let filled = c.write_cells-at.auto.image in
    omega arith

pub returns : goal.returns
returns c =
    let k = c.args.cuts.now in
    let v = c.first_value in
    let offset : to_z w32 (of_z w32 v.result) ≡ first k.table.now = to_z-of_z {w = w32} (sfits_of v.type_inv) ∙ v.ensures in
    let cells = c.write_cells-at.ensures in
    image_written k.n k.table.now (cell_groups c.args.cells.now) c.args.image.now c.requires.image_in_bounds cells.0 c.requires.planned.total (rw offset at c.write_table.ensures) cells.1 c.write_end.ensures
