-- `cell_lines::write_cell` meets its contract: the cell's numbers are written as they are.
use Rattle.std.proofs.Common.{w32}
use Rattle.std.proofs.lemmas.Int.{to_z_pos}
use Rattle.lines.specs.Text.{ascii, line}
use Rattle.listing.specs.Inner.CellLines.{plan_line}
use Rattle.listing.proofs.cell_lines.write_cell.Goals as goal

pub write_line-requires : goal.write_line-requires
unfolding plan_line line ascii
write_line-requires c =
    let cell = c.args.cell in
    let small = c.requires.cell_small in
    let p = c.requires.cell_in_bounds in
    rw (to_z_pos w32 _ small.group, to_z_pos w32 _ small.incoming, to_z_pos w32 _ small.outgoing, to_z_pos w32 _ small.width, to_z_pos w32 _ small.bits) p

pub returns : goal.returns
unfolding plan_line line ascii
returns c =
    let cell = c.args.cell in
    let small = c.requires.cell_small in
    rw (to_z_pos w32 _ small.group, to_z_pos w32 _ small.incoming, to_z_pos w32 _ small.outgoing, to_z_pos w32 _ small.width, to_z_pos w32 _ small.bits) at c.write_line.ensures
