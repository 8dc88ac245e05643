-- `cells::write_cell` meets its contract: the command, and the words behind it.
use Rattle.std.specs.Prelude.{◌+◌, ◌*◌, ◌^◌, ◌≤◌, length}
use Rattle.std.proofs.Common.{arith}
use Rattle.compiler.proofs.Laws.Cells.{planned_length_lem, cell_written}
use Rattle.compiler.proofs.Laws.Words.{group_most, width_most}
use Rattle.compiler.proofs.cells.write_cell.Goals as goal
use Rattle.compiler.proofs.cells.write_cell.Goals.{Start}

-- The cell has room.
room : (s : Start) → 7 + 7 * (s.args.cell.now.incoming * 2 ^ s.args.cell.now.group) ≤ length s.args.tail.now
room s = let l = planned_length_lem s.requires.cell_planned in let r = s.requires.group_in_bounds in omega arith

pub write_head-requires : goal.write_head-requires
write_head-requires c =
    let s = (goal.at.write_head-requires c).Start in
    let g = group_most s.requires.cell_planned s.args.cuts.now.admitted in
    let w = width_most s.requires.cell_planned s.args.cuts.now.admitted in
    let r = room s in
    (omega arith, (omega arith, omega arith))

pub write_words-requires-clause-group_in_bounds : goal.write_words-requires-clause-group_in_bounds
write_words-requires-clause-group_in_bounds c = let r = room (goal.at.write_words-requires-clause-group_in_bounds c).Start in let k = c.write_head.auto.buffer in omega arith

pub returns : goal.returns
returns c =
    let s = (goal.at.returns c).Start in
    cell_written s.requires.cell_planned s.args.tail.now (let r = room s in omega arith) c.write_head.ensures c.write_words.ensures
