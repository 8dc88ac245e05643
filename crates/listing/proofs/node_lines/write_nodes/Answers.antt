-- `node_lines::write_nodes` meets its contract. The loop's invariant: the lines of the records so far are written.
use Rattle.std.proofs.Common.{◌+◌, ◌≤◌, ◌<◌, ◌≡◌, ◌∙◌, ap, length, get_or, arith}
use Rattle.numbers.specs.Lists.{numbers_from}
use Rattle.numbers.proofs.Laws.Lists.{length_range, get_d_range}
use Rattle.listing.specs.Inner.NodeLines.{record_line, record_lines}
use Rattle.lines.proofs.Laws.Pieces.{no_pieces, pieces_kept, piece_room, piece_written, all_pieces}
use Rattle.listing.proofs.node_lines.write_nodes.Goals as goal
use Rattle.listing.proofs.node_lines.write_nodes.Goals.{In-loop-k}

pub loop-k-init : goal.loop-k-init
loop-k-init c = let a = c.args in no_pieces (record_line a.nodes.now) (numbers_from 1 a.count) a.text.now a.at

-- In a turn a record is left.
module _ (c : In-loop-k) where
  inside : c.loop-k.k < length (numbers_from 1 c.args.count)
  inside = let l = length_range 1 c.args.count in let t = c.loop-k-test.true in omega arith

  its_line : record_line c.args.nodes.now (get_or (numbers_from 1 c.args.count) c.loop-k.k 0) ≡ record_line c.args.nodes.now (c.loop-k.k + 1)
  its_line = ap (record_line c.args.nodes.now) (get_d_range 1 c.args.count c.loop-k.k 0 c.loop-k-test.true ∙ omega arith)

pub write_node-next-requires : goal.write_node-next-requires
unfolding record_lines
write_node-next-requires c =
    let i = (goal.at.write_node-next-requires c).In-loop-k in
    let a = c.args in
    let l = c.loop-k in
    let there = c.requires.records_there in
    let n = there.inside in
    let f = there.few in
    let t = c.loop-k-test.true in
    let p = c.requires.count_in_bounds in
    let k = pieces_kept (record_line a.nodes.now) (numbers_from 1 a.count) a.text.now a.at l.invariant p in
    let next : l.next + length (record_line a.nodes.now (l.k + 1)) ≤ length a.text.now = rw (its_line i) at (piece_room (record_line a.nodes.now) (numbers_from 1 a.count) a.text.now a.at l.invariant p 0 (inside i)) in
    record { recorded = (record { from_one = omega arith; among = omega arith }, omega arith); k_in_bounds = omega arith }

pub loop-k-preserved : goal.loop-k-preserved
unfolding record_lines
loop-k-preserved c =
    let i = (goal.at.loop-k-preserved c).In-loop-k in
    let a = c.args in
    piece_written (record_line a.nodes.now) (numbers_from 1 a.count) a.text.now a.at c.loop-k.invariant c.requires.count_in_bounds 0 (inside i) (rw (its_line i) c.write_node-next.ensures)

pub returns : goal.returns
unfolding record_lines
returns c =
    let a = c.args in
    let e = length_range 1 a.count in
    let t = c.loop-k-test.false in
    all_pieces (record_line a.nodes.now) (numbers_from 1 a.count) a.text.now a.at c.loop-k.invariant c.requires.count_in_bounds (omega arith)
