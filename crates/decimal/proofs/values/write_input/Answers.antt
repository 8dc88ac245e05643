-- `values::write_input` meets its contract: two bytes, and behind them the values'. The loop's invariant: the values so far are
-- written.
use Rattle.std.proofs.Common.{◌≡◌, ◌+◌, ◌≤◌, arith, rules, length, List, ℕ, get_or, pos, w32, to_z, of_z, length-set}
use Rattle.std.specs.Prelude.{set}
use mathlib.Core.List.{flat_map}
use Rattle.operands.specs.Bytes.{signed_bytes}
use Rattle.lines.proofs.Laws.Pieces.{no_pieces, piece_written, all_pieces}
use Rattle.decimal.specs.Table.{Table}
use Rattle.decimal.proofs.Laws.Buffers.{values_length, value_written, input_length_lem, input_written}
use Rattle.decimal.proofs.values.write_input.Goals as goal
use Rattle.decimal.proofs.values.write_input.Goals.{At-loop-j}

-- The buffer with the first two bytes, and room for the values as pieces.
module _ (c : At-loop-j) where
  abbrev row : List ℕ
  row = set (set c.args.input.now 0 c.args.n) 1 c.args.limit

  room : 2 + length (flat_map signed_bytes c.args.values.now) ≤ length row
  room =
      let p = c.requires.room in
      let same : length row ≡ length c.args.input.now = simp length-set in
      rw (values_length c.args.values.now) (omega arith)

pub loop-j-init : goal.loop-j-init
loop-j-init c = let a = c.args in no_pieces signed_bytes a.values.now (set (set a.input.now 0 a.n) 1 a.limit) 2

pub loop-j-preserved : goal.loop-j-preserved
loop-j-preserved c =
    let l = (goal.at.loop-j-preserved c).At-loop-j in
    let values = c.args.values.now in
    let value = get_or values c.loop-j.j (pos 0) in
    let back : to_z w32 (of_z w32 value) ≡ value = search rules in
    piece_written signed_bytes values (row l) 2 c.loop-j.invariant (room l) (pos 0) c.loop-j-test.true
    (value_written c.loop-j.input c.write_signed.new.buffer c.loop-j.j value (rw back at c.write_signed.ensures))

pub returns : goal.returns
returns c =
    let l = (goal.at.returns c).At-loop-j in
    let a = c.args in
    let p = c.requires.room in
    let table : Table = record { n = a.n; limit = a.limit; values = a.values.now } in record {
      behind = (let size = input_length_lem table in omega arith);
      written = input_written a.input.now table (omega arith) (all_pieces signed_bytes a.values.now (row l) 2 c.loop-j.invariant (room l) c.loop-j-test.false).written;
    }
