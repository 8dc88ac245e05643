-- The input's bytes in a buffer.
use Rattle.std.specs.Prelude.{ℕ, ◌+◌, ◌*◌, ◌≤◌, ◌≡◌, length, set, take, drop, ℤ}
use Rattle.std.proofs.Common.{◌∙◌, ap, arith, take_at}
use mathlib.Core.List.{List, [], ◌∷◌, flat_map}
use Rattle.numbers.specs.Lists.{overwritten}
use Rattle.numbers.proofs.Laws.Rows.{overwritten_front}
use Rattle.numbers.proofs.Laws.Selections.{length_flat_map}
use Rattle.numbers.proofs.Laws.Written.{one_stored, stored_behind, written_behind}
use Rattle.operands.specs.Bytes.{signed_bytes}
use Rattle.operands.proofs.Laws.Bytes.{length_big_endian}
use Rattle.lines.specs.Inner.Writing.{Writes}
use Rattle.decimal.specs.Table.{Table, input_of}

-- Four bytes a value.
signed_length : (z : ℤ) → length (signed_bytes z) ≡ 4
unfolding signed_bytes
signed_length z = length_big_endian 4 _

pub values_length : (values : List ℤ) → length (flat_map signed_bytes values) ≡ 4 * length values
values_length values = length_flat_map signed_bytes 4 signed_length values

pub input_length_lem : (table : Table) → length (input_of table) ≡ 2 + 4 * length table.values
unfolding input_of
input_length_lem table = let l = values_length table.values in omega arith

-- A value's bytes, written at the place of the next value.
pub value_written : (row row' : List ℕ) (j : ℕ) (z : ℤ) → row' ≡ overwritten row (2 + 4 * j) (signed_bytes z) → Writes row (2 + 4 * j) (signed_bytes z) (2 + 4 * (j + 1)) row'
value_written row row' j z e = record { behind = (let l = signed_length z in omega arith); written = e }

-- n, the limit, and behind them the values' bytes: all of them are the input.
pub input_written : (row : List ℕ) {row' : List ℕ} (table : Table) → 2 ≤ length row → row' ≡ overwritten (set (set row 0 table.n) 1 table.limit) 2 (flat_map signed_bytes table.values) → row' ≡ overwritten row 0 (input_of table)
unfolding input_of
input_written row table room e =
    written_behind row 0 (table.n ∷ table.limit ∷ [])
    (stored_behind row 0 (table.n ∷ []) (one_stored row 0 table.n (omega arith)) 1 table.limit (omega arith) (omega arith))
    2 (flat_map signed_bytes table.values) e (omega arith) room

-- A row's new front, taken out again.
pub front_taken : (row : List ℤ) {row' : List ℤ} (new : List ℤ) (count : ℕ) → row' ≡ overwritten row 0 new → length new ≡ count → take count row' ≡ new
front_taken row new count e l = ap (take count) (e ∙ overwritten_front row new) ∙ take_at new (drop (length new) row) count l
