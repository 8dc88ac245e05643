-- The rows of a table of two variables.
use Rattle.std.specs.Prelude.{ℕ, ◌-◌, ◌*◌, ◌^◌, ◌<◌, ◌≡◌, length, get_or, ℤ, pos}
use Rattle.std.proofs.Common.{sym, ◌∙◌, ap, arith}
use mathlib.Core.List.{List, flatten}
use Rattle.blocks.specs.Blocks.{block, blocks}
use Rattle.blocks.proofs.Laws.Blocks.{blocks_count, block_at, blocks_append}
use Rattle.pairs.specs.PairTables.{entry_at}
use Rattle.pairs.proofs.Laws.Indices.{index_place}

-- Row X is the table's block X of height m, and the entry in column Y is value Y of the row.
pub entry_of_row : (m : ℕ) (table : List ℤ) (x y : ℕ) → y < 2 ^ m → entry_at m table x y ≡ get_or (block table m x) y (pos 0)
unfolding entry_at
entry_of_row m table x y h = ap (λ z. get_or table z (pos 0)) (index_place m x y) ∙ sym (block_at table m x y h)

-- A table over n = 2m variables has 2^m rows, and is these one behind another.
pub rows_count : (m : ℕ) (table : List ℤ) → length (blocks (2 * m) table m) ≡ 2 ^ m
rows_count m table = blocks_count (2 * m) table m ∙ ap (λ k. 2 ^ k) (let e : 2 * m - m ≡ m = omega arith in e)

pub rows_in_order : (m : ℕ) (table : List ℤ) → length table ≡ 2 ^ (2 * m) → flatten (blocks (2 * m) table m) ≡ table
rows_in_order m table size = blocks_append (2 * m) table m (omega arith) size
