-- Tables of two variables: their rows and entries, and what the pair run gives on their compiled images.
use Rattle.std.specs.Prelude.{ℕ, ◌*◌, ◌^◌, ◌≤◌, ◌<◌, ◌≡◌, true, length, get_or, ℤ, pos}
use mathlib.Core.List.{List, flatten}
use Rattle.numbers.specs.Answers.{accepted}
use Rattle.numbers.specs.Conditions.{Limit}
use Rattle.blocks.specs.Blocks.{block, blocks}
use Rattle.diagram.specs.Accepted.{Accepted}
use Rattle.cascade.specs.Compile.{image_for, ImageSummary, compile_answer, compile_buffer, compiled_image}
use Rattle.cascade.specs.Groupings.{BestGrouping, is_grouping, fits}
use Rattle.pairs.specs.Pairs.{pair_run}
use Rattle.pairs.specs.Conditions.{PairBits}
use Rattle.pairs.specs.PairTables.{entry_at, Symmetric, GivesEntries, CompilesPairs}
use Rattle.pairs.proofs.Laws.Compiled as proved
use Rattle.pairs.proofs.Laws.Rows as rows

-- ---- rows and columns

-- Row X is the table's block X of height m, and the entry in column Y is value Y of the row.
pub entry_of_row : (m : ℕ) (table : List ℤ) (x y : ℕ) → y < 2 ^ m
    → entry_at m table x y ≡ get_or (block table m x) y (pos 0)
entry_of_row = rows.entry_of_row

-- A table over n = 2m variables has 2^m rows, and is these one behind another.
pub rows_count : (m : ℕ) (table : List ℤ) → length (blocks (2 * m) table m) ≡ 2 ^ m
rows_count = rows.rows_count

pub rows_in_order : (m : ℕ) (table : List ℤ) → length table ≡ 2 ^ (2 * m) → flatten (blocks (2 * m) table m) ≡ table
rows_in_order = rows.rows_in_order

-- ---- compiled

module _ (m : ℕ) (table : List ℤ) (limit : ℕ) (buffer : List ℕ) (r : ImageSummary)
    (compiled : compile_answer (2 * m) table limit (length buffer) ≡ accepted r) where
  -- The compiled image.
  abbrev image : List ℕ
  image = compiled_image r (compile_buffer (2 * m) table limit buffer)

  -- A table that was compiled with n = 2m has m from 1 to 6.
  pub compiled_m : PairBits m
  compiled_m = proved.compiled_bits_of_pair m table limit buffer r compiled

  -- Every pair gives the entry in row X, column Y, with as many words read as Compile answered cells.
  pub compiled_pair : GivesEntries m table image r.planned.cells
  compiled_pair = proved.compiled_entry m table limit buffer r compiled

  -- In a symmetric table exchanging X and Y changes nothing: neither value nor words, and no refusal.
  pub exchange_changes_nothing : Symmetric m table → (x y : ℕ) → pair_run m image x y ≡ pair_run m image y x
  exchange_changes_nothing = proved.compiled_exchanged m table limit buffer r compiled

-- For every accepted table with n = 2m and every limit that some grouping fits: Compile gives an image into every buffer that is no
-- shorter, and on it every pair gives the entry in row X, column Y, with one word read for each group of the chosen grouping.
module _ (m : ℕ) (table : List ℤ) (admitted : Accepted (2 * m) table) (limit : ℕ) (inside : Limit limit) where
  pub every_pair : (sizes : List ℕ) → is_grouping (2 * m) sizes ≡ true → fits (2 * m) table limit sizes ≡ true
      → (best : List ℕ) × BestGrouping (2 * m) table limit best
      × ((buffer : List ℕ) → length (image_for (2 * m) table best) ≤ length buffer
      → CompilesPairs m table limit buffer (length best))
  every_pair = proved.every_pair m table admitted limit inside
