-- What the classing of a cut is lent and leaves.
use Rattle.std.specs.Prelude.{ℕ, ◌≡◌, List, length, ℤ}
use Rattle.blocks.specs.Classes.{distinct}
use Rattle.blocks.specs.Rows.{numbers_of, firsts_of, use_row}
use Rattle.blocks.specs.Tries.{tries_of}
use Rattle.blocks.specs.Uses.{uses_of}
use Rattle.classes.specs.Inner.Finding.{Cut, cut_lists}
use Rattle.classes.specs.Inner.Noting.{CutRows, RowsAlike}

-- A cut of a table, and rows of one place for each of its blocks.
pub record CutRoom (table : List ℤ) (size : ℕ) (rows : CutRows) : Type 0 where
  pub cut : Cut table size (length rows.class_row)
  pub alike : RowsAlike rows

-- What the classing of a cut with so many blocks leaves: the count, the blocks' classes, the classes' first blocks, the numbers tried,
-- the uses so far, and the use counts.
pub record CutClassed (table : List ℤ) (size count : ℕ) (rows : CutRows) : Type 0 where
  pub counted : rows.known ≡ length (distinct (cut_lists table size count))
  pub numbered : rows.class_row ≡ numbers_of (cut_lists table size count)
  pub placed : rows.first_row ≡ firsts_of count (cut_lists table size count)
  pub tried : rows.tried_row ≡ tries_of (cut_lists table size count)
  pub used : rows.uses_row ≡ uses_of (numbers_of (cut_lists table size count))
  pub use_counted : rows.use_count_row ≡ use_row (numbers_of (cut_lists table size count))
