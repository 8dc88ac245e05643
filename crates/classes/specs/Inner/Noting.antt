-- The rows of a cut, and what is noted in them when a block is classed.
use Rattle.std.specs.Prelude.{ℕ, zero, suc, ◌+◌, ◌≡◌, cond, List, length, get_or, set, eqb}
use Rattle.classes.specs.declared.search.Found.{Found}

-- The latest class at block j, that of the block just before; 0 at the first block, where no class is known.
unfoldable pub latest_class : List ℕ → ℕ → ℕ
latest_class class_row zero = 0
latest_class class_row (suc before) = get_or class_row before 0

-- The known classes after a block of this class, which is new where it is their count.
unfoldable pub count_noted : ℕ → ℕ → ℕ
count_noted count class = cond (eqb class count) (count + 1) count

-- The row of first blocks with a place for block j, and j behind the others where its class is new.
unfoldable pub firsts_noted : List ℕ → ℕ → ℕ → ℕ → List ℕ
firsts_noted first_row count j class = cond (eqb class count) (set (set first_row j 0) count j) (set first_row j 0)

-- The row of use counts with a place for block j, and its class's uses in it.
unfoldable pub uses_noted : List ℕ → ℕ → ℕ → ℕ → List ℕ
uses_noted use_count_row j class uses = set (set use_count_row j 0) class uses

-- The rows of a cut on the way: how many classes are known, each block's class, each class's first block, how many classes were tried
-- for each block, how many blocks up to and including it have its class, and how many have each class so far.
pub record CutRows : Type 0 where
  pub known : ℕ
  pub class_row : List ℕ
  pub first_row : List ℕ
  pub tried_row : List ℕ
  pub uses_row : List ℕ
  pub use_count_row : List ℕ

abbrev pub cut_rows : ℕ → List ℕ → List ℕ → List ℕ → List ℕ → List ℕ → CutRows
cut_rows count class_row first_row tried_row uses_row use_count_row =
    record { known = count; class_row = class_row; first_row = first_row; tried_row = tried_row; uses_row = uses_row; use_count_row = use_count_row }

-- The rows with what was found for block j noted in them.
unfoldable pub found_noted : ℕ → Found → CutRows → CutRows
found_noted j found rows = record {
  known = count_noted rows.known found.class;
  class_row = set rows.class_row j found.class;
  first_row = firsts_noted rows.first_row rows.known j found.class;
  tried_row = set rows.tried_row j found.tried;
  uses_row = set rows.uses_row j found.uses;
  use_count_row = uses_noted rows.use_count_row j found.class found.uses;
}

-- All rows have as many places as that of the classes.
pub record RowsAlike (rows : CutRows) : Type 0 where
  pub firsts_alike : length rows.first_row ≡ length rows.class_row
  pub tried_alike : length rows.tried_row ≡ length rows.class_row
  pub uses_alike : length rows.uses_row ≡ length rows.class_row
  pub use_counts_alike : length rows.use_count_row ≡ length rows.class_row
