-- What the search leaves of all cuts, in rows of one place for each block of each cut.
use Rattle.std.specs.Prelude.{ℕ, suc, ◌≡◌, List, length, ℤ}
use Rattle.blocks.specs.Rows.{cut_place, all_tries, all_uses, all_use_rows}

-- Rows for how many classes were tried for each block, how many blocks up to and including it have its class, and how many have each
-- class.
pub record SearchRoom (n : ℕ) (tried_row uses_row use_count_row : List ℕ) : Type 0 where
  pub tried_places : length tried_row ≡ cut_place (suc n)
  pub uses_places : length uses_row ≡ cut_place (suc n)
  pub use_count_places : length use_count_row ≡ cut_place (suc n)

-- What they hold when all cuts are classed.
pub record AllSearched (n : ℕ) (table : List ℤ) (tried_row uses_row use_count_row : List ℕ) : Type 0 where
  pub tried : tried_row ≡ all_tries n table
  pub used : uses_row ≡ all_uses n table
  pub use_counted : use_count_row ≡ all_use_rows n table
