-- Parts of a table, and the rows of all cuts: what the functions are lent and leave.
use Rattle.std.specs.Prelude.{ℕ, suc, ◌-◌, ◌*◌, ◌^◌, ◌≤◌, ◌≡◌, List, [], map, length, get_or, take, drop, ℤ, pos, ◌-ℤ◌}
use Rattle.numbers.specs.Ranges.{most_variables}
use Rattle.blocks.specs.Blocks.{differences}
use Rattle.blocks.specs.Classes.{classes}
use Rattle.blocks.specs.Rows.{cut_place, all_numbers, all_firsts, all_counts}

-- Values less a constant.
unfoldable pub less : ℤ → List ℤ → List ℤ
less constant values = map (λ v. v -ℤ constant) values

-- The last difference of a block, 0 where it has no value.
unfoldable pub last_difference : List ℤ → ℤ
last_difference values = get_or (differences values) (length values - 1) (pos 0)

-- Part j of so many values.
unfoldable pub part : List ℤ → ℕ → ℕ → List ℤ
part table size j = take size (drop (j * size) table)

-- A table of 2^n values, n at most 12, and rows for the blocks of all cuts.
pub record CutsRoom (n : ℕ) (table : List ℤ) (class_row first_row : List ℕ) : Type 0 where
  pub variables : n ≤ most_variables
  pub whole : length table ≡ 2 ^ n
  pub class_places : length class_row ≡ cut_place (suc n)
  pub first_places : length first_row ≡ cut_place (suc n)

-- What the classing of all cuts leaves in the rows.
pub record AllClassed (n : ℕ) (table : List ℤ) (class_row first_row count_row : List ℕ) : Type 0 where
  pub numbered : class_row ≡ all_numbers n table
  pub placed : first_row ≡ all_firsts n table
  pub counted : count_row ≡ all_counts n table

-- The differences that class c of cut h stands for.
unfoldable pub class_at : ℕ → List ℤ → ℕ → ℕ → List ℤ
class_at n table h c = get_or (classes n table h) c []

-- So many numbers of cut h, from a row of all cuts.
unfoldable pub in_cut : List ℕ → ℕ → ℕ → List ℕ
in_cut row h count = take count (drop (cut_place h) row)
