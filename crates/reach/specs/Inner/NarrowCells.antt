-- The cells of one variable by a row of class counts.
use Rattle.std.specs.Prelude.{ℕ, ◌+◌, ◌≤◌, ◌<◌, List, length, get_or}
use Rattle.numbers.specs.Widths.{rail_width}

-- The address width of the cell of one variable from cut h, by a row of class counts.
unfoldable pub narrowest_in : List ℕ → ℕ → ℕ
narrowest_in count_row h = rail_width (get_or count_row h 0) + 1

-- The counts of the cuts of n variables, but that of the bottom cut, stand in the row.
pub record CountsReady (n : ℕ) (count_row : List ℕ) : Type 0 where
  pub variables : n ≤ 12
  pub places : n ≤ length count_row
  pub few : (h : ℕ) → h < n → get_or count_row h 0 ≤ 4096
