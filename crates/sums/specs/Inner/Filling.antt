-- What is known where sums are written: that they fit the machine's numbers, and how far the table is.
use Rattle.std.specs.Prelude.{ℕ, ◌+◌, ◌*◌, ◌^◌, ◌≤◌, ◌<◌, ◌≡◌, true, List, length, get_or, take, ℤ, pos}
use Rattle.std.specs.Int.Signed.{mag}
use Rattle.numbers.specs.Ranges.{is_value}
use Rattle.sums.specs.Sums.{sum_table}

-- A table has room for its first part twice, and a weight may be added to each of its numbers there.
pub record MayDouble (table : List ℤ) (half : ℕ) (weight : ℤ) : Type 0 where
  pub room : half + half ≤ length table
  pub small : (x : ℕ) → x < half → mag (get_or table x (pos 0)) ≤ 11 * 8388608
  pub value : is_value weight ≡ true

-- The sums of the first weights stand in front of a table with room for all.
pub record SumsWritten (weights row : List ℤ) (j : ℕ) : Type 0 where
  pub size : length row ≡ 2 ^ length weights
  pub front : take (2 ^ j) row ≡ sum_table (take j weights)
