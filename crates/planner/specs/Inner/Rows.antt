-- The rows that Plan works in, and its answer in a refusal.
use Rattle.std.specs.Prelude.{ℕ, ◌^◌, ◌≡◌, Bool, ◌&&◌, cond, List, [], length, eqb, ℤ, Err}
use Rattle.numbers.specs.Lists.{every, padded, overwritten}
use Rattle.numbers.specs.Ranges.{is_variables, is_value, is_limit, most_variables}
use Rattle.numbers.specs.declared.Refusal.{Refusal}
use Rattle.cascade.specs.Plan.{no_cell}
use Rattle.cascade.specs.declared.Planned.{Planned}
use Rattle.blocks.specs.Rows.{all_numbers, all_firsts, all_counts}

-- A refusal beside arrays of 0.
unfoldable pub refused_plan : Refusal → Planned
refused_plan refusal = record { verdict = Err refusal; sizes = padded most_variables 0 []; cells = padded most_variables no_cell [] }

-- Rows for the classes of all cuts that a table can have, and for the class count of each cut.
pub record RowsRoom (class_row first_row count_row : List ℕ) : Type 0 where
  pub class_places : length class_row ≡ 8191
  pub first_places : length first_row ≡ 8191
  pub count_places : length count_row ≡ 13

-- The classes of all cuts stand in front of the rows, behind them what was there.
pub record RowsFilled (n : ℕ) (table : List ℤ) (class_row first_row count_row class_row' first_row' count_row' : List ℕ) : Type 0 where
  pub numbered : class_row' ≡ overwritten class_row 0 (all_numbers n table)
  pub placed : first_row' ≡ overwritten first_row 0 (all_firsts n table)
  pub counted : count_row' ≡ overwritten count_row 0 (all_counts n table)

-- The classes are worked out where all checks before them pass.
unfoldable pub is_classed : ℕ → List ℤ → ℕ → Bool
is_classed n table limit = is_variables n && eqb (length table) (2 ^ n) && every is_value table && is_limit limit

-- What is left in the rows: there the classes of all cuts in front, elsewhere what they held.
pub record RowsLeft (n : ℕ) (table : List ℤ) (limit : ℕ) (class_row first_row count_row class_row' first_row' count_row' : List ℕ) : Type 0 where
  pub numbered : class_row' ≡ cond (is_classed n table limit) (overwritten class_row 0 (all_numbers n table)) class_row
  pub placed : first_row' ≡ cond (is_classed n table limit) (overwritten first_row 0 (all_firsts n table)) first_row
  pub counted : count_row' ≡ cond (is_classed n table limit) (overwritten count_row 0 (all_counts n table)) count_row
