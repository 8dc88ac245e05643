-- Planned cells: those of a grouping of a table, as Plan's arrays hold them.
use Rattle.std.specs.Prelude.{ℕ, ◌≡◌, true, List, map, length, take, ℤ}
use Rattle.numbers.specs.Answers.{accepted}
use Rattle.numbers.specs.Lists.{padded}
use Rattle.numbers.specs.Ranges.{most_variables}
use Rattle.cascade.specs.Groupings.{cost, is_grouping}
use Rattle.cascade.specs.Plan.{plan, plan_cells, no_cell}
use Rattle.cascade.specs.declared.Cell.{Cell}

-- The sizes of the first so many planned cells.
unfoldable pub groups : List Cell → ℕ → List ℕ
groups cells count = map (λ cell. cell.group) (take count cells)

-- Plan's cells for a grouping of a table: their number and their bits.
pub record PlannedAs (n : ℕ) (table : List ℤ) (sizes : List ℕ) (cells : List Cell) (count bits : ℕ) : Type 0 where
  pub grouping : is_grouping n sizes ≡ true
  pub listed : cells ≡ padded most_variables no_cell (plan_cells n table 0 sizes)
  pub counted : count ≡ length sizes
  pub total : bits ≡ cost n table sizes

-- A plan with a grouping: its sizes, and its cells.
pub record Chosen (n : ℕ) (table : List ℤ) (limit : ℕ) (cells : List Cell) (count bits : ℕ) : Type 0 where
  pub sizes : List ℕ
  pub chosen : plan n table limit ≡ accepted sizes
  pub planned : PlannedAs n table sizes cells count bits
