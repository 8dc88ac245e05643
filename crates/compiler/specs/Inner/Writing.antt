-- What is written into an image buffer: commands, cells, and the image of planned cells.
use Rattle.std.specs.Prelude.{ℕ, ◌≡◌, true, map, ℤ, List}
use mathlib.Core.List.{flat_map}
use Rattle.image.specs.Cells.{Cell}
use Rattle.image.specs.Commands.{command_bytes, cell_commands}
use Rattle.cascade.specs.Cascade.{cells_from}
use Rattle.cascade.specs.Groupings.{cost, is_grouping}
use Rattle.cascade.specs.Plan.{plan_cells}
use Rattle.cascade.specs.declared.Cell.{Cell as PlanCell}

-- The bytes of a cell: its command and its words.
unfoldable pub cell_bytes : Cell → List ℕ
cell_bytes cell = flat_map command_bytes (cell_commands cell)

-- The bytes of the cells of a list of sizes, from the top down.
unfoldable pub cells_bytes : ℕ → List ℤ → List ℕ → List ℕ
cells_bytes n table sizes = flat_map cell_bytes (cells_from n table 0 sizes)

-- The sizes of planned cells.
unfoldable pub cell_groups : List PlanCell → List ℕ
cell_groups cells = map (λ cell. cell.group) cells

-- The cells are those of a grouping of the table, with so many bits in all.
pub record CellsPlanned (n : ℕ) (table : List ℤ) (cells : List PlanCell) (bits : ℕ) : Type 0 where
  pub grouping : is_grouping n (cell_groups cells) ≡ true
  pub planned : cells ≡ plan_cells n table 0 (cell_groups cells)
  pub total : bits ≡ cost n table (cell_groups cells)
