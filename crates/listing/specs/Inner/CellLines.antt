-- The lines of a cascade, from what Plan's arrays hold.
use Rattle.std.specs.Prelude.{ℕ, ◌^◌, ◌≤◌, ◌<◌, length, get_or, take, pos, List, [], ◌∷◌, ◌++◌}
use mathlib.Core.List.{flat_map}
use Rattle.cascade.specs.Plan.{no_cell}
use Rattle.cascade.specs.declared.Cell.{Cell as PlanCell}
use Rattle.lines.specs.Text.{line}

-- The line of a cell that Plan answers.
unfoldable pub plan_line : PlanCell → List ℕ
plan_line cell = line "cell" (pos cell.group ∷ pos cell.incoming ∷ pos cell.outgoing ∷ pos cell.width ∷ pos cell.bits ∷ [])

-- The lines of the first so many cells.
unfoldable pub plan_lines : List PlanCell → ℕ → List ℕ
plan_lines cells count = flat_map plan_line (take count cells)

-- The numbers of a cell can be written.
pub record CellSmall (cell : PlanCell) : Type 0 where
  pub group : cell.group < 2 ^ 31
  pub incoming : cell.incoming < 2 ^ 31
  pub outgoing : cell.outgoing < 2 ^ 31
  pub width : cell.width < 2 ^ 31
  pub bits : cell.bits < 2 ^ 31

-- The numbers of the first so many cells can be written.
pub record CellsSmall (cells : List PlanCell) (count : ℕ) : Type 0 where
  pub few : count ≤ 12
  pub inside : count ≤ length cells
  pub small : (k : ℕ) → k < count → CellSmall (get_or cells k no_cell)

-- The cell lines and the total bits.
unfoldable pub cascade_text : List PlanCell → ℕ → ℕ → List ℕ
cascade_text cells count bits = plan_lines cells count ++ line "bits" (pos bits ∷ [])
