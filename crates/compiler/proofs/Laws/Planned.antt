-- Planned cells are small, can be written, and say how long their image is.
use Rattle.std.specs.Prelude.{ℕ, zero, suc, ◌+◌, ◌*◌, ◌<◌, ◌≡◌, refl, List, [], ◌∷◌, map, length, get_or, take, ℤ}
use Rattle.std.proofs.Common.{◌∙◌, ap₂, sym, ap, arith}
use Rattle.numbers.specs.Lists.{sum_of}
use Rattle.diagram.specs.Accepted.{Accepted}
use Rattle.cascade.specs.Cascade.{cell_of, cells_from}
use Rattle.cascade.specs.Compile.{image_for}
use Rattle.cascade.specs.Plan.{plan_cell, plan_cells, no_cell}
use Rattle.cascade.specs.Inner.Planned.{groups, PlannedAs}
use Rattle.cascade.specs.declared.Cell.{Cell}
use Rattle.cascade.proofs.Laws.Cells.{variables_most, cell_words}
use Rattle.cascade.proofs.Laws.Lengths.{image_length_lem}
use Rattle.cascade.proofs.Laws.Planned.{front}
use Rattle.planner.proofs.Laws.Pricing.{words_most}
use Rattle.compiler.specs.Inner.Writing.{cell_groups, CellsPlanned}
use Rattle.compiler.specs.Inner.Lengths.{planned_bytes, planned_length, SmallCell, SmallCells}
use Rattle.compiler.proofs.Laws.Cells.{count_most, next_planned}
use Rattle.compiler.proofs.Laws.Words.{small}

-- The bytes of a grouping's cells.
bytes_of : (n : ℕ) (table : List ℤ) (h : ℕ) (sizes : List ℕ) → sum_of (map planned_bytes (plan_cells n table h sizes)) ≡ sum_of (map (λ cell. 7 + 7 * length cell.words) (cells_from n table h sizes))
unfolding plan_cells cells_from sum_of planned_bytes plan_cell cell_of
bytes_of n table h [] = refl
bytes_of n table h (g ∷ sizes) = ap₂ (λ words rest. 7 + 7 * words + rest) (sym (cell_words n table h g)) (bytes_of n table (h + g) sizes)

-- Each of them is small.
small_from : (n : ℕ) (table : List ℤ) → Accepted n table → (h : ℕ) (sizes : List ℕ) → h + sum_of sizes ≡ n → (k : ℕ) → k < length sizes → SmallCell (get_or (plan_cells n table h sizes) k no_cell)
unfolding plan_cells sum_of plan_cell cell_of
small_from n table a h [] e k l = absurd (omega arith)
small_from n table a h (g ∷ sizes) e zero l = record {
  group = let m = variables_most n table a in omega arith;
  words = words_most a h g (omega arith);
}
small_from n table a h (g ∷ sizes) e (suc k) l = small_from n table a (h + g) sizes (omega arith) k (omega arith)

module _ {n : ℕ} {table : List ℤ} {sizes : List ℕ} {cells : List Cell} {count bits : ℕ} (a : Accepted n table) (p : PlannedAs n table sizes cells count bits) where
  pub length_is : planned_length (take count cells) ≡ length (image_for n table sizes)
  unfolding planned_length
  length_is = ap (λ l. 6 + sum_of (map planned_bytes l) + 5) (front a p) ∙ ap (λ b. 6 + b + 5) (bytes_of n table 0 sizes) ∙ sym (image_length_lem n table sizes)

-- The same of the cells alone.
module _ {n : ℕ} {table : List ℤ} {cells : List Cell} {bits : ℕ} (p : CellsPlanned n table cells bits) where
  pub cells_length : planned_length cells ≡ length (image_for n table (cell_groups cells))
  unfolding planned_length
  cells_length = ap (λ l. 6 + sum_of (map planned_bytes l) + 5) p.planned ∙ ap (λ b. 6 + b + 5) (bytes_of n table 0 (cell_groups cells)) ∙ sym (image_length_lem n table (cell_groups cells))

  pub small_cells : Accepted n table → SmallCells cells
  small_cells a = record { few = count_most p a; each = λ k l. small (next_planned p k l no_cell _ refl) a }

-- Plan's cells can be written.
pub cells_planned : {n : ℕ} {table : List ℤ} {cells : List Cell} {count bits : ℕ} → Accepted n table → PlannedAs n table (groups cells count) cells count bits → CellsPlanned n table (take count cells) bits
unfolding groups cell_groups
cells_planned a p = record { grouping = p.grouping; planned = front a p; total = p.total }
