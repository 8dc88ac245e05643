-- Plan: its verdict, and what the arrays beside it hold.
use Rattle.std.specs.Prelude.{ℕ, ◌+◌, ◌≡◌, List, [], ◌∷◌, length, ℤ, Result}
use Rattle.numbers.specs.Answers.{Answer, accepted, refused, unless, map_answer}
use Rattle.numbers.specs.Refusals.{answer_of}
use Rattle.numbers.specs.declared.Refusal.{Refusal}
use Rattle.numbers.specs.Lists.{padded}
use Rattle.numbers.specs.Ranges.{is_limit, most_variables}
use Rattle.blocks.specs.Uses.{commonest_at}
use Rattle.blocks.specs.declared.Common.{Common}
use Rattle.diagram.specs.Build.{of_table}
use Rattle.image.specs.Cells.{Cell, bits_of, total_bits}
use Rattle.cascade.specs.Cascade.{cell_of, cells_from}
use Rattle.cascade.specs.Groupings.{chosen}
use Rattle.cascade.specs.declared.Cell.{Cell as PlanCell}
use Rattle.cascade.specs.declared.Grouping.{Grouping}
use Rattle.cascade.specs.declared.Planned.{Planned}

-- Plan's answer: the chosen sizes, or a refusal.
unfoldable pub plan : ℕ → List ℤ → ℕ → Answer (List ℕ)
plan n table limit = of_table n table (unless (is_limit limit) 8 (chosen n table limit))

-- A cell as Plan answers it, with the commonest class of the cut where it ends.
unfoldable pub plan_cell : Cell → Common → PlanCell
plan_cell cell commonest = record {
  group = cell.group;
  incoming = cell.incoming;
  outgoing = cell.outgoing;
  width = cell.width;
  bits = bits_of cell;
  common = commonest.class;
  uses = commonest.uses;
}

-- The cells of a list of sizes, from cut h down, as Plan answers them.
unfoldable pub plan_cells : ℕ → List ℤ → ℕ → List ℕ → List PlanCell
plan_cells n table h [] = []
plan_cells n table h (g ∷ sizes) = plan_cell (cell_of n table h g) (commonest_at n table (h + g)) ∷ plan_cells n table (h + g) sizes

unfoldable pub no_cell : PlanCell
no_cell = record { group = 0; incoming = 0; outgoing = 0; width = 0; bits = 0; common = 0; uses = 0 }

-- The entries of an accepted answer; a refusal has none.
unfoldable pub entries : {A B : Type 0} → (A → List B) → Answer A → List B
entries list (accepted a) = list a
entries list (refused k) = []

-- An array has a place for each cell that a grouping can have.
unfoldable pub size_array : Answer (List ℕ) → List ℕ
size_array answer = padded most_variables 0 (entries (λ sizes. sizes) answer)

unfoldable pub cell_array : ℕ → List ℤ → Answer (List ℕ) → List PlanCell
cell_array n table answer = padded most_variables no_cell (entries (plan_cells n table 0) answer)

-- The number of cells and their memory bits.
pub record Totals : Type 0 where
  pub cells : ℕ
  pub bits : ℕ

unfoldable pub totals : ℕ → List ℤ → List ℕ → Totals
totals n table sizes = record { cells = length sizes; bits = total_bits (cells_from n table 0 sizes) }

unfoldable pub plan_answer : ℕ → List ℤ → ℕ → Answer Totals
plan_answer n table limit = map_answer (totals n table) (plan n table limit)

-- The paper's answer that a verdict stands for.
unfoldable pub judgement : Result Grouping Refusal → Answer Totals
judgement verdict = map_answer (λ (g : Grouping). record { cells = g.cells; bits = g.bits }) (answer_of verdict)

-- Plan's promise: its verdict, and what the arrays beside it hold, 0 past the last entry and all 0 in a refusal.
pub record Plans (n : ℕ) (table : List ℤ) (limit : ℕ) (answer : Planned) : Type 0 where
  pub judged : judgement answer.verdict ≡ plan_answer n table limit
  pub listed : answer.sizes ≡ size_array (plan n table limit)
  pub priced : answer.cells ≡ cell_array n table (plan n table limit)
