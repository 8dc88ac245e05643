-- What Plan and Compile answer, and what Run and Expand give on a compiled image.
use Rattle.std.specs.Prelude.{ℕ, suc, ◌+◌, ◌-◌, ◌^◌, ◌≤◌, ◌<◌, ◌≡◌, true, length, get_or, take, replicate, ℤ, pos, ◌≤ℤ◌}
use mathlib.Core.List.{List, [], ◌∷◌, ◌++◌, flat_map}
use Rattle.numbers.specs.Answers.{accepted, refused}
use Rattle.numbers.specs.Conditions.{Limit, Domain}
use Rattle.numbers.specs.Lists.{sum_of}
use Rattle.numbers.proofs.Laws.Tests.{limit_test}
use Rattle.blocks.specs.Classes.{class_count}
use Rattle.blocks.specs.Uses.{use_count, classes_at}
use Rattle.diagram.specs.Accepted.{Accepted}
use Rattle.diagram.specs.Records.{records, node_count}
use Rattle.diagram.specs.Bound.{node_bound}
use Rattle.image.specs.Cells.{Cell, total_bits}
use Rattle.image.specs.Commands.{cell_commands}
use Rattle.image.specs.Reader.{reading}
use Rattle.image.specs.Run.{run, expand}
use Rattle.image.specs.declared.Command.{Command}
use Rattle.image.specs.declared.Command.TheVariants as commands
use Rattle.cascade.specs.Cascade.{cells_from}
use Rattle.cascade.specs.Compile.{image_for, compile, ImageSummary, image_summary, compile_answer, compile_buffer, compiled_image}
use Rattle.cascade.specs.Groupings.{cost, fits, chosen, is_grouping, BestGrouping}
use Rattle.cascade.specs.Plan.{plan, plan_cells, no_cell, size_array, cell_array}
use Rattle.cascade.specs.declared.Cell.{Cell as PlanCell}
use Rattle.cascade.proofs.Laws.Commonest as commonest
use Rattle.cascade.proofs.Laws.Compiled as proved
use Rattle.cascade.proofs.Laws.Planned as planning

-- The commands of a table's image with these cells and this total.
abbrev table_commands : ℕ → List ℤ → List Cell → ℕ → List Command
table_commands n table cells bits =
    commands.Table n (get_or table 0 (pos 0)) ∷ flat_map cell_commands cells ++ commands.End bits ∷ []

module _ (n : ℕ) (table : List ℤ) (admitted : Accepted n table) where
  -- ---- what is answered

  -- An accepted table and an admitted limit: Plan answers the chosen grouping, or 9.
  pub plan_chooses : (limit : ℕ) → Limit limit → plan n table limit ≡ chosen n table limit
  plan_chooses limit l = proved.plan_chooses n table admitted limit ((limit_test limit).1 l)

  -- Where a grouping is chosen and the buffer is no shorter than its image, Compile gives it.
  pub compile_chooses : (limit room : ℕ) → Limit limit → (best : List ℕ) → chosen n table limit ≡ accepted best
      → length (image_for n table best) ≤ room → compile n table limit room ≡ accepted best
  compile_chooses limit room l = proved.compile_chooses n table admitted limit room ((limit_test limit).1 l)

  -- ---- the image of a grouping

  module _ (sizes : List ℕ) (grouping : is_grouping n sizes ≡ true) where
    -- It is read as its cells' commands, and ends with the grouping's cost.
    pub image_commands : reading (image_for n table sizes)
        ≡ accepted (table_commands n table (cells_from n table 0 sizes) (cost n table sizes))
    image_commands = proved.image_commands n table admitted sizes grouping

    -- Run answers f(X) at every X below 2^n, and as many words read as there are groups.
    pub image_runs : (x : ℕ) → Domain n x
        → run (image_for n table sizes) x ≡ accepted (record { value = get_or table x (pos 0); words = length sizes })
    image_runs = proved.image_runs n table admitted sizes grouping

    -- Expand returns the table.
    pub image_expands : expand (image_for n table sizes) (2 ^ n) ≡ accepted table
    image_expands = proved.image_expands n table admitted sizes grouping

-- ---- the choice

-- Where some grouping fits the limit, one is chosen, and it is the best: it fits, costs least, and is the widest first among equals.
pub some_fits_chosen : (n : ℕ) (table : List ℤ) (limit : ℕ)
    → (sizes : List ℕ) → is_grouping n sizes ≡ true → fits n table limit sizes ≡ true
    → (best : List ℕ) × (chosen n table limit ≡ accepted best) × BestGrouping n table limit best
some_fits_chosen = proved.some_fits_chosen

-- ---- Plan's arrays

-- A refusal has arrays of 0,
pub plan_arrays_refused : (n : ℕ) (table : List ℤ) (k : ℕ)
    → (size_array (refused k) ≡ replicate 12 0) × (cell_array n table (refused k) ≡ replicate 12 no_cell)
plan_arrays_refused = planning.arrays_refused

-- in each number of a cell.
pub no_cell_lem : no_cell ≡ record { group = 0; incoming = 0; outgoing = 0; width = 0; bits = 0; common = 0; uses = 0 }
no_cell_lem = planning.no_cell_lem

-- The arrays of a grouping: its sizes and the numbers of its cells, and 0 behind them.
module _ (n : ℕ) (table : List ℤ) (sizes : List ℕ) where
  abbrev cells : List PlanCell
  cells = plan_cells n table 0 sizes

  pub plan_arrays : (size_array (accepted sizes) ≡ sizes ++ replicate (12 - length sizes) 0)
      × (cell_array n table (accepted sizes) ≡ cells ++ replicate (12 - length cells) no_cell)
  plan_arrays = planning.arrays_accepted n table sizes

-- ---- the commonest outgoing classes of Plan's cells

module _ (n : ℕ) (table : List ℤ) (sizes : List ℕ) (grouping : is_grouping n sizes ≡ true)
    (k : ℕ) (below : k < length sizes) where
  -- Cell k as Plan answers it, and the cut where it ends.
  abbrev planned : PlanCell
  planned = get_or (plan_cells n table 0 sizes) k no_cell

  abbrev end : ℕ
  end = sum_of (take (suc k) sizes)

  -- Its outgoing classes are those of that cut,
  pub outgoing_there : planned.outgoing ≡ class_count n table end
  outgoing_there = commonest.outgoing_there n table sizes grouping k below

  -- its commonest class is one of them,
  pub common_known : planned.common < planned.outgoing
  common_known = commonest.common_known n table sizes grouping k below

  -- with the use count that the class has there,
  pub common_uses : planned.uses ≡ use_count (classes_at n table end) planned.common
  common_uses = commonest.common_uses n table sizes grouping k below

  -- no outgoing class is used more,
  pub common_most : (class : ℕ) → class < planned.outgoing → use_count (classes_at n table end) class ≤ planned.uses
  common_most = commonest.common_most n table sizes grouping k below

  -- and of those used as much it has the smallest number.
  pub common_smallest : (class : ℕ) → class < planned.outgoing → use_count (classes_at n table end) class ≡ planned.uses
      → planned.common ≤ class
  common_smallest = commonest.common_smallest n table sizes grouping k below

  -- The last cell has class 0, which all values have.
  pub common_of_last : length table ≡ 2 ^ n → suc k ≡ length sizes → (planned.common ≡ 0) × (planned.uses ≡ 2 ^ n)
  common_of_last = commonest.common_of_last n table sizes grouping k below

-- ---- what Compile left

-- Compile answers of a grouping its image's length, the node count, the number of its groups and its cost.
module _ (n : ℕ) (table : List ℤ) (sizes : List ℕ) where
  abbrev summary : ImageSummary
  summary = image_summary n table sizes

  pub summary_parts : (summary.image_length ≡ length (image_for n table sizes)) × (summary.nodes ≡ node_count n table)
      × (summary.planned.cells ≡ length sizes) × (summary.planned.bits ≡ cost n table sizes)
  summary_parts = proved.summary_parts n table sizes

module _ (n : ℕ) (table : List ℤ) (limit : ℕ) (buffer : List ℕ) (r : ImageSummary)
    (compiled : compile_answer n table limit (length buffer) ≡ accepted r) where
  -- The compiled image.
  abbrev image : List ℕ
  image = compiled_image r (compile_buffer n table limit buffer)

  -- The table and the limit were admitted, and the image is that of the chosen grouping, with its length, its cells and its cost.
  pub compiled_chosen : Accepted n table × Limit limit
      × (best : List ℕ) × (chosen n table limit ≡ accepted best)
      × (image ≡ image_for n table best) × (r ≡ image_summary n table best)
  compiled_chosen = proved.compiled_chosen n table limit buffer r compiled

  -- Run answers f(X) at every X below 2^n, and as many words read as Compile answered cells.
  pub compiled_runs : (x : ℕ) → Domain n x
      → run image x ≡ accepted (record { value = get_or table x (pos 0); words = r.planned.cells })
  compiled_runs = proved.compiled_runs n table limit buffer r compiled

  -- Expand returns the table.
  pub compiled_expands : expand image (2 ^ n) ≡ accepted table
  compiled_expands = proved.compiled_expands n table limit buffer r compiled

  -- It is read as cells, as many as Compile answered, that end with Compile's bits: the cost of its own cells.
  pub compiled_bits : (cells : List Cell) × (reading image ≡ accepted (table_commands n table cells r.planned.bits))
      × (r.planned.cells ≡ length cells) × (r.planned.bits ≡ total_bits cells)
  compiled_bits = proved.compiled_bits n table limit buffer r compiled

  -- Every grouping that fits costs at least as many.
  pub compiled_least : (sizes : List ℕ) → is_grouping n sizes ≡ true → fits n table limit sizes ≡ true
      → r.planned.bits ≤ cost n table sizes
  compiled_least = proved.compiled_least n table limit buffer r compiled

  -- The node count is that of the reduced diagram: its records and the terminal.
  pub compiled_nodes : r.nodes ≡ length (records n table) + 1
  compiled_nodes = proved.compiled_nodes n table limit buffer r compiled

  -- It is within the node bound for every p and every l from 1 to n.
  pub compiled_bound : (p l : ℕ) → 1 ≤ l → l ≤ n → pos r.nodes ≤ℤ node_bound n table p l
  compiled_bound = proved.compiled_bound n table limit buffer r compiled

-- Where some grouping fits, Compile gives the image of the chosen one into every buffer that is no shorter, with its cells and its cost.
module _ (n : ℕ) (table : List ℤ) (admitted : Accepted n table) (limit : ℕ) (inside : Limit limit) where
  pub compile_gives : (sizes : List ℕ) → is_grouping n sizes ≡ true → fits n table limit sizes ≡ true
      → (best : List ℕ) × BestGrouping n table limit best
      × ((buffer : List ℕ) → length (image_for n table best) ≤ length buffer
      → (r : ImageSummary) × (compile_answer n table limit (length buffer) ≡ accepted r)
      × (compiled_image r (compile_buffer n table limit buffer) ≡ image_for n table best)
      × (r.planned.cells ≡ length best) × (r.planned.bits ≡ cost n table best))
  compile_gives = proved.compile_gives n table admitted limit ((limit_test limit).1 inside)
