-- What the table compiler as a whole is trusted for: the demands, sentence by sentence, over the definitions that the
-- contracts name.
use Rattle.std.specs.Prelude.{ℕ, ◌^◌, ◌<◌, suc, ◌+◌, ◌-◌, ◌%◌, ◌≤◌, ◌≡◌, ◌↔◌, true, length, drop, replicate, get_or, ℤ, pos, neg_ℤ, ◌+ℤ◌, ◌≤ℤ◌}
use mathlib.Core.List.{List, ◌++◌, map, [], ◌∷◌, flat_map}
use Rattle.numbers.specs.Answers.{Answer, accepted, refused}
use Rattle.numbers.specs.Lists.{padded}
use Rattle.numbers.specs.Conditions.{Limit}
use Rattle.operands.specs.Bytes.{AreBytes}
use Rattle.blocks.specs.Blocks.{block, differences}
use Rattle.diagram.specs.Accepted.{written, Accepted, node_function}
use Rattle.diagram.specs.Build.{build_answer, build_buffer, summary_of, Summary, record_part}
use Rattle.diagram.proofs.Theorems as diagrams
use Rattle.diagram.specs.Walk.{walk, walk_value, variable_at, low_at, high_at, weight_at}
use Rattle.diagram.specs.Bound.{jumps, rising_kinds, node_bound}
use Rattle.diagram.specs.Records.{node, records}
use Rattle.diagram.proofs.NodeBound as bounds
use Rattle.image.specs.Cells.{Card, Cell, total_bits}
use Rattle.image.specs.Run.{run, run_card, expand, expand_buffer, card_values}
use Rattle.image.proofs.Theorems as images
use Rattle.image.specs.Commands.{cell_commands}
use Rattle.image.specs.Reader.{reading}
use Rattle.image.specs.declared.Command.TheVariants as commands
use Rattle.cascade.specs.Compile.{image_for, image_summary, compile_answer, compile_cells, compile_buffer, ImageSummary, compiled_image}
use Rattle.cascade.specs.Groupings.{BestGrouping, is_grouping, fits, cost}
use Rattle.cascade.specs.Plan.{plan, plan_cells, no_cell, size_array, cell_array, totals, plan_answer}
use Rattle.cascade.proofs.Theorems as cascades
use Rattle.demands.specs.Checks.{Check, AllHold, FirstFails, Decided}
use Rattle.demands.specs.Admitted.{table_checks, build_checks, walk_checks, FittingGrouping, plan_checks, compile_checks, GivesImage, ImageOf, run_checks, expand_checks}
use Rattle.demands.proofs.Laws.Checks.{not_all_hold, one_failure}
use Rattle.demands.proofs.Laws.Diagram.{accepted_table, decided_build, decided_walk, build_value, build_buffer_lem, walk_value_lem}
use Rattle.demands.proofs.Laws.Cascade.{gives_image, fitting_costs_as_many, fitting_tests, decided_plan, decided_compile, best_exists, one_best, plan_value, plan_arrays, plan_arrays_refused, compile_value, compile_cells_lem, compile_cells_refused, compile_buffer_lem, compile_kept}
use Rattle.demands.proofs.Laws.Image.{decided_run, decided_expand, run_value, expand_value, expand_buffer_lem}
use Rattle.demands.proofs.Laws.Counts.{built_nodes, bound_without_jumps}

-- Demand 1. No admitted call is turned away, each gets its answer, and every other call gets one number, that of the
-- first check that fails; what a refused call was lent stays as it was.

-- An answer that goes by an order of checks: what is not admitted is refused with the number of the first check that
-- fails, and with no other.
pub else_refused : {A : Type 0} {checks : List Check} (answer : Answer A) → Decided answer checks → ¬ AllHold checks
    → (k : ℕ) × (FirstFails checks k × (answer ≡ refused k))
else_refused = not_all_hold

pub one_number : {A : Type 0} {checks : List Check} (answer : Answer A) → Decided answer checks → (j k : ℕ)
    → FirstFails checks j → FirstFails checks k → j ≡ k
one_number = one_failure

-- ---- Build

module _ (n : ℕ) (table : List ℤ) where
  -- Accepted exactly where all its checks hold, refused exactly with the number of the first that fails.
  pub build_decided : (room : ℕ) → Decided (build_answer n table room) (build_checks n table room)
  build_decided = decided_build n table

  -- Admitted: node count and offset of the table.
  pub build_answers : (room : ℕ) → AllHold (build_checks n table room)
      → build_answer n table room ≡ accepted (summary_of n table)
  build_answers = build_value n table

  -- The buffer then holds the records, and behind them what it held; after a refusal what it held.
  pub build_writes : (buffer : List ℤ) → AllHold (build_checks n table (length buffer))
      → build_buffer n table buffer ≡ written n table ++ drop (length (written n table)) buffer
  build_writes = build_buffer_lem n table

  pub build_leaves : (buffer : List ℤ) (k : ℕ) → build_answer n table (length buffer) ≡ refused k
      → build_buffer n table buffer ≡ buffer
  build_leaves = diagrams.refused_build_leaves n table

-- ---- Walk

module _ (n : ℕ) (offset : ℤ) (list : List ℤ) (x : ℕ) where
  pub walk_decided : Decided (walk n offset list x) (walk_checks n offset list x)
  walk_decided = decided_walk n offset list x

  -- Admitted: the offset plus the weights of the 1-edges on the path from the root.
  pub walk_answers : AllHold (walk_checks n offset list x)
      → walk n offset list x ≡ accepted (walk_value n offset list x)
  walk_answers = walk_value_lem n offset list x

-- ---- Plan

module _ (n : ℕ) (table : List ℤ) (limit : ℕ) where
  pub plan_decided : Decided (plan_answer n table limit) (plan_checks n table limit)
  plan_decided = decided_plan n table limit

  -- What the rule of the chosen grouping calls a grouping that fits is one as the paper says it.
  pub fitting_grouping : (sizes : List ℕ)
      → FittingGrouping n table limit sizes ↔ ((is_grouping n sizes ≡ true) × (fits n table limit sizes ≡ true))
  fitting_grouping = fitting_tests n table limit

  -- Where some grouping fits there is a chosen one, and one only.
  pub chosen_exists : (sizes : List ℕ) → FittingGrouping n table limit sizes
      → (best : List ℕ) × BestGrouping n table limit best
  chosen_exists = best_exists n table limit

  pub chosen_once : (left right : List ℕ) → BestGrouping n table limit left → BestGrouping n table limit right
      → left ≡ right
  chosen_once = one_best n table limit

  -- Admitted: the number of cells and the bits of the chosen grouping, and beside them its sizes and cells, 0 past
  -- the last.
  pub plan_answers : AllHold (plan_checks n table limit) → (best : List ℕ) → BestGrouping n table limit best
      → plan_answer n table limit ≡ accepted (totals n table best)
  plan_answers = plan_value n table limit

  pub plan_lists : AllHold (plan_checks n table limit) → (best : List ℕ) → BestGrouping n table limit best
      → (size_array (plan n table limit) ≡ padded 12 0 best)
      × (cell_array n table (plan n table limit) ≡ padded 12 no_cell (plan_cells n table 0 best))
  plan_lists = plan_arrays n table limit

  -- A refusal is its number alone.
  pub plan_lists_nothing : (k : ℕ) → plan_answer n table limit ≡ refused k
      → (size_array (plan n table limit) ≡ replicate 12 0)
      × (cell_array n table (plan n table limit) ≡ replicate 12 no_cell)
  plan_lists_nothing = plan_arrays_refused n table limit

-- ---- Compile

module _ (n : ℕ) (table : List ℤ) (limit : ℕ) where
  pub compile_decided : (room : ℕ) → Decided (compile_answer n table limit room) (compile_checks n table limit room)
  compile_decided = decided_compile n table limit

  -- Admitted: the image's length, Build's node count and Plan's totals for the chosen grouping, and beside them its
  -- cells.
  pub compile_answers : (room : ℕ) → AllHold (compile_checks n table limit room) → (best : List ℕ)
      → BestGrouping n table limit best → compile_answer n table limit room ≡ accepted (image_summary n table best)
  compile_answers = compile_value n table limit

  pub compile_lists : (room : ℕ) → AllHold (compile_checks n table limit room) → (best : List ℕ)
      → BestGrouping n table limit best
      → compile_cells n table limit room ≡ padded 12 no_cell (plan_cells n table 0 best)
  compile_lists = compile_cells_lem n table limit

  pub compile_lists_nothing : (room k : ℕ) → compile_answer n table limit room ≡ refused k
      → compile_cells n table limit room ≡ replicate 12 no_cell
  compile_lists_nothing = compile_cells_refused n table limit

  -- The buffer then holds the image of the chosen grouping, and behind it what it held; after a refusal what it held.
  pub compile_writes : (buffer : List ℕ) → AllHold (compile_checks n table limit (length buffer)) → (best : List ℕ)
      → BestGrouping n table limit best
      → compile_buffer n table limit buffer ≡ image_for n table best ++ drop (length (image_for n table best)) buffer
  compile_writes = compile_buffer_lem n table limit

  pub compile_leaves : (buffer : List ℕ) (k : ℕ) → compile_answer n table limit (length buffer) ≡ refused k
      → compile_buffer n table limit buffer ≡ buffer
  compile_leaves = compile_kept n table limit

-- ---- Run

module _ (image : List ℕ) (bytes : AreBytes image) where
  pub run_decided : (x : ℕ) → Decided (run image x) (run_checks image x)
  run_decided = decided_run image bytes

-- Admitted: the answer of the card whose image it is.
pub run_answers : (image : List ℕ) (card : Card) → ImageOf image card → (x : ℕ) → x < 2 ^ card.n
    → run image x ≡ accepted (run_card card x)
run_answers = run_value

-- ---- Expand

module _ (image : List ℕ) (bytes : AreBytes image) where
  pub expand_decided : (room : ℕ) → Decided (expand image room) (expand_checks image room)
  expand_decided = decided_expand image bytes

-- Admitted: the 2^n Run values in order, and they are what the buffer then holds; after a refusal what it held.
pub expand_answers : (image : List ℕ) (card : Card) → ImageOf image card → (room : ℕ) → room ≡ 2 ^ card.n
    → expand image room ≡ accepted (card_values card)
expand_answers = expand_value

pub expand_writes : (image : List ℕ) (buffer : List ℤ) (card : Card) → ImageOf image card
    → length buffer ≡ 2 ^ card.n → expand_buffer image buffer ≡ card_values card
expand_writes = expand_buffer_lem

pub expand_leaves : (image : List ℕ) (buffer : List ℤ) (k : ℕ) → expand image (length buffer) ≡ refused k
    → expand_buffer image buffer ≡ buffer
expand_leaves = images.expand_leaves

-- Demand 2. Build's records are the reduced diagram and nothing else, from which Walk gives every value; equality of
-- records is equality of tables but for a constant; and a compiled image holds the whole table.

-- An accepted table is one on which the checks hold.
pub an_accepted_table : (n : ℕ) (table : List ℤ) → AllHold (table_checks n table) ↔ Accepted n table
an_accepted_table = accepted_table

module _ (n : ℕ) (table : List ℤ) (admitted : Accepted n table) where
  -- Every block of the table has a node, and the node stands for the block's differences.
  pub every_block_has_a_node : (i j : ℕ) → i ≤ n → j < 2 ^ (n - i) → (x : ℕ)
      → node_function n table (node n table i (block table i j)) x ≡ get_or (differences (block table i j)) (x % 2 ^ i) (pos 0)
  every_block_has_a_node = diagrams.each_block_has_node n table admitted

  -- Every record stands for a block whose height is its variable plus 1.
  pub every_record_has_a_block : (k : ℕ) → 1 ≤ k → k ≤ length (records n table)
      → (i : ℕ) × (j : ℕ) × (i < n) × (j < 2 ^ (n - suc i)) × (variable_at (written n table) k ≡ pos i)
      × ((x : ℕ) → node_function n table k x ≡ get_or (differences (block table (suc i) j)) (x % 2 ^ suc i) (pos 0))
  every_record_has_a_block = diagrams.each_record_has_block n table admitted

  -- The diagram is reduced: no record has equal children and weight 0, and no two nodes stand for one function.
  pub no_record_is_redundant : (k : ℕ) → 1 ≤ k → k ≤ length (records n table)
      → ¬ ((low_at (written n table) k ≡ high_at (written n table) k) × (weight_at (written n table) k ≡ pos 0))
  no_record_is_redundant = diagrams.no_redundant_record n table admitted

  pub no_two_nodes_are_alike : (j k : ℕ) → j ≤ length (records n table) → k ≤ length (records n table)
      → ((x : ℕ) → x < 2 ^ n → node_function n table j x ≡ node_function n table k x) → j ≡ k
  no_two_nodes_are_alike = diagrams.no_two_nodes_alike n table admitted

  -- The last record is the root, the node of the whole table.
  pub the_last_record_is_the_root : node n table n table ≡ length (records n table)
  the_last_record_is_the_root = diagrams.root_is_last n table admitted

-- Walking what Build left in its buffer gives the table back.
pub walking_gives_the_table_back : (n : ℕ) (table buffer : List ℤ) (s : Summary)
    → build_answer n table (length buffer) ≡ accepted s → (x : ℕ) → x < 2 ^ n
    → walk n s.table_offset (record_part s.nodes (build_buffer n table buffer)) x ≡ accepted (get_or table x (pos 0))
walking_gives_the_table_back = diagrams.walk_after_build

-- Equal records tell designs apart up to a constant: of the definition, and of what Build left in two buffers.
pub equal_records_differ_by_a_constant : (n : ℕ) (f g : List ℤ) → Accepted n f → Accepted n g
    → (records n f ≡ records n g) ↔ ((c : ℤ) × (g ≡ map (λ v. v +ℤ c) f))
equal_records_differ_by_a_constant = diagrams.equal_records

pub equal_buffers_differ_by_a_constant : (n : ℕ) (f g buffer buffer' : List ℤ) (s t : Summary)
    → build_answer n f (length buffer) ≡ accepted s → build_answer n g (length buffer') ≡ accepted t
    → (record_part s.nodes (build_buffer n f buffer) ≡ record_part t.nodes (build_buffer n g buffer'))
    ↔ ((c : ℤ) × (g ≡ map (λ v. v +ℤ c) f))
equal_buffers_differ_by_a_constant = diagrams.equal_builds

-- Expanding a compiled image returns its table.
pub expanding_returns_the_table : (n : ℕ) (table : List ℤ) (limit : ℕ) (buffer : List ℕ) (r : ImageSummary)
    → compile_answer n table limit (length buffer) ≡ accepted r
    → expand (compiled_image r (compile_buffer n table limit buffer)) (2 ^ n) ≡ accepted table
expanding_returns_the_table = cascades.compiled_expands

-- Demand 3. Where some grouping fits and the buffer is long enough, Compile writes the chosen grouping's image.

pub compile_gives_the_chosen_image : (n : ℕ) (table : List ℤ) → Accepted n table → (limit : ℕ) → Limit limit
    → (sizes : List ℕ) → FittingGrouping n table limit sizes
    → (best : List ℕ) × (BestGrouping n table limit best
    × ((buffer : List ℕ) → length (image_for n table best) ≤ length buffer → GivesImage n table limit best buffer))
compile_gives_the_chosen_image = gives_image

module _ (n : ℕ) (table : List ℤ) (limit : ℕ) (buffer : List ℕ) (r : ImageSummary)
    (compiled : compile_answer n table limit (length buffer) ≡ accepted r) where
  -- The compiled image.
  abbrev image : List ℕ
  image = compiled_image r (compile_buffer n table limit buffer)

  -- At each X of the table Run on that image gives the table's value, from one word of each cell.
  pub run_answers_the_table : (x : ℕ) → x < 2 ^ n
      → run image x ≡ accepted (record { value = get_or table x (pos 0); words = r.planned.cells })
  run_answers_the_table = cascades.compiled_runs n table limit buffer r compiled

  -- The total at the image's end is what its cells cost.
  pub the_bits_are_the_cells_cost : (cells : List Cell)
      × (reading image
      ≡ accepted (commands.Table n (get_or table 0 (pos 0)) ∷ flat_map cell_commands cells ++ commands.End r.planned.bits ∷ []))
      × (r.planned.cells ≡ length cells) × (r.planned.bits ≡ total_bits cells)
  the_bits_are_the_cells_cost = cascades.compiled_bits n table limit buffer r compiled

  -- No grouping that fits costs less.
  pub every_other_grouping_costs_as_many : (sizes : List ℕ) → FittingGrouping n table limit sizes
      → r.planned.bits ≤ cost n table sizes
  every_other_grouping_costs_as_many = fitting_costs_as_many n table limit buffer r compiled

  -- Compile's node count is that of the reduced diagram, with its terminal, and keeps to the bound, whatever p and l
  -- are.
  pub compile_counts_the_nodes : r.nodes ≡ length (records n table) + 1
  compile_counts_the_nodes = cascades.compiled_nodes n table limit buffer r compiled

  pub compile_nodes_within_the_bound : (p l : ℕ) → 1 ≤ l → l ≤ n → pos r.nodes ≤ℤ node_bound n table p l
  compile_nodes_within_the_bound = cascades.compiled_bound n table limit buffer r compiled

-- Build's is the same.
module _ (n : ℕ) (table : List ℤ) (room : ℕ) (s : Summary) (built : build_answer n table room ≡ accepted s) where
  pub build_counts_the_nodes : s.nodes ≡ length (records n table) + 1
  build_counts_the_nodes = built_nodes n table room s built

  pub build_nodes_within_the_bound : (p l : ℕ) → 1 ≤ l → l ≤ n → pos s.nodes ≤ℤ node_bound n table p l
  build_nodes_within_the_bound = bounds.build_bound n table room s built

-- The bound as the paper's formula has it: k, the jumps, counts every adjacent pair whose step falls or exceeds p,
-- and without a jump the last part takes l away.
pub the_bound_without_jumps : (n : ℕ) (table : List ℤ) (p l : ℕ) → jumps n table p ≡ 0
    → node_bound n table p l ≡ pos (2 ^ (n - l) + rising_kinds p l) +ℤ neg_ℤ (pos l)
the_bound_without_jumps = bound_without_jumps
