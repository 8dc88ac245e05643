-- What the requests of document 02 are trusted for, those that stand, paragraph by paragraph, in the form of Demands:
-- by which checks each operation is decided, what it answers, what each lent buffer then holds, and the facts that
-- the paragraph states.
use Rattle.std.specs.Prelude.{ℕ, suc, ◌+◌, ◌-◌, ◌*◌, ◌/◌, ◌^◌, ◌≤◌, ◌<◌, ◌≡◌, ◌↔◌, true, List, [], ◌∷◌, map, length, get_or, take, ℤ, pos, ◌≤ℤ◌, ◌<ℤ◌}
use Rattle.numbers.specs.Answers.{accepted, refused, buffer_after}
use Rattle.numbers.specs.Conditions.{Variables, TableValue, Domain, Part, LeastOver, GreatestOver}
use Rattle.numbers.specs.Lists.{tally, sum_of}
use Rattle.numbers.proofs.Theorems as widths
use Rattle.numbers.specs.Widths.{holds, weight_width}
use Rattle.operands.specs.Bytes.{AreBytes}
use Rattle.blocks.specs.Blocks.{block, blocks, differences}
use Rattle.blocks.specs.Classes.{class_count, class_of}
use Rattle.blocks.specs.Rows.{in_row, all_numbers, all_tries, all_uses, all_use_rows}
use Rattle.blocks.proofs.SearchTheorems as searches
use Rattle.blocks.specs.Tries.{known_before}
use Rattle.blocks.specs.Uses.{use_count, uses_at, classes_at, use_counts}
use Rattle.blocks.proofs.UseTheorems as uses
use Rattle.diagram.specs.Accepted.{Accepted, written, node_function}
use Rattle.diagram.specs.Records.{records, node_count}
use Rattle.diagram.proofs.Theorems as diagrams
use Rattle.diagram.specs.Walk.{least_at, greatest_at, path_weight, walk, walk_value}
use Rattle.image.specs.Cells.{Card}
use Rattle.image.specs.Commands.{image_of}
use Rattle.image.specs.OlderWidths.{OlderWellFormed, WidthDisagrees, older_card, present_card}
use Rattle.image.specs.Run.{Result, run, run_card}
use Rattle.image.proofs.Theorems as images
use Rattle.image.specs.WellFormed.{WellFormed}
use Rattle.cascade.specs.Compile.{ImageSummary, compile, compile_answer, compile_cells, compile_buffer, compiled_image}
use Rattle.cascade.specs.Plan.{plan, no_cell, cell_array}
use Rattle.cascade.specs.declared.Cell.{Cell as PlanCell}
use Rattle.report.specs.Report.{Figures, report}
use Rattle.pairs.specs.Pairs.{pair_run}
use Rattle.pairs.specs.PairTables.{Symmetric, GivesEntries}
use Rattle.pairs.proofs.TableTheorems as pairs
use Rattle.reach.specs.Reach.{reachable, reach, reach_answer}
use Rattle.sums.specs.Sums.{sum_at, sum_table, is_nonzero, remainder_by, remainder_table, plain_sum, reduced_sum}
use Rattle.sums.proofs.Theorems as sums
use Rattle.lines.specs.Text.{line}
use Rattle.listing.specs.Listing.{is_listed, listing}
use Rattle.listing.proofs.Theorems as listings
use Rattle.demands.specs.Checks.{AllHold, Decided}
use Rattle.demands.specs.Admitted.{RecordList, FittingGrouping}
use Rattle.demands.specs.Requested.{report_checks, FiguresOver, pair_checks, reach_checks, ReachOf, weight_checks, sum_checks, remainder_checks, Commonest}
use Rattle.demands.proofs.Laws.Report.{decided_report, report_figures, walks_there, least_untrue, greatest_untrue, no_record_list, refused_by_1}
use Rattle.demands.proofs.Laws.Pairs.{decided_pair, pair_value}
use Rattle.demands.proofs.Laws.Reach.{decided_reach, reach_value, reach_of}
use Rattle.demands.proofs.Laws.Sums.{decided_sum, sum_value, decided_remainder, remainder_value, sum_filled, remainder_filled, sum_entry, sum_nodes_of, remainder_entry, classes_of_remainder, limit_of_remainder}
use Rattle.demands.proofs.Laws.Uses.{plan_commonest, compile_commonest}

-- ==== W-201. Least and greatest beside each node

-- Beside each of Build's records stand the least and the greatest value of its node's function, which is 0 where all
-- bits are 0.
module _ (n : ℕ) (table : List ℤ) (admitted : Accepted n table) (k : ℕ) (first : 1 ≤ k) (last : k ≤ length (records n table)) where
  pub the_fifth_is_the_least : LeastOver (Domain n) (node_function n table k) (least_at (written n table) k)
  the_fifth_is_the_least = diagrams.build_least n table admitted k first last

  pub the_sixth_is_the_greatest : GreatestOver (Domain n) (node_function n table k) (greatest_at (written n table) k)
  the_sixth_is_the_greatest = diagrams.build_greatest n table admitted k first last

  pub zero_at_all_zero_bits : node_function n table k 0 ≡ pos 0
  zero_at_all_zero_bits = diagrams.zero_at_zero n (written n table) k

-- A list some record of which has an untrue least or greatest is no record list,
pub untrue_least : (n : ℕ) (list : List ℤ) (k : ℕ) → 1 ≤ k → k ≤ length list / 6
    → ¬ LeastOver (Domain n) (path_weight list n k) (least_at list k) → ¬ RecordList n list
untrue_least = least_untrue

pub untrue_greatest : (n : ℕ) (list : List ℤ) (k : ℕ) → 1 ≤ k → k ≤ length list / 6
    → ¬ GreatestOver (Domain n) (path_weight list n k) (greatest_at list k) → ¬ RecordList n list
untrue_greatest = greatest_untrue

-- and what is no record list is 6: for Walk at every X, for the report over every part.
pub untrue_numbers_are_6 : (n : ℕ) (offset : ℤ) (list : List ℤ)
    → Variables n → TableValue offset → ¬ RecordList n list
    → ((x : ℕ) → walk n offset list x ≡ refused 6) × ((a b : ℕ) → report n offset list a b ≡ refused 6)
untrue_numbers_are_6 = no_record_list

module _ (n : ℕ) (offset : ℤ) (list : List ℤ) (a b : ℕ) where
  -- The report: accepted exactly where all its checks hold, refused exactly with the number of the first that fails.
  pub report_decided : Decided (report n offset list a b) (report_checks n offset list a b)
  report_decided = decided_report n offset list a b

  -- Admitted: the figures of Walk's values at the X from a to b.
  pub report_answers : AllHold (report_checks n offset list a b)
      → (f : Figures) × ((report n offset list a b ≡ accepted f) × FiguresOver n offset list a b f)
  report_answers = report_figures n offset list a b

  -- Walk answers these values there.
  pub report_is_of_walks : AllHold (report_checks n offset list a b)
      → (x : ℕ) → Part a b x → walk n offset list x ≡ accepted (walk_value n offset list x)
  report_is_of_walks = walks_there n offset list a b

-- The listing program takes n up to 11 and prints `refused 1` for every other n, 12 among them.
pub listed_up_to_11 : (n : ℕ) → ((1 ≤ n) × (n ≤ 11)) ↔ (is_listed n ≡ true)
listed_up_to_11 = listings.variables_listed

pub others_print_refused_1 : (input : List ℕ) → 2 ≤ length input → ¬ ((1 ≤ get_or input 0 0) × (get_or input 0 0 ≤ 11))
    → listing input ≡ line "refused" (pos 1 ∷ [])
others_print_refused_1 = refused_by_1

-- ==== W-202. Adders take unsigned rails

module _ (weights : List ℤ) where
  -- Weight j of a cell.
  abbrev weight : ℕ → ℤ
  weight j = get_or weights j (pos 0)

  -- Without a negative weight the width is the least a with every weight below 2^a.
  module _ (plain : (j : ℕ) → j < length weights → pos 0 ≤ℤ weight j) where
    pub unsigned_width_holds : (j : ℕ) → j < length weights → weight j <ℤ pos (2 ^ weight_width weights)
    unsigned_width_holds = widths.unsigned_below weights plain

    pub unsigned_width_is_least : (a : ℕ) → ((j : ℕ) → j < length weights → weight j <ℤ pos (2 ^ a))
        → weight_width weights ≤ a
    unsigned_width_is_least = widths.unsigned_least weights plain

  -- With one the signed rule stays: the least width that holds every weight in two's complement.
  module _ (i : ℕ) (inside : i < length weights) (negative : weight i <ℤ pos 0) where
    pub signed_width_holds : (j : ℕ) → j < length weights → holds (weight_width weights) (weight j) ≡ true
    signed_width_holds = widths.signed_holds weights i inside negative

    pub signed_width_is_least : (a : ℕ) → ((j : ℕ) → j < length weights → holds a (weight j) ≡ true)
        → weight_width weights ≤ a
    signed_width_is_least = widths.signed_least weights i inside negative

-- Reader, costs and the chosen grouping name this width alone (KeepsCell, cell_of), so that the demands are meant with
-- it.

-- An older image is that of a card which keeps every rule, its widths by the signed rule; with today's widths the
-- same words keep every rule of today.
pub each_older_image_is_of_a_card : (card : Card) → OlderWellFormed card
    → WellFormed (present_card card) × (older_card (present_card card) ≡ card)
each_older_image_is_of_a_card = images.present_of_older

-- Where some width disagrees it is 13,
module _ (card : Card) (older : OlderWellFormed card) where
  pub an_older_image_is_13 : WidthDisagrees card → (x : ℕ) → run (image_of card) x ≡ refused 13
  an_older_image_is_13 = images.older_run_refused card older

  -- and where none does it is good as ever.
  pub an_agreeing_image_stays : ¬ WidthDisagrees card → (x : ℕ) → x < 2 ^ card.n
      → run (image_of card) x ≡ accepted (run_card card x)
  an_agreeing_image_stays = images.older_image_runs card older

-- ==== W-203. Look at the latest class first

-- What the class work leaves of cut h in the rows of all cuts.
module _ (n : ℕ) (table : List ℤ) (h : ℕ) (cut : h ≤ n) where
  -- The differences of its blocks, left to right.
  abbrev lists : List (List ℤ)
  lists = map differences (blocks n table (n - h))

  -- Block j's class, and how many classes were tried for it.
  abbrev class : ℕ → ℕ
  class j = in_row (all_numbers n table) h j

  abbrev tried : ℕ → ℕ
  tried j = in_row (all_tries n table) h j

  -- Numbers are given by first appearance: the same one exactly for equal differences,
  pub the_class_of_each_block : (j : ℕ) → j < 2 ^ h → class j ≡ class_of n table h (block table (n - h) j)
  the_class_of_each_block = searches.row_of_all_classes n table h cut

  pub equal_differences_one_class : (j k : ℕ) → j < 2 ^ h → k < 2 ^ h
      → (differences (block table (n - h) j) ≡ differences (block table (n - h) k)) ↔ (class j ≡ class k)
  equal_differences_one_class = searches.same_differences_same_class n table h cut

  -- and a new class the next number; all known ones are tried for it, 0 at the first block.
  pub none_tried_at_the_first_block : tried 0 ≡ 0
  none_tried_at_the_first_block = searches.first_tries_none n table h cut

  pub all_tried_at_a_new_class : (j : ℕ) → j < 2 ^ h → ((before : ℕ) → before < j → ¬ (class before ≡ class j))
      → (class j ≡ known_before lists j) × (tried j ≡ known_before lists j)
  all_tried_at_a_new_class = searches.new_tries_all n table h cut

  -- The class of the block just before is tried first, then the others from class 0 up, the found one included.
  pub the_latest_is_tried_first : (j : ℕ) → suc j < 2 ^ h → class (suc j) ≡ class j → tried (suc j) ≡ 1
  the_latest_is_tried_first = searches.same_tries_one n table h cut

  pub then_those_below_it : (j : ℕ) → suc j < 2 ^ h → class (suc j) < class j → tried (suc j) ≡ class (suc j) + 2
  then_those_below_it = searches.lower_tries n table h cut

  pub then_those_above_it : (j : ℕ) → suc j < 2 ^ h → (before : ℕ) → before < j → class before ≡ class (suc j)
      → class j < class (suc j) → tried (suc j) ≡ class (suc j) + 1
  then_those_above_it = searches.higher_tries n table h cut

-- ==== W-204. Functions of two variables

module _ (m : ℕ) (image : List ℕ) (bytes : AreBytes image) (x y : ℕ) where
  pub pair_run_decided : Decided (pair_run m image x y) (pair_checks m image x y)
  pair_run_decided = decided_pair m image x y bytes

  -- Admitted: what Run answers at Z = 2^m·X + Y, words read included.
  pub pair_run_answers : AllHold (pair_checks m image x y)
      → (pair_run m image x y ≡ run image (2 ^ m * x + y)) × ((r : Result) × (run image (2 ^ m * x + y) ≡ accepted r))
  pair_run_answers = pair_value m image x y bytes

module _ (m : ℕ) (table : List ℤ) (limit : ℕ) (buffer : List ℕ) (r : ImageSummary)
    (compiled : compile_answer (2 * m) table limit (length buffer) ≡ accepted r) where
  -- The compiled image of a table with n = 2m.
  abbrev image : List ℕ
  image = compiled_image r (compile_buffer (2 * m) table limit buffer)

  -- It gives for every pair the entry in row X, column Y, with one word a cell.
  pub every_pair_gives_its_entry : GivesEntries m table image r.planned.cells
  every_pair_gives_its_entry = pairs.compiled_pair m table limit buffer r compiled

  -- Exchanging X and Y in a symmetric table changes nothing.
  pub exchanging_changes_nothing : Symmetric m table → (x y : ℕ) → pair_run m image x y ≡ pair_run m image y x
  exchanging_changes_nothing = pairs.exchange_changes_nothing m table limit buffer r compiled

-- ==== W-205. The cut that stopped it

module _ (n : ℕ) (table : List ℤ) (limit : ℕ) where
  pub reach_decided : Decided (reach_answer n table limit) (reach_checks n table limit)
  reach_decided = decided_reach n table limit

  -- Admitted: the cuts that fitting cells arrive at and the least limit that fits, where Plan succeeds and where it
  -- does not.
  pub reach_answers : AllHold (reach_checks n table limit)
      → (reach n table limit ≡ accepted (reachable n table limit)) × ReachOf n table limit (reachable n table limit)
  reach_answers all = (reach_value n table limit all, reach_of n table limit all)

-- ==== W-206. Weighted sums by their weights

module _ (n : ℕ) (weights : List ℤ) (room : ℕ) where
  pub sum_decided : Decided (plain_sum n weights room) (sum_checks n weights room)
  sum_decided = decided_sum n weights room

  pub remainder_decided : (q : ℕ) → Decided (reduced_sum n weights q room) (remainder_checks n weights q room)
  remainder_decided = decided_remainder n weights room

  -- Admitted: the table of the sums, and the table of their remainders.
  pub sum_answers : AllHold (sum_checks n weights room) → plain_sum n weights room ≡ accepted (sum_table weights)
  sum_answers = sum_value n weights room

  pub remainder_answers : (q : ℕ) → AllHold (remainder_checks n weights q room)
      → reduced_sum n weights q room ≡ accepted (remainder_table q weights)
  remainder_answers = remainder_value n weights room

module _ (n : ℕ) (weights buffer : List ℤ) where
  -- The buffer then holds just that table; after a refusal what it held.
  pub sum_writes : AllHold (sum_checks n weights (length buffer))
      → buffer_after (plain_sum n weights (length buffer)) (λ t. t) buffer ≡ sum_table weights
  sum_writes = sum_filled n weights buffer

  pub sum_leaves : (k : ℕ) → plain_sum n weights (length buffer) ≡ refused k
      → buffer_after (plain_sum n weights (length buffer)) (λ t. t) buffer ≡ buffer
  sum_leaves = sums.refused_sum_leaves n weights buffer

  pub remainder_writes : (q : ℕ) → AllHold (remainder_checks n weights q (length buffer))
      → buffer_after (reduced_sum n weights q (length buffer)) (λ t. t) buffer ≡ remainder_table q weights
  remainder_writes = remainder_filled n weights buffer

  pub remainder_leaves : (q k : ℕ) → reduced_sum n weights q (length buffer) ≡ refused k
      → buffer_after (reduced_sum n weights q (length buffer)) (λ t. t) buffer ≡ buffer
  remainder_leaves q k = sums.refused_remainder_leaves n weights q buffer k

-- For every accepted weight list:
module _ (n : ℕ) (weights : List ℤ) (all : AllHold (weight_checks n weights)) where
  -- at X the sum of the weights whose bits are 1;
  pub sums_at_x : (x : ℕ) → x < 2 ^ n → get_or (sum_table weights) x (pos 0) ≡ sum_at weights x
  sums_at_x = sum_entry n weights all

  -- the diagram of the plain sum has a node count of 1 plus the number of nonzero weights;
  pub a_node_for_each_weight : node_count n (sum_table weights) ≡ 1 + tally is_nonzero weights
  a_node_for_each_weight = sum_nodes_of n weights all

  -- at X the remainder of the sum, from 0 to 2^q - 1;
  pub remainders_at_x : (q x : ℕ) → x < 2 ^ n
      → (get_or (remainder_table q weights) x (pos 0) ≡ pos (remainder_by (2 ^ q) (sum_at weights x)))
      × (remainder_by (2 ^ q) (sum_at weights x) < 2 ^ q)
  remainders_at_x = remainder_entry n weights all

  -- each cut of the remainders' table has at most 2^q classes;
  pub at_most_2_to_the_q_classes : (q h : ℕ) → h ≤ n → class_count n (remainder_table q weights) h ≤ 2 ^ q
  at_most_2_to_the_q_classes = classes_of_remainder n weights all

  -- and address limit q + 1 always fits.
  pub limit_q_plus_1_fits : (q : ℕ) → (sizes : List ℕ) × FittingGrouping n (remainder_table q weights) (q + 1) sizes
  limit_q_plus_1_fits = limit_of_remainder n weights all

-- ==== W-207. How many blocks use a class

module _ (n : ℕ) (table : List ℤ) (h : ℕ) (cut : h ≤ n) where
  -- Beside each block stands how many blocks up to and including it have its class,
  pub the_uses_so_far : (j : ℕ) → j < 2 ^ h → in_row (all_uses n table) h j ≡ uses_at (classes_at n table h) j
  the_uses_so_far = uses.row_of_all_uses n table h cut

  -- for each class how many blocks of the cut have it, 0 past the last class,
  pub the_use_counts : (c : ℕ) → c < 2 ^ h → in_row (all_use_rows n table) h c ≡ use_count (classes_at n table h) c
  the_use_counts = uses.row_of_use_counts n table h cut

  pub none_past_the_last_class : (c : ℕ) → class_count n table h ≤ c → c < 2 ^ h → in_row (all_use_rows n table) h c ≡ 0
  none_past_the_last_class = uses.none_past_the_last n table h cut

  -- and the use counts of a cut sum to 2^h.
  pub the_use_counts_sum : sum_of (use_counts n table h) ≡ 2 ^ h
  the_use_counts_sum = uses.use_counts_sum n table h cut

-- Plan answers for each cell, and Compile with Plan's cells, the commonest class of the cut where the cell ends.
module _ (n : ℕ) (table : List ℤ) (limit : ℕ) (sizes : List ℕ) where
  -- The cut where cell k ends.
  abbrev end_of : ℕ → ℕ
  end_of k = sum_of (take (suc k) sizes)

  -- Cell k, as Plan and as Compile answers it.
  abbrev planned : ℕ → PlanCell
  planned k = get_or (cell_array n table (plan n table limit)) k no_cell

  abbrev compiled : ℕ → ℕ → PlanCell
  compiled room k = get_or (compile_cells n table limit room) k no_cell

  pub plan_answers_the_commonest : plan n table limit ≡ accepted sizes → (k : ℕ) → k < length sizes
      → Commonest n table (end_of k) (planned k).common (planned k).uses
  plan_answers_the_commonest = plan_commonest n table limit sizes

  pub compile_answers_the_commonest : (room : ℕ) → compile n table limit room ≡ accepted sizes → (k : ℕ)
      → k < length sizes → Commonest n table (end_of k) (compiled room k).common (compiled room k).uses
  compile_answers_the_commonest = compile_commonest n table limit sizes
