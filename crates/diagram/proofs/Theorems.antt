-- Demand 2: the records are the reduced diagram, walking them gives the table back, and equal records tell tables apart up
-- to a constant.
-- Least and greatest: what they are, and what Walk's check asks of them.
use Rattle.std.specs.Prelude.{ℕ, suc, ◌-◌, ◌*◌, ◌%◌, ◌^◌, ◌≤◌, ◌<◌, ◌≡◌, ◌↔◌, true, false, List, ◌++◌, map, length, get_or, drop, ℤ, pos, ◌+ℤ◌}
use Rattle.numbers.specs.Answers.{accepted, refused}
use Rattle.numbers.specs.Conditions.{Variables, TableValue, Signed32, Domain, LeastOver, GreatestOver}
use Rattle.blocks.specs.Blocks.{block, differences}
use Rattle.diagram.specs.Accepted.{Accepted, written, node_function}
use Rattle.diagram.specs.Build.{node_room, Summary, summary_of, build_answer, build_buffer, record_part}
use Rattle.diagram.specs.Records.{node, records, record_size, offset}
use Rattle.diagram.specs.Walk.{variable_at, low_at, high_at, weight_at, least_at, greatest_at, edges_fit, path_weight, record_count, list_fits, walk}
use Rattle.diagram.proofs.Laws.Builds as builds
use Rattle.diagram.proofs.Laws.Fits.{written_room}
use Rattle.diagram.proofs.Laws.Lists as lists
use Rattle.diagram.proofs.Laws.Numbering as numbering
use Rattle.diagram.proofs.Laws.Reduced as reduced
use Rattle.diagram.proofs.Laws.SameRecords as same
use Rattle.diagram.proofs.Laws.Steps.{path_zero}
use Rattle.diagram.proofs.Laws.TrueNumbers as extremes
use Rattle.diagram.proofs.Laws.Walks as walks

-- ---- Build: what is accepted, and what its buffer then holds

module _ (n : ℕ) (table : List ℤ) where
  -- Build accepts exactly the accepted tables whose buffer has room for 2^n - 1 records.
  pub build_accepts : (room : ℕ)
      → (Accepted n table × (node_room n ≤ room)) ↔ ((s : Summary) × (build_answer n table room ≡ accepted s))
  build_accepts = builds.build_accepts n table

  -- It then answers the node count and the offset of the table.
  pub build_answers : (room : ℕ) (s : Summary) → build_answer n table room ≡ accepted s → s ≡ summary_of n table
  build_answers = builds.build_summary n table

  -- The records stand in front of its buffer, and nothing behind them is changed.
  pub build_leaves : (buffer : List ℤ) (s : Summary) → build_answer n table (length buffer) ≡ accepted s
      → build_buffer n table buffer ≡ written n table ++ drop (record_size * (s.nodes - 1)) buffer
  build_leaves = builds.build_left n table

  -- So the records' part holds the records.
  pub build_gives_records : (buffer : List ℤ) (s : Summary) → build_answer n table (length buffer) ≡ accepted s
      → record_part s.nodes (build_buffer n table buffer) ≡ written n table
  build_gives_records = builds.build_records n table

  -- A refused Build leaves its buffer unchanged.
  pub refused_build_leaves : (buffer : List ℤ) (k : ℕ) → build_answer n table (length buffer) ≡ refused k
      → build_buffer n table buffer ≡ buffer
  refused_build_leaves = builds.refused_kept n table

-- ---- walking gives the table back

-- A list that fails its check is refused for that at every X, one past the table too.
pub list_before_x : (n : ℕ) (start : ℤ) (list : List ℤ) → Variables n → TableValue start → list_fits n list ≡ false
    → (x : ℕ) → walk n start list x ≡ refused 6
list_before_x = lists.list_before_x

module _ (n : ℕ) (table : List ℤ) where
  -- The records of an accepted table pass it.
  pub records_pass : Accepted n table → list_fits n (written n table) ≡ true
  records_pass = walks.records_pass n table

  -- Walking them gives f(X) at every X below 2^n.
  pub walk_gives_table : Accepted n table
      → (x : ℕ) → x < 2 ^ n → walk n (offset table) (written n table) x ≡ accepted (get_or table x (pos 0))
  walk_gives_table = walks.walk_records n table

  -- Walking what Build left in any buffer, with the offset that it answered, gives f(X) too.
  pub walk_after_build : (buffer : List ℤ) (s : Summary) → build_answer n table (length buffer) ≡ accepted s
      → (x : ℕ) → x < 2 ^ n
      → walk n s.table_offset (record_part s.nodes (build_buffer n table buffer)) x ≡ accepted (get_or table x (pos 0))
  walk_after_build = walks.walk_after_build n table

-- ---- equal records

-- The second table is the first with one constant added to every value.
abbrev ByAConstant : List ℤ → List ℤ → Type 0
ByAConstant f g = (c : ℤ) × (g ≡ map (λ v. v +ℤ c) f)

-- Two accepted tables of one n have equal records exactly when they differ by one constant.
pub equal_records : (n : ℕ) (f g : List ℤ) → Accepted n f → Accepted n g
    → (records n f ≡ records n g) ↔ ByAConstant f g
equal_records = same.equal_records

module _ (n : ℕ) (f g buffer buffer' : List ℤ) (s t : Summary)
    (built_f : build_answer n f (length buffer) ≡ accepted s)
    (built_g : build_answer n g (length buffer') ≡ accepted t) where
  -- What Build left in the records' parts of two buffers is equal exactly when the tables differ by one constant.
  pub equal_builds : (record_part s.nodes (build_buffer n f buffer) ≡ record_part t.nodes (build_buffer n g buffer'))
      ↔ ByAConstant f g
  equal_builds = same.equal_builds n f g buffer buffer' s t built_f built_g

  -- Then the node counts are equal.
  pub equal_counts : ByAConstant f g → s.nodes ≡ t.nodes
  equal_counts = same.equal_counts n f g buffer buffer' s t built_f built_g

-- ---- the records are the reduced diagram

module _ (n : ℕ) (table : List ℤ) (admitted : Accepted n table) where
  -- The root, the node of the whole table, is the last record, or node 0 where there is none.
  pub root_is_last : node n table n table ≡ length (records n table)
  root_is_last = reduced.root_is_last n table admitted.size

  -- The differences of block j of height i as a function of X, whose low i bits say which.
  abbrev difference_at : ℕ → ℕ → ℕ → ℤ
  difference_at i j x = get_or (differences (block table i j)) (x % 2 ^ i) (pos 0)

  -- The node of block j of height i stands for the block's differences.
  pub each_block_has_node : (i j : ℕ) → i ≤ n → j < 2 ^ (n - i)
      → (x : ℕ) → node_function n table (node n table i (block table i j)) x ≡ difference_at i j x
  each_block_has_node = reduced.block_differences n table admitted.size

  -- Each record stands for some block: a record of variable i for the differences of a block of height i + 1.
  pub each_record_has_block : (k : ℕ) → 1 ≤ k → k ≤ length (records n table)
      → (i : ℕ) × (j : ℕ) × (i < n) × (j < 2 ^ (n - suc i)) × (variable_at (written n table) k ≡ pos i)
      × ((x : ℕ) → node_function n table k x ≡ difference_at (suc i) j x)
  each_record_has_block = reduced.record_has_block n table admitted.size

  -- No record has equal children and weight 0.
  pub no_redundant_record : (k : ℕ) → 1 ≤ k → k ≤ length (records n table)
      → ¬ ((low_at (written n table) k ≡ high_at (written n table) k) × (weight_at (written n table) k ≡ pos 0))
  no_redundant_record = reduced.no_redundant_record n table admitted.size

  -- No two nodes, records or the terminal, stand for one function.
  pub no_two_nodes_alike : (j k : ℕ) → j ≤ length (records n table) → k ≤ length (records n table)
      → ((x : ℕ) → x < 2 ^ n → node_function n table j x ≡ node_function n table k x)
      → j ≡ k
  no_two_nodes_alike = reduced.one_function_one_node n table admitted.size

-- ---- least and greatest

-- A node's function is 0 where all bits are 0, in any list.
pub zero_at_zero : (n : ℕ) (list : List ℤ) (k : ℕ) → path_weight list n k 0 ≡ pos 0
zero_at_zero n list k = path_zero list n k

-- In a list that passes Walk's check, the fifth number of a record is the least value of its function, and the sixth
-- the greatest.
pub least_of_record : (n : ℕ) (list : List ℤ) → list_fits n list ≡ true → (k : ℕ) → 1 ≤ k → k ≤ record_count list
    → LeastOver (Domain n) (path_weight list n k) (least_at list k)
least_of_record = extremes.least_of_record

pub greatest_of_record : (n : ℕ) (list : List ℤ) → list_fits n list ≡ true → (k : ℕ) → 1 ≤ k → k ≤ record_count list
    → GreatestOver (Domain n) (path_weight list n k) (greatest_at list k)
greatest_of_record = extremes.greatest_of_record

-- So it is in what Build writes: what passes is written, and read by the same names.
pub build_least : (n : ℕ) (table : List ℤ) → Accepted n table → (k : ℕ) → 1 ≤ k → k ≤ length (records n table)
    → LeastOver (Domain n) (node_function n table k) (least_at (written n table) k)
build_least = extremes.build_least

pub build_greatest : (n : ℕ) (table : List ℤ) → Accepted n table → (k : ℕ) → 1 ≤ k → k ≤ length (records n table)
    → GreatestOver (Domain n) (node_function n table k) (greatest_at (written n table) k)
build_greatest = extremes.build_greatest

-- A list some record of which has a fifth number that is not the least of its function is refused with 6, also at an X
-- past the table; likewise with a sixth number that is not the greatest.
module _ (n : ℕ) (start : ℤ) (list : List ℤ) (variables : Variables n) (value : TableValue start) where
  pub untrue_least_refused : (k : ℕ) → 1 ≤ k → k ≤ record_count list
      → ¬ LeastOver (Domain n) (path_weight list n k) (least_at list k)
      → (x : ℕ) → walk n start list x ≡ refused 6
  untrue_least_refused = extremes.untrue_least_refused n start list variables value

  pub untrue_greatest_refused : (k : ℕ) → 1 ≤ k → k ≤ record_count list
      → ¬ GreatestOver (Domain n) (path_weight list n k) (greatest_at list k)
      → (x : ℕ) → walk n start list x ≡ refused 6
  untrue_greatest_refused = extremes.untrue_greatest_refused n start list variables value

-- The fifth number of record k is the least value of its function, and the sixth the greatest.
abbrev TrueNumbers : ℕ → List ℤ → ℕ → Type 0
TrueNumbers n list k =
    LeastOver (Domain n) (path_weight list n k) (least_at list k)
    × GreatestOver (Domain n) (path_weight list n k) (greatest_at list k)

module _ (n : ℕ) (list : List ℤ) (edges : (k : ℕ) → 1 ≤ k → k ≤ record_count list → edges_fit n list k ≡ true) where
  -- A list of fitting edges, reduced or not and with unused records or not, passes with true numbers.
  pub true_numbers_pass : length list % record_size ≡ 0 → length list ≤ node_room n
      → ((k : ℕ) → 1 ≤ k → k ≤ record_count list → TrueNumbers n list k)
      → list_fits n list ≡ true
  true_numbers_pass = extremes.true_numbers_pass n list edges

  -- And these fit 32 bits, on a path of twelve extreme weights too.
  pub true_least_fits : n ≤ 12 → (k : ℕ) → k ≤ record_count list
      → (z : ℤ) → LeastOver (Domain n) (path_weight list n k) z → Signed32 z
  true_least_fits = extremes.true_least_fits n list edges

  pub true_greatest_fits : n ≤ 12 → (k : ℕ) → k ≤ record_count list
      → (z : ℤ) → GreatestOver (Domain n) (path_weight list n k) z → Signed32 z
  true_greatest_fits = extremes.true_greatest_fits n list edges

-- ---- how many records there are

-- At most 2^n - 1, for every table.
pub records_at_most : (n : ℕ) (table : List ℤ) → length (records n table) ≤ 2 ^ n - 1
records_at_most = numbering.records_at_most

-- So a buffer that Build admits has room for them.
pub buffer_has_room : (n : ℕ) (table : List ℤ) → length (written n table) ≤ node_room n
buffer_has_room = written_room
