-- Weighted sums (W-206): what the sum at X and its remainder are; of every accepted weight list the table of the sums and
-- its diagram, the table of the remainders, its cuts and the limit that fits it; then which calls Sum and Remainder
-- answer, and what turns the others away.
use Rattle.std.specs.Prelude.{ℕ, suc, ◌+◌, ◌^◌, ◌≤◌, ◌<◌, ◌≡◌, ◌↔◌, ◌⊎◌, true, List, length, get_or, ℤ, pos, ◌+ℤ◌, ◌*ℤ◌}
use Rattle.std.specs.Int.Signed.{mag}
use Rattle.numbers.specs.Answers.{accepted, refused, buffer_after}
use Rattle.numbers.specs.Conditions.{Variables, Limit, TableValue, Domain, LeastOver, GreatestOver}
use Rattle.numbers.specs.Lists.{tally}
use Rattle.blocks.specs.Classes.{class_count}
use Rattle.diagram.specs.Accepted.{Accepted}
use Rattle.diagram.specs.Build.{node_room, build_answer}
use Rattle.diagram.specs.Records.{node_count}
use Rattle.cascade.specs.Groupings.{fits, is_grouping}
use Rattle.cascade.specs.Plan.{plan}
use Rattle.sums.specs.Sums.{sum_at, sum_table, is_nonzero, least_sum, greatest_sum, remainder_by, remainder_table, RemainderBits, Weighted, plain_sum, reduced_sum}
use Rattle.sums.proofs.Laws.Answers.{buffer_kept}
use Rattle.sums.proofs.Laws.Diagrams.{sum_nodes}
use Rattle.sums.proofs.Laws.Extremes.{least_over_sums, greatest_over_sums}
use Rattle.sums.proofs.Laws.PlainSum as plain
use Rattle.sums.proofs.Laws.ReducedSum as reduced
use Rattle.sums.proofs.Laws.Remainders as remainders
use Rattle.sums.proofs.Laws.Split.{sum_at_0, sum_with_bit}
use Rattle.sums.proofs.Laws.Summable as summable

-- ---- the sum at X

-- Where no bit is 1 it is 0.
pub no_bits : (weights : List ℤ) → sum_at weights 0 ≡ pos 0
no_bits = sum_at_0

-- A bit j above all bits of X adds weight j.
pub one_bit_more : (weights : List ℤ) (j x : ℕ) → j < length weights → x < 2 ^ j
    → sum_at weights (2 ^ j + x) ≡ sum_at weights x +ℤ get_or weights j (pos 0)
one_bit_more = sum_with_bit

-- The least of all sums is that of the negative weights, the greatest that of the positive ones.
pub least_sum_lem : (weights : List ℤ) → LeastOver (Domain (length weights)) (sum_at weights) (least_sum weights)
least_sum_lem = least_over_sums

pub greatest_sum_lem : (weights : List ℤ) → GreatestOver (Domain (length weights)) (sum_at weights) (greatest_sum weights)
greatest_sum_lem = greatest_over_sums

-- Every sum of an accepted list fits 32 bits.
pub sums_fit : (n : ℕ) (weights : List ℤ) → Weighted n weights → (x : ℕ) → mag (sum_at weights x) < 2 ^ 31
sums_fit = summable.sums_fit

-- ---- the remainder

-- It is the one number from 0 to m - 1 that differs from the integer by a multiple of m.
pub remainder_exactly : (m : ℕ) (z : ℤ) (r : ℕ) → 0 < m
    → ((r < m) × ((k : ℤ) × (z ≡ pos r +ℤ k *ℤ pos m))) ↔ (remainder_by m z ≡ r)
remainder_exactly = remainders.remainder_exactly

-- ---- the table of the sums

-- The diagram of a plain sum has a node for each weight that is not 0, and the terminal; so it is too where a sum is out
-- of range.
pub node_count_by_weights : (weights : List ℤ)
    → node_count (length weights) (sum_table weights) ≡ suc (tally is_nonzero weights)
node_count_by_weights = sum_nodes

module _ (n : ℕ) (weights : List ℤ) (list : Weighted n weights) where
  -- At every X it has the sum of the weights whose bits are 1.
  pub sum_values : (x : ℕ) → x < 2 ^ n → get_or (sum_table weights) x (pos 0) ≡ sum_at weights x
  sum_values = plain.sum_values n weights list

  -- Its node count is 1 plus the number of nonzero weights.
  pub sum_node_count : node_count n (sum_table weights) ≡ suc (tally is_nonzero weights)
  sum_node_count = plain.sum_node_count n weights list

  module _ (in_range : (x : ℕ) → x < 2 ^ n → TableValue (sum_at weights x)) where
    -- Where every sum is a value, it is a table that every operation accepts.
    pub sum_is_accepted : Accepted n (sum_table weights)
    sum_is_accepted = plain.sum_is_accepted n weights list in_range

    -- So Build answers that count, and the offset 0.
    pub build_of_sum : (places : ℕ) → node_room n ≤ places
        → build_answer n (sum_table weights) places
        ≡ accepted (record { nodes = suc (tally is_nonzero weights); table_offset = pos 0 })
    build_of_sum = plain.build_of_sum n weights list in_range

-- ---- the table of the remainders

module _ (n : ℕ) (weights : List ℤ) (q : ℕ) (list : Weighted n weights) (some : 1 ≤ q) (most : q ≤ 11) where
  -- The sum reduced.
  abbrev table : List ℤ
  table = remainder_table q weights

  -- At every X it has the remainder by 2^q of the sum, from 0 to 2^q - 1.
  pub remainder_values : (x : ℕ) → x < 2 ^ n
      → (get_or table x (pos 0) ≡ pos (remainder_by (2 ^ q) (sum_at weights x)))
      × (remainder_by (2 ^ q) (sum_at weights x) < 2 ^ q)
  remainder_values = reduced.remainder_values n weights q list some most

  -- It is a table that every operation accepts, whether or not every sum is a value.
  pub remainder_is_accepted : Accepted n table
  remainder_is_accepted = reduced.remainder_is_accepted n weights q list some most

  -- Each of its cuts has at most 2^q classes.
  pub remainder_classes : (h : ℕ) → h ≤ n → class_count n table h ≤ 2 ^ q
  remainder_classes = reduced.remainder_classes n weights q list some most

  -- The address limit q + 1 can be given, and some grouping fits it.
  pub limit_admitted : Limit (q + 1)
  limit_admitted = reduced.limit_admitted n weights q list some most

  pub limit_fits : (sizes : List ℕ) × (is_grouping n sizes ≡ true) × (fits n table (q + 1) sizes ≡ true)
  limit_fits = reduced.limit_fits n weights q list some most

  -- So Plan answers a grouping for it, and for every greater limit that can be given; 9 it never answers there.
  pub plan_with_limit : (limit : ℕ) → q + 1 ≤ limit → Limit limit
      → (sizes : List ℕ) × (plan n table limit ≡ accepted sizes)
  plan_with_limit = reduced.plan_with_limit n weights q list some most

  pub never_nine : (limit : ℕ) → q + 1 ≤ limit → ¬ (plan n table limit ≡ refused 9)
  never_nine = reduced.never_nine n weights q list some most

-- ---- Sum: which calls are refused, and which answered

module _ (n : ℕ) (weights : List ℤ) (room : ℕ) where
  -- Every sum is a value.
  abbrev InRange : Type 0
  InRange = (x : ℕ) → x < 2 ^ n → TableValue (sum_at weights x)

  -- 1, 2 and 3, each exactly where the checks before it pass and its own fails; 2 has two places, and the buffer's comes
  -- last.
  pub sum_one : (¬ Variables n) ↔ (plain_sum n weights room ≡ refused 1)
  sum_one = plain.sum_one n weights room

  pub sum_two :
      ((Variables n × ¬ (length weights ≡ n)) ⊎ (Weighted n weights × InRange × ¬ (room ≡ 2 ^ n)))
      ↔ (plain_sum n weights room ≡ refused 2)
  sum_two = plain.sum_two n weights room

  pub sum_three :
      (Variables n × (length weights ≡ n) × ((j : ℕ) × (j < n) × ¬ TableValue (get_or weights j (pos 0))))
      ↔ (plain_sum n weights room ≡ refused 3)
  sum_three = plain.sum_three n weights room

  -- 18 exactly where the list is accepted and some sum is out of the values' range, whatever the buffer's length; the
  -- least and the greatest decide it.
  pub sum_eighteen : (Weighted n weights × ((x : ℕ) × (x < 2 ^ n) × ¬ TableValue (sum_at weights x)))
      ↔ (plain_sum n weights room ≡ refused 18)
  sum_eighteen = plain.sum_eighteen n weights room

  pub eighteen_by_extremes :
      (Weighted n weights × ¬ (TableValue (least_sum weights) × TableValue (greatest_sum weights)))
      ↔ (plain_sum n weights room ≡ refused 18)
  eighteen_by_extremes = plain.eighteen_by_extremes n weights room

  -- The others are answered: an accepted list, every sum a value, and room for 2^n numbers.
  pub sum_accepts : (Weighted n weights × InRange × (room ≡ 2 ^ n))
      ↔ ((table : List ℤ) × (plain_sum n weights room ≡ accepted table))
  sum_accepts = plain.sum_accepts n weights room

  -- What is answered is the table of the sums.
  pub sum_answers : (table : List ℤ) → plain_sum n weights room ≡ accepted table → table ≡ sum_table weights
  sum_answers = plain.sum_answers n weights room

-- The buffer then holds just that table.
pub sum_fills : (n : ℕ) (weights buffer table : List ℤ) → plain_sum n weights (length buffer) ≡ accepted table
    → buffer_after (plain_sum n weights (length buffer)) (λ t. t) buffer ≡ table
sum_fills = plain.sum_fills

-- A refused call leaves the buffer as it was.
pub refused_sum_leaves : (n : ℕ) (weights buffer : List ℤ) (k : ℕ) → plain_sum n weights (length buffer) ≡ refused k
    → buffer_after (plain_sum n weights (length buffer)) (λ t. t) buffer ≡ buffer
refused_sum_leaves n weights buffer k e = buffer_kept (plain_sum n weights (length buffer)) k buffer e

-- ---- Remainder: which calls are refused, and which answered

module _ (n : ℕ) (weights : List ℤ) (q room : ℕ) where
  -- 1, 2 and 3 as by Sum.
  pub remainder_one : (¬ Variables n) ↔ (reduced_sum n weights q room ≡ refused 1)
  remainder_one = reduced.remainder_one n weights q room

  pub remainder_two :
      ((Variables n × ¬ (length weights ≡ n)) ⊎ (Weighted n weights × RemainderBits q × ¬ (room ≡ 2 ^ n)))
      ↔ (reduced_sum n weights q room ≡ refused 2)
  remainder_two = reduced.remainder_two n weights q room

  pub remainder_three :
      (Variables n × (length weights ≡ n) × ((j : ℕ) × (j < n) × ¬ TableValue (get_or weights j (pos 0))))
      ↔ (reduced_sum n weights q room ≡ refused 3)
  remainder_three = reduced.remainder_three n weights q room

  -- 19 exactly where the list is accepted and q is outside 1..11, whatever the buffer's length.
  pub remainder_nineteen : (Weighted n weights × ¬ RemainderBits q) ↔ (reduced_sum n weights q room ≡ refused 19)
  remainder_nineteen = reduced.remainder_nineteen n weights q room

  -- The others are answered: an accepted list, q from 1 to 11, and room for 2^n numbers. Sums out of the values' range
  -- turn none away.
  pub remainder_accepts : (Weighted n weights × RemainderBits q × (room ≡ 2 ^ n))
      ↔ ((table : List ℤ) × (reduced_sum n weights q room ≡ accepted table))
  remainder_accepts = reduced.remainder_accepts n weights q room

  -- What is answered is the table of the remainders.
  pub remainder_answers : (table : List ℤ) → reduced_sum n weights q room ≡ accepted table
      → table ≡ remainder_table q weights
  remainder_answers = reduced.remainder_answers n weights q room

-- The buffer then holds just that table.
pub remainder_fills : (n : ℕ) (weights : List ℤ) (q : ℕ) (buffer table : List ℤ)
    → reduced_sum n weights q (length buffer) ≡ accepted table
    → buffer_after (reduced_sum n weights q (length buffer)) (λ t. t) buffer ≡ table
remainder_fills = reduced.remainder_fills

-- A refused call leaves the buffer as it was.
pub refused_remainder_leaves : (n : ℕ) (weights : List ℤ) (q : ℕ) (buffer : List ℤ) (k : ℕ)
    → reduced_sum n weights q (length buffer) ≡ refused k
    → buffer_after (reduced_sum n weights q (length buffer)) (λ t. t) buffer ≡ buffer
refused_remainder_leaves n weights q buffer k e = buffer_kept (reduced_sum n weights q (length buffer)) k buffer e
