-- Sum and Remainder go by their checks, and what they answer and leave.
use Rattle.std.specs.Prelude.{ℕ, suc, ◌+◌, ◌^◌, ◌≤◌, ◌<◌, ◌≡◌, ◌↔◌, true, List, ◌++◌, length, get_or, ℤ, pos, leb, eqb}
use Rattle.std.proofs.Common.{sym, ◌∙◌, ap, subst, arith, pow_pos}
use Rattle.numbers.specs.Answers.{Answer, accepted, buffer_after}
use Rattle.numbers.specs.Conditions.{TableValue}
use Rattle.numbers.specs.Lists.{every, tally}
use Rattle.numbers.specs.Ranges.{is_variables, is_value}
use Rattle.numbers.proofs.Laws.Tests.{le_test, eq_test, and_test, variables_test, value_test, every_test}
use Rattle.blocks.specs.Classes.{class_count}
use Rattle.diagram.specs.Records.{node_count}
use Rattle.reach.specs.Reach.{is_reached}
use Rattle.reach.proofs.Laws.Reached.{reached_arriving}
use Rattle.sums.specs.Sums.{sum_at, sum_table, is_nonzero, remainder_by, remainder_table, is_remainder_bits, of_weights, into_room, plain_sum, reduced_sum}
use Rattle.sums.proofs.Laws.Answers.{buffer_whole}
use Rattle.sums.proofs.Laws.Classes.{remainders_length, remainders_at, few_classes, bottom_reached}
use Rattle.sums.proofs.Laws.Diagrams.{sum_nodes}
use Rattle.sums.proofs.Laws.Remainders.{remainder_below}
use Rattle.sums.proofs.Laws.Split.{table_length, table_at}
use Rattle.demands.specs.Checks.{Check, AllHold, Decided}
use Rattle.demands.specs.Admitted.{FittingGrouping}
use Rattle.demands.specs.Requested.{weight_checks, room_check, sum_checks, remainder_checks}
use Rattle.demands.proofs.Laws.Checks.{decided_accepted, decided_unless, answers_value, unless_only, accepted_only}
use Rattle.demands.proofs.Laws.Cascade.{fitting_tests}

-- The checks on a weight list, and what follows them.
decided_weights : {A : Type 0} (n : ℕ) (weights : List ℤ) {rest : Answer A} {checks : List Check} → Decided rest checks → Decided (of_weights n weights rest) (weight_checks n weights ++ checks)
unfolding of_weights weight_checks
decided_weights n weights d =
    decided_unless (is_variables n) (variables_test n)
    (decided_unless (eqb (length weights) n) (eq_test (length weights) n)
    (decided_unless (every is_value weights) (every_test is_value weights (pos 0) value_test)
    d))

-- The table's buffer, last.
decided_room : (n room : ℕ) (table : List ℤ) → Decided (into_room n room table) (room_check n room)
unfolding into_room room_check
decided_room n room table = decided_unless (eqb room (2 ^ n)) (eq_test room (2 ^ n)) (decided_accepted table)

-- Every sum is a value.
sums_test : (weights : List ℤ) → (every is_value (sum_table weights) ≡ true) ↔ ((x : ℕ) → x < 2 ^ length weights → TableValue (sum_at weights x))
sums_test weights = let all = every_test is_value (sum_table weights) (pos 0) value_test in (
  (λ h x l. subst TableValue (table_at weights x l) (all.0 h x (rw (table_length weights) l))),
  (λ h. all.1 (λ x l. let inside : x < 2 ^ length weights = rw (table_length weights) at l in subst TableValue (sym (table_at weights x inside)) (h x inside))),
)

bits_test : (q : ℕ) → (is_remainder_bits q ≡ true) ↔ ((1 ≤ q) × (q ≤ 11))
unfolding is_remainder_bits
bits_test q = and_test (leb 1 q) (leb q 11) (le_test 1 q) (le_test q 11)

module _ (n : ℕ) (weights : List ℤ) (room : ℕ) where
  pub decided_sum : Decided (plain_sum n weights room) (sum_checks n weights room)
  unfolding plain_sum sum_checks
  decided_sum = decided_weights n weights (decided_unless (every is_value (sum_table weights)) (sums_test weights) (decided_room n room (sum_table weights)))

  pub sum_value : AllHold (sum_checks n weights room) → plain_sum n weights room ≡ accepted (sum_table weights)
  unfolding plain_sum of_weights into_room
  sum_value =
      answers_value decided_sum (sum_table weights)
      (unless_only (is_variables n) 1 (unless_only (eqb (length weights) n) 2 (unless_only (every is_value weights) 3
      (unless_only (every is_value (sum_table weights)) 18 (unless_only (eqb room (2 ^ n)) 2 (accepted_only (sum_table weights)))))))

  module _ (q : ℕ) where
    pub decided_remainder : Decided (reduced_sum n weights q room) (remainder_checks n weights q room)
    unfolding reduced_sum remainder_checks
    decided_remainder = decided_weights n weights (decided_unless (is_remainder_bits q) (bits_test q) (decided_room n room (remainder_table q weights)))

    pub remainder_value : AllHold (remainder_checks n weights q room) → reduced_sum n weights q room ≡ accepted (remainder_table q weights)
    unfolding reduced_sum of_weights into_room
    remainder_value =
        answers_value decided_remainder (remainder_table q weights)
        (unless_only (is_variables n) 1 (unless_only (eqb (length weights) n) 2 (unless_only (every is_value weights) 3
        (unless_only (is_remainder_bits q) 19 (unless_only (eqb room (2 ^ n)) 2 (accepted_only (remainder_table q weights)))))))

-- ---- what is left in the buffer

module _ (n : ℕ) (weights buffer : List ℤ) where
  -- A table of the list's size fills a buffer of 2^n numbers.
  fills : (answer : Answer (List ℤ)) (table : List ℤ) → answer ≡ accepted table → length weights ≡ n → length table ≡ 2 ^ length weights → length buffer ≡ 2 ^ n → buffer_after answer (λ t. t) buffer ≡ table
  fills answer table e size long room = buffer_whole answer table buffer e (long ∙ ap (λ k. 2 ^ k) size ∙ sym room)

  pub sum_filled : AllHold (sum_checks n weights (length buffer)) → buffer_after (plain_sum n weights (length buffer)) (λ t. t) buffer ≡ sum_table weights
  unfolding sum_checks weight_checks room_check AllHold
  sum_filled all = fills (plain_sum n weights (length buffer)) (sum_table weights) (sum_value n weights (length buffer) all) all.1.0 (table_length weights) all.1.1.1.1.0

  pub remainder_filled : (q : ℕ) → AllHold (remainder_checks n weights q (length buffer)) → buffer_after (reduced_sum n weights q (length buffer)) (λ t. t) buffer ≡ remainder_table q weights
  unfolding remainder_checks weight_checks room_check AllHold
  remainder_filled q all = fills (reduced_sum n weights q (length buffer)) (remainder_table q weights) (remainder_value n weights (length buffer) q all) all.1.0 (remainders_length q weights) all.1.1.1.1.0

-- ---- every accepted weight list

module _ (n : ℕ) (weights : List ℤ) (all : AllHold (weight_checks n weights)) where
  size : length weights ≡ n
  unfolding weight_checks AllHold
  size = all.1.0

  pub sum_entry : (x : ℕ) → x < 2 ^ n → get_or (sum_table weights) x (pos 0) ≡ sum_at weights x
  sum_entry x l = table_at weights x (rw size l)

  pub sum_nodes_of : node_count n (sum_table weights) ≡ 1 + tally is_nonzero weights
  sum_nodes_of = ap (λ k. node_count k (sum_table weights)) (sym size) ∙ sum_nodes weights ∙ (let t = tally is_nonzero weights in let e : suc t ≡ 1 + t = omega arith in e)

  module _ (q : ℕ) where
    pub remainder_entry : (x : ℕ) → x < 2 ^ n → (get_or (remainder_table q weights) x (pos 0) ≡ pos (remainder_by (2 ^ q) (sum_at weights x))) × (remainder_by (2 ^ q) (sum_at weights x) < 2 ^ q)
    remainder_entry x l = (remainders_at q weights x (rw size l), remainder_below (2 ^ q) (pow_pos q) (sum_at weights x))

    pub classes_of_remainder : (h : ℕ) → h ≤ n → class_count n (remainder_table q weights) h ≤ 2 ^ q
    classes_of_remainder h cut = subst (λ k. class_count k (remainder_table q weights) h ≤ 2 ^ q) size (few_classes q weights h (rw size cut))

    pub limit_of_remainder : (sizes : List ℕ) × FittingGrouping n (remainder_table q weights) (q + 1) sizes
    limit_of_remainder =
        let reached = subst (λ k. is_reached k (remainder_table q weights) (q + 1) k ≡ true) size (bottom_reached q weights (q + 1) (omega arith)) in
        let a = (reached_arriving n (remainder_table q weights) (q + 1) n).0 reached in
        (a.0, (fitting_tests n (remainder_table q weights) (q + 1) a.0).1 (a.1, a.2))
