-- Sum: which calls are refused and which answered, and the table of the sums of an accepted weight list.
use Rattle.std.specs.Prelude.{ℕ, suc, ◌^◌, ◌≤◌, ◌<◌, ◌≡◌, ◌↔◌, ◌⊎◌, true, List, length, get_or, ℤ, pos}
use Rattle.std.proofs.Common.{sym, ◌∙◌, ap, subst, pow_pos}
use Rattle.std.proofs.Math.Path.{ap₂}
use native.Mathlib.Omega.{arith}
use Rattle.numbers.specs.Answers.{accepted, refused, buffer_after}
use Rattle.numbers.specs.Conditions.{Variables, TableValue}
use Rattle.numbers.specs.Lists.{every, tally}
use Rattle.numbers.specs.Ranges.{is_value}
use Rattle.numbers.proofs.Laws.Tests.{and_test, variables_test, value_test, fails, all_pass, some_fails}
use Rattle.blocks.specs.Blocks.{first}
use Rattle.diagram.specs.Accepted.{Accepted}
use Rattle.diagram.specs.Build.{node_room, build_answer}
use Rattle.diagram.specs.Records.{offset, node_count}
use Rattle.diagram.proofs.Laws.Builds.{build_answered}
use Rattle.sums.specs.Sums.{sum_at, sum_table, is_nonzero, least_sum, greatest_sum, Weighted, plain_sum}
use Rattle.sums.proofs.Laws.Answers.{WeightOut, answer_tells, answered_exactly, refused_one, refused_two, refused_three, refused_own, buffer_whole}
use Rattle.sums.proofs.Laws.Diagrams.{sum_nodes}
use Rattle.sums.proofs.Laws.Extremes.{values_by_extremes}
use Rattle.sums.proofs.Laws.Split.{sum_at_0, table_length, table_at}

-- ---- the table of the sums

module _ (n : ℕ) (weights : List ℤ) (w : Weighted n weights) where
  pub sums_length : length (sum_table weights) ≡ 2 ^ n
  sums_length = table_length weights ∙ ap (λ k. 2 ^ k) w.size

  pub sum_values : (x : ℕ) → x < 2 ^ n → get_or (sum_table weights) x (pos 0) ≡ sum_at weights x
  sum_values x l = table_at weights x (rw w.size l)

  pub sum_node_count : node_count n (sum_table weights) ≡ suc (tally is_nonzero weights)
  sum_node_count = ap (λ k. node_count k (sum_table weights)) (sym w.size) ∙ sum_nodes weights

  -- Every sum is a value, as a test over the table and at every X.
  pub values_test : (every is_value (sum_table weights) ≡ true) ↔ ((x : ℕ) → x < 2 ^ n → TableValue (sum_at weights x))
  values_test =
      let all = all_pass {P = TableValue} is_value (pos 0) value_test (sum_table weights) (2 ^ n) sums_length in (
        (λ h x l. subst TableValue (sum_values x l) (all.0 h x l)),
        (λ h. all.1 (λ x l. subst TableValue (sym (sum_values x l)) (h x l))),
      )

  -- The least and the greatest sum decide it.
  extremes_test : (every is_value (sum_table weights) ≡ true) ↔ (TableValue (least_sum weights) × TableValue (greatest_sum weights))
  extremes_test =
      let two = and_test (is_value (least_sum weights)) (is_value (greatest_sum weights)) (value_test (least_sum weights)) (value_test (greatest_sum weights)) in
      let same = values_by_extremes weights in
      ((λ h. two.0 (sym same ∙ h)), (λ p. same ∙ two.1 p))

  some_sum_out : ¬ ((x : ℕ) → x < 2 ^ n → TableValue (sum_at weights x)) → (x : ℕ) × (x < 2 ^ n) × (¬ TableValue (sum_at weights x))
  some_sum_out out =
      let some = (some_fails {P = TableValue} is_value (pos 0) value_test (sum_table weights) (2 ^ n) sums_length).0 ((fails (every is_value (sum_table weights)) values_test).1 out) in
      (some.0, some.1, λ v. some.2 (subst TableValue (sym (sum_values some.0 some.1)) v))

  module _ (all : (x : ℕ) → x < 2 ^ n → TableValue (sum_at weights x)) where
    pub sum_is_accepted : Accepted n (sum_table weights)
    sum_is_accepted = record { variables = (variables_test n).1 w.variables; size = sums_length; values = values_test.1 all }

    pub build_of_sum : (places : ℕ) → node_room n ≤ places → build_answer n (sum_table weights) places ≡ accepted (record { nodes = suc (tally is_nonzero weights); table_offset = pos 0 })
    unfolding offset first
    build_of_sum places enough =
        build_answered n (sum_table weights) places sum_is_accepted enough
        ∙ ap₂ (λ c o. accepted (record { nodes = c; table_offset = o })) sum_node_count (sum_values 0 (pow_pos n) ∙ sum_at_0 weights)

-- ---- which calls are refused, and which answered

module _ (n : ℕ) (weights : List ℤ) (room : ℕ) where
  -- Every sum is a value.
  abbrev Fitting : Type 0
  Fitting = (x : ℕ) → x < 2 ^ n → TableValue (sum_at weights x)

  pub sum_one : (¬ Variables n) ↔ (plain_sum n weights room ≡ refused 1)
  unfolding plain_sum
  sum_one = refused_one n weights (every is_value (sum_table weights)) 18 room (sum_table weights) (values_test n weights) (omega arith, (omega arith, omega arith))

  pub sum_two : ((Variables n × (¬ (length weights ≡ n))) ⊎ (Weighted n weights × Fitting × (¬ (room ≡ 2 ^ n)))) ↔ (plain_sum n weights room ≡ refused 2)
  unfolding plain_sum
  sum_two = refused_two n weights (every is_value (sum_table weights)) 18 room (sum_table weights) (values_test n weights) (omega arith, (omega arith, omega arith))

  pub sum_three : (Variables n × (length weights ≡ n) × WeightOut n weights) ↔ (plain_sum n weights room ≡ refused 3)
  unfolding plain_sum
  sum_three = refused_three n weights (every is_value (sum_table weights)) 18 room (sum_table weights) (values_test n weights) (omega arith, (omega arith, omega arith))

  pub sum_eighteen : (Weighted n weights × ((x : ℕ) × (x < 2 ^ n) × (¬ TableValue (sum_at weights x)))) ↔ (plain_sum n weights room ≡ refused 18)
  unfolding plain_sum
  sum_eighteen =
      let own = refused_own n weights (every is_value (sum_table weights)) 18 room (sum_table weights) (values_test n weights) (omega arith, (omega arith, omega arith)) in (
        (λ p. own.0 (p.0, λ all. p.1.2 (all p.1.0 p.1.1))),
        (λ e. let p = own.1 e in (p.0, some_sum_out n weights p.0 p.1)),
      )

  pub eighteen_by_extremes : (Weighted n weights × (¬ (TableValue (least_sum weights) × TableValue (greatest_sum weights)))) ↔ (plain_sum n weights room ≡ refused 18)
  unfolding plain_sum
  eighteen_by_extremes = refused_own n weights (every is_value (sum_table weights)) 18 room (sum_table weights) (extremes_test n weights) (omega arith, (omega arith, omega arith))

  pub sum_accepts : (Weighted n weights × Fitting × (room ≡ 2 ^ n)) ↔ ((table : List ℤ) × (plain_sum n weights room ≡ accepted table))
  unfolding plain_sum
  sum_accepts = answered_exactly n weights (every is_value (sum_table weights)) 18 room (sum_table weights) (values_test n weights)

  -- What is answered.
  pub sum_answers : (table : List ℤ) → plain_sum n weights room ≡ accepted table → table ≡ sum_table weights
  unfolding plain_sum
  sum_answers table e = (answer_tells n weights (every is_value (sum_table weights)) 18 room (sum_table weights) table e).1.1.1

-- ---- what the buffer then holds

pub sum_fills : (n : ℕ) (weights buffer table : List ℤ) → plain_sum n weights (length buffer) ≡ accepted table → buffer_after (plain_sum n weights (length buffer)) (λ t. t) buffer ≡ table
sum_fills n weights buffer table e =
    let a = (sum_accepts n weights (length buffer)).1 (table, e) in
    buffer_whole (plain_sum n weights (length buffer)) table buffer e (ap length (sum_answers n weights (length buffer) table e) ∙ sums_length n weights a.0 ∙ sym a.2)
