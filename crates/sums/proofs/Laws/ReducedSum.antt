-- Remainder: which calls are refused and which answered, and the table of the remainders of an accepted weight list.
use Rattle.std.specs.Prelude.{ℕ, ◌+◌, ◌^◌, ◌≤◌, ◌<◌, ◌≡◌, ◌↔◌, ◌⊎◌, true, List, length, get_or, ℤ, pos}
use Rattle.std.proofs.Common.{sym, ◌∙◌, ap, subst, inl, inr, true≢false, pow_pos}
use native.Mathlib.Omega.{arith}
use Rattle.numbers.specs.Answers.{accepted, refused, buffer_after}
use Rattle.numbers.specs.Conditions.{Variables, Limit}
use Rattle.numbers.proofs.Laws.Tests.{variables_test, limit_test}
use Rattle.blocks.specs.Classes.{class_count}
use Rattle.diagram.specs.Accepted.{Accepted}
use Rattle.cascade.specs.Plan.{plan}
use Rattle.reach.specs.Reach.{is_reached, Arriving}
use Rattle.reach.proofs.Laws.Beside.{plan_tells, plan_some, nine_where_unreached}
use Rattle.reach.proofs.Laws.Reached.{reached_arriving}
use Rattle.sums.specs.Sums.{sum_at, remainder_by, remainder_table, is_remainder_bits, RemainderBits, Weighted, reduced_sum}
use Rattle.sums.proofs.Laws.Answers.{WeightOut, answer_tells, answered_exactly, refused_one, refused_two, refused_three, refused_own, buffer_whole}
use Rattle.sums.proofs.Laws.Classes.{bits_test, remainders_length, remainders_at, remainders_values, few_classes, bottom_reached}
use Rattle.sums.proofs.Laws.Remainders.{remainder_below}

-- ---- the table of the remainders

module _ (n : ℕ) (weights : List ℤ) (q : ℕ) (w : Weighted n weights) (some : 1 ≤ q) (most : q ≤ 11) where
  abbrev table : List ℤ
  table = remainder_table q weights

  -- What holds for as many variables as there are weights holds for n.
  by_size : (X : ℕ → Type 0) → X (length weights) → X n
  by_size X x = subst X w.size x

  whole : length table ≡ 2 ^ n
  whole = by_size (λ k. length table ≡ 2 ^ k) (remainders_length q weights)

  pub remainder_values : (x : ℕ) → x < 2 ^ n → (get_or table x (pos 0) ≡ pos (remainder_by (2 ^ q) (sum_at weights x))) × (remainder_by (2 ^ q) (sum_at weights x) < 2 ^ q)
  remainder_values x l = (remainders_at q weights x (rw w.size l), remainder_below (2 ^ q) (pow_pos q) (sum_at weights x))

  pub remainder_is_accepted : Accepted n table
  remainder_is_accepted = record { variables = (variables_test n).1 w.variables; size = whole; values = remainders_values q weights most }

  pub remainder_classes : (h : ℕ) → h ≤ n → class_count n table h ≤ 2 ^ q
  remainder_classes = by_size (λ k. (h : ℕ) → h ≤ k → class_count k table h ≤ 2 ^ q) (few_classes q weights)

  pub limit_admitted : Limit (q + 1)
  unfolding Limit
  limit_admitted = (omega arith, omega arith)

  reached : (limit : ℕ) → q + 1 ≤ limit → is_reached n table limit n ≡ true
  reached limit enough = by_size (λ k. is_reached k table limit k ≡ true) (bottom_reached q weights limit enough)

  pub limit_fits : Arriving n table (q + 1) n
  limit_fits = (reached_arriving n table (q + 1) n).0 (reached (q + 1) (omega arith))

  -- Plan with a limit that is at least q + 1.
  module _ (limit : ℕ) (enough : q + 1 ≤ limit) where
    pub never_nine : ¬ (plan n table limit ≡ refused 9)
    never_nine r =
        let limited = (plan_tells n table limit (inr r)).1 in
        true≢false (sym (reached limit enough) ∙ (nine_where_unreached n table limit remainder_is_accepted limited).0 r)

    pub plan_with_limit : Limit limit → (sizes : List ℕ) × (plan n table limit ≡ accepted sizes)
    plan_with_limit limited = grouping (plan_some n table limit remainder_is_accepted ((limit_test limit).1 limited))
      where
        grouping : ((sizes : List ℕ) × (plan n table limit ≡ accepted sizes)) ⊎ (plan n table limit ≡ refused 9) → (sizes : List ℕ) × (plan n table limit ≡ accepted sizes)
        grouping (inl a) = a
        grouping (inr r) = absurd (never_nine r)

-- ---- which calls are refused, and which answered

module _ (n : ℕ) (weights : List ℤ) (q room : ℕ) where
  pub remainder_one : (¬ Variables n) ↔ (reduced_sum n weights q room ≡ refused 1)
  unfolding reduced_sum
  remainder_one = refused_one n weights (is_remainder_bits q) 19 room (remainder_table q weights) (λ w. bits_test q) (omega arith, (omega arith, omega arith))

  pub remainder_two : ((Variables n × (¬ (length weights ≡ n))) ⊎ (Weighted n weights × RemainderBits q × (¬ (room ≡ 2 ^ n)))) ↔ (reduced_sum n weights q room ≡ refused 2)
  unfolding reduced_sum
  remainder_two = refused_two n weights (is_remainder_bits q) 19 room (remainder_table q weights) (λ w. bits_test q) (omega arith, (omega arith, omega arith))

  pub remainder_three : (Variables n × (length weights ≡ n) × WeightOut n weights) ↔ (reduced_sum n weights q room ≡ refused 3)
  unfolding reduced_sum
  remainder_three = refused_three n weights (is_remainder_bits q) 19 room (remainder_table q weights) (λ w. bits_test q) (omega arith, (omega arith, omega arith))

  pub remainder_nineteen : (Weighted n weights × (¬ RemainderBits q)) ↔ (reduced_sum n weights q room ≡ refused 19)
  unfolding reduced_sum
  remainder_nineteen = refused_own n weights (is_remainder_bits q) 19 room (remainder_table q weights) (λ w. bits_test q) (omega arith, (omega arith, omega arith))

  pub remainder_accepts : (Weighted n weights × RemainderBits q × (room ≡ 2 ^ n)) ↔ ((table : List ℤ) × (reduced_sum n weights q room ≡ accepted table))
  unfolding reduced_sum
  remainder_accepts = answered_exactly n weights (is_remainder_bits q) 19 room (remainder_table q weights) (λ w. bits_test q)

  -- What is answered.
  pub remainder_answers : (table : List ℤ) → reduced_sum n weights q room ≡ accepted table → table ≡ remainder_table q weights
  unfolding reduced_sum
  remainder_answers table e = (answer_tells n weights (is_remainder_bits q) 19 room (remainder_table q weights) table e).1.1.1

-- ---- what the buffer then holds

pub remainder_fills : (n : ℕ) (weights : List ℤ) (q : ℕ) (buffer table : List ℤ) → reduced_sum n weights q (length buffer) ≡ accepted table → buffer_after (reduced_sum n weights q (length buffer)) (λ t. t) buffer ≡ table
remainder_fills n weights q buffer table e =
    let a = (remainder_accepts n weights q (length buffer)).1 (table, e) in
    buffer_whole (reduced_sum n weights q (length buffer)) table buffer e (ap length (remainder_answers n weights q (length buffer) table e) ∙ whole n weights q a.0 a.1.0 a.1.1 ∙ sym a.2)
