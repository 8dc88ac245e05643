-- The answers, check by check. Both operations are one form: the checks on the weights, a check of their own, the buffer's length.
use Rattle.std.specs.Prelude.{ℕ, ◌^◌, ◌<◌, ◌≡◌, refl, ◌↔◌, ◌⊎◌, Ok, Err, Bool, true, false, List, ◌++◌, length, get_or, eqb, ℤ, pos}
use Rattle.std.proofs.Common.{sym, ◌∙◌, ap, subst, inl, inr, append-nil, arith, drop_of_length-le}
use Rattle.std.proofs.Math.Path.{ap₂}
use borrow.Author.Tests.{eqb-true, eqb-false, eq-eqb, ne_eqb}
use Rattle.numbers.specs.Answers.{Answer, accepted, refused, unless, map_answer, buffer_after}
use Rattle.numbers.specs.Conditions.{Variables, TableValue}
use Rattle.numbers.specs.Lists.{every}
use Rattle.numbers.specs.Ranges.{is_variables, is_value}
use Rattle.numbers.proofs.Laws.Answers.{not_refused}
use Rattle.numbers.proofs.Laws.Bools.{yes_or_no}
use Rattle.numbers.proofs.Laws.Tests.{variables_test, value_test, fails, all_pass, some_fails}
use Rattle.numbers.specs.Refusals.{number, answer_of}
use Rattle.numbers.specs.declared.Refusal.{Refusal}
use Rattle.sums.specs.Sums.{of_weights, into_room, Weighted, Fills}

-- ---- the checks on the weights

-- Some weight is no value.
abbrev pub WeightOut : ℕ → List ℤ → Type 0
WeightOut n weights = (j : ℕ) × (j < n) × (¬ TableValue (get_or weights j (pos 0)))

-- The tests on a list of n weights.
module _ (n : ℕ) (weights : List ℤ) (size : length weights ≡ n) where
  pub weights_test : (every is_value weights ≡ true) ↔ ((j : ℕ) → j < n → TableValue (get_or weights j (pos 0)))
  weights_test = all_pass {P = TableValue} is_value (pos 0) value_test weights n size

  weight_out : (every is_value weights ≡ false) ↔ WeightOut n weights
  weight_out = some_fails {P = TableValue} is_value (pos 0) value_test weights n size

module _ (n : ℕ) (weights : List ℤ) {A : Type 0} (rest : Answer A) where
  -- By the first of them that fails.
  module _ {ℓ} (Y : Answer A → Type ℓ)
      (no_n : ¬ Variables n → Y (refused 1))
      (no_size : Variables n → ¬ (length weights ≡ n) → Y (refused 2))
      (no_value : Variables n → length weights ≡ n → WeightOut n weights → Y (refused 3))
      (none : Weighted n weights → Y rest) where
    pub by_weights : Y (of_weights n weights rest)
    unfolding of_weights
    by_weights =
        yes_or_no (is_variables n)
        (λ a.
        let v = (variables_test n).0 a in
        yes_or_no (eqb (length weights) n)
        (λ b.
        let size = eqb-true (length weights) n b in
        yes_or_no (every is_value weights)
        (λ c. rw (a, b, c) (none (record { variables = v; size = size; values = (weights_test n weights size).0 c })))
        (λ c. rw (a, b, c) (no_value v size ((weight_out n weights size).0 c))))
        (λ b. rw (a, b) (no_size v (eqb-false (length weights) n b))))
        (λ a. rw a (no_n ((fails (is_variables n) (variables_test n)).0 a)))

  pub unnumbered : ¬ Variables n → of_weights n weights rest ≡ refused 1
  unfolding of_weights
  unnumbered v = rw ((fails (is_variables n) (variables_test n)).1 v)

  pub unsized : Variables n → ¬ (length weights ≡ n) → of_weights n weights rest ≡ refused 2
  unfolding of_weights
  unsized v b = rw ((variables_test n).1 v, ne_eqb (length weights) n b)

  pub unvalued : Variables n → length weights ≡ n → WeightOut n weights → of_weights n weights rest ≡ refused 3
  unfolding of_weights
  unvalued v b out = rw ((variables_test n).1 v, eq-eqb (length weights) n b, (weight_out n weights b).1 out)

  pub weights_pass : Weighted n weights → of_weights n weights rest ≡ rest
  unfolding of_weights
  weights_pass w = rw ((variables_test n).1 w.variables, eq-eqb (length weights) n w.size, (weights_test n weights w.size).1 w.values)

-- ---- an answer

-- The operation's own check, its number, and its table.
module _ (n : ℕ) (weights : List ℤ) (own : Bool) (number room : ℕ) (table : List ℤ) where
  abbrev pub table_answer : Answer (List ℤ)
  table_answer = of_weights n weights (unless own number (into_room n room table))

  module _ {ℓ} (Y : Answer (List ℤ) → Type ℓ)
      (no_n : ¬ Variables n → Y (refused 1))
      (no_size : Variables n → ¬ (length weights ≡ n) → Y (refused 2))
      (no_value : Variables n → length weights ≡ n → WeightOut n weights → Y (refused 3))
      (no_own : Weighted n weights → own ≡ false → Y (refused number))
      (no_room : Weighted n weights → own ≡ true → ¬ (room ≡ 2 ^ n) → Y (refused 2))
      (none : Weighted n weights → own ≡ true → room ≡ 2 ^ n → Y (accepted table)) where
    pub by_checks : Y table_answer
    unfolding into_room
    by_checks =
        by_weights n weights (unless own number (into_room n room table)) Y no_n no_size no_value
        (λ w.
        yes_or_no own
        (λ d.
        yes_or_no (eqb room (2 ^ n))
        (λ e. rw (d, e) (none w d (eqb-true room (2 ^ n) e)))
        (λ e. rw (d, e) (no_room w d (eqb-false room (2 ^ n) e))))
        (λ d. rw d (no_own w d)))

  pub unadmitted : Weighted n weights → own ≡ false → table_answer ≡ refused number
  unadmitted w d = weights_pass n weights (unless own number (into_room n room table)) w ∙ ap (λ b. unless b number (into_room n room table)) d

  pub unroomed : Weighted n weights → own ≡ true → ¬ (room ≡ 2 ^ n) → table_answer ≡ refused 2
  unfolding into_room
  unroomed w d e =
      weights_pass n weights (unless own number (into_room n room table)) w
      ∙ ap₂ (λ b c. unless b number (unless c 2 (accepted table))) d (ne_eqb room (2 ^ n) e)

  pub answered : Weighted n weights → own ≡ true → room ≡ 2 ^ n → table_answer ≡ accepted table
  unfolding into_room
  answered w d e =
      weights_pass n weights (unless own number (into_room n room table)) w
      ∙ ap₂ (λ b c. unless b number (unless c 2 (accepted table))) d (eq-eqb room (2 ^ n) e)

  -- What a refusal tells: the first check that fails.
  module _ (X : ℕ → Type 0)
      (no_n : ¬ Variables n → X 1)
      (no_size : Variables n → ¬ (length weights ≡ n) → X 2)
      (no_value : Variables n → length weights ≡ n → WeightOut n weights → X 3)
      (no_own : Weighted n weights → own ≡ false → X number)
      (no_room : Weighted n weights → own ≡ true → ¬ (room ≡ 2 ^ n) → X 2) where
    number_is : (j k : ℕ) → X j → ◌≡◌ {A = Answer (List ℤ)} (refused j) (refused k) → X k
    number_is j k x e = subst X (let same : j ≡ k = cc in same) x

    pub refusal_tells : (k : ℕ) → table_answer ≡ refused k → X k
    refusal_tells k =
        by_checks (λ a. a ≡ refused k → X k)
        (λ a. number_is 1 k (no_n a))
        (λ a b. number_is 2 k (no_size a b))
        (λ a b c. number_is 3 k (no_value a b c))
        (λ w d. number_is number k (no_own w d))
        (λ w d e. number_is 2 k (no_room w d e))
        (λ w d e f. not_refused table k f)

  -- What an answer tells.
  pub answer_tells : (t : List ℤ) → table_answer ≡ accepted t → Weighted n weights × ((own ≡ true) × ((room ≡ 2 ^ n) × (t ≡ table)))
  answer_tells t =
      by_checks (λ a. a ≡ accepted t → Weighted n weights × ((own ≡ true) × ((room ≡ 2 ^ n) × (t ≡ table))))
      (λ a e. not_refused t 1 (sym e))
      (λ a b e. not_refused t 2 (sym e))
      (λ a b c e. not_refused t 3 (sym e))
      (λ w d e. not_refused t number (sym e))
      (λ w d r e. not_refused t 2 (sym e))
      (λ w d r e. (w, (d, (r, (let same : t ≡ table = cc in same)))))

  -- ---- which calls are refused, and with which number

  -- The operation's own check passes, for an accepted list, exactly where its condition holds.
  module _ {Own : Type 0} (own_test : Weighted n weights → (own ≡ true) ↔ Own) where
    pub answered_exactly : (Weighted n weights × Own × (room ≡ 2 ^ n)) ↔ ((t : List ℤ) × (table_answer ≡ accepted t))
    answered_exactly = (
      (λ p. (table, answered p.0 ((own_test p.0).1 p.1) p.2)),
      (λ a. let t = answer_tells a.0 a.1 in (t.0, (own_test t.0).0 t.1.0, t.1.1.0)),
    )

    -- Its number is not one of those before it.
    module _ (apart : (number ≡ 1 → ⊥) × ((number ≡ 2 → ⊥) × (number ≡ 3 → ⊥))) where
      pub refused_one : (¬ Variables n) ↔ (table_answer ≡ refused 1)
      refused_one = (
        unnumbered n weights (unless own number (into_room n room table)),
        (λ e. refusal_tells (λ k. k ≡ 1 → ¬ Variables n) (λ a o. a) (λ a b o. absurd (omega arith)) (λ a b c o. absurd (omega arith)) (λ w d o. absurd (apart.0 o)) (λ w d r o. absurd (omega arith)) 1 e refl),
      )

      -- 2 has two places: the list's length, and last the buffer's.
      pub refused_two : ((Variables n × (¬ (length weights ≡ n))) ⊎ (Weighted n weights × Own × (¬ (room ≡ 2 ^ n)))) ↔ (table_answer ≡ refused 2)
      refused_two = (
        two,
        (λ e.
            refusal_tells (λ k. k ≡ 2 → (Variables n × (¬ (length weights ≡ n))) ⊎ (Weighted n weights × Own × (¬ (room ≡ 2 ^ n))))
            (λ a o. absurd (omega arith)) (λ a b o. inl (a, b)) (λ a b c o. absurd (omega arith)) (λ w d o. absurd (apart.1.0 o)) (λ w d r o. inr (w, (own_test w).0 d, r)) 2 e refl),
      )
        where
          two : (Variables n × (¬ (length weights ≡ n))) ⊎ (Weighted n weights × Own × (¬ (room ≡ 2 ^ n))) → table_answer ≡ refused 2
          two (inl p) = unsized n weights (unless own number (into_room n room table)) p.0 p.1
          two (inr p) = unroomed p.0 ((own_test p.0).1 p.1) p.2

      pub refused_three : (Variables n × (length weights ≡ n) × WeightOut n weights) ↔ (table_answer ≡ refused 3)
      refused_three = (
        (λ p. unvalued n weights (unless own number (into_room n room table)) p.0 p.1 p.2),
        (λ e.
            refusal_tells (λ k. k ≡ 3 → Variables n × (length weights ≡ n) × WeightOut n weights)
            (λ a o. absurd (omega arith)) (λ a b o. absurd (omega arith)) (λ a b c o. (a, b, c)) (λ w d o. absurd (apart.1.1 o)) (λ w d r o. absurd (omega arith)) 3 e refl),
      )

      pub refused_own : (Weighted n weights × (¬ Own)) ↔ (table_answer ≡ refused number)
      refused_own = (
        (λ p. unadmitted p.0 ((fails own (own_test p.0)).1 p.1)),
        (λ e.
            refusal_tells (λ k. k ≡ number → Weighted n weights × (¬ Own))
            (λ a o. absurd (apart.0 (sym o))) (λ a b o. absurd (apart.1.0 (sym o))) (λ a b c o. absurd (apart.1.1 (sym o))) (λ w d o. (w, (fails own (own_test w)).0 d)) (λ w d r o. absurd (apart.1.0 (sym o))) number e refl),
      )

-- ---- what the buffer then holds

-- A table as long as the buffer takes all of it.
pub buffer_whole : (answer : Answer (List ℤ)) (table buffer : List ℤ) → answer ≡ accepted table → length table ≡ length buffer → buffer_after answer (λ t. t) buffer ≡ table
buffer_whole answer table buffer e size =
    ap (λ a. buffer_after a (λ t. t) buffer) e
    ∙ ap (λ l. table ++ l) (drop_of_length-le buffer {i = length table} (omega arith))
    ∙ append-nil table

pub buffer_kept : (answer : Answer (List ℤ)) (k : ℕ) (buffer : List ℤ) → answer ≡ refused k → buffer_after answer (λ t. t) buffer ≡ buffer
buffer_kept answer k buffer e = ap (λ a. buffer_after a (λ t. t) buffer) e

-- Both promises kept at once, in a refusal and by a table.
pub fills_refused : (answer : Answer (List ℤ)) (r : Refusal) (buffer : List ℤ) → answer ≡ refused (number r) → Fills answer buffer (Err r) buffer
unfolding answer_of
fills_refused answer r buffer e = record { answered = ap (map_answer (λ t. tt)) (sym e); filled = sym (buffer_kept answer (number r) buffer e) }

pub fills_whole : (answer : Answer (List ℤ)) (table buffer after : List ℤ) → answer ≡ accepted table → length table ≡ length buffer → after ≡ table → Fills answer buffer (Ok tt) after
unfolding answer_of
fills_whole answer table buffer after e size is = record { answered = ap (map_answer (λ t. tt)) (sym e); filled = is ∙ sym (buffer_whole answer table buffer e size) }
