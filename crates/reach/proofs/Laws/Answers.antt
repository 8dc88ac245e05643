-- Reach's answer beside Plan's, check by check.
use Rattle.std.specs.Prelude.{ℕ, ◌^◌, ◌≡◌, true, false, List, length, eqb, ℤ}
use Rattle.std.proofs.Common.{sym, ◌∙◌, subst, arith}
use Rattle.std.proofs.Math.Path.{ap}
use borrow.Author.Tests.{eqb-true, eqb-false, eq-eqb, ne_eqb}
use Rattle.numbers.specs.Answers.{Answer, accepted, refused, unless, and_then}
use Rattle.numbers.specs.Lists.{every}
use Rattle.numbers.specs.Ranges.{is_variables, is_value, is_limit}
use Rattle.numbers.proofs.Laws.Answers.{not_refused}
use Rattle.numbers.proofs.Laws.Bools.{yes_or_no}
use Rattle.diagram.specs.Accepted.{Accepted}
use Rattle.diagram.specs.Build.{of_table}
use Rattle.diagram.specs.Inner.Checks.{table_checks}
use Rattle.diagram.proofs.Laws.Builds.{table_passes_lem, after_checks}
use Rattle.cascade.specs.Groupings.{chosen}
use Rattle.cascade.specs.Plan.{plan}
use Rattle.cascade.proofs.Laws.Chosen.{chosen_refuses_by_nine}
use Rattle.reach.specs.Reach.{Reachable, reachable, reach}

module _ (n : ℕ) (table : List ℤ) (limit : ℕ) where
  -- By the first check that fails; where none does, what is found beside what is chosen.
  module _ (Y : Answer Reachable → Answer (List ℕ) → Type 0)
      (no_n : is_variables n ≡ false → Y (refused 1) (refused 1))
      (no_size : is_variables n ≡ true → (length table ≡ 2 ^ n → ⊥) → Y (refused 2) (refused 2))
      (no_value : is_variables n ≡ true → length table ≡ 2 ^ n → every is_value table ≡ false → Y (refused 3) (refused 3))
      (no_limit : Accepted n table → is_limit limit ≡ false → Y (refused 8) (refused 8))
      (none : Accepted n table → is_limit limit ≡ true → Y (accepted (reachable n table limit)) (chosen n table limit)) where
    pub by_checks : Y (reach n table limit) (plan n table limit)
    unfolding reach plan of_table
    by_checks =
        yes_or_no (is_variables n)
        (λ a.
        yes_or_no (eqb (length table) (2 ^ n))
        (λ b.
        yes_or_no (every is_value table)
        (λ c.
        let t : Accepted n table = record { variables = a; size = eqb-true (length table) (2 ^ n) b; values = c } in
        yes_or_no (is_limit limit)
        (λ d. rw (a, b, c, d) (none t d))
        (λ d. rw (a, b, c, d) (no_limit t d)))
        (λ c. rw (a, b, c) (no_value a (eqb-true (length table) (2 ^ n) b) c)))
        (λ b. rw (a, b) (no_size a (eqb-false (length table) (2 ^ n) b))))
        (λ a. rw a (no_n a))

  -- ---- refusals

  pub unnumbered : is_variables n ≡ false → reach n table limit ≡ refused 1
  unfolding reach of_table
  unnumbered a = rw a

  pub unsized : is_variables n ≡ true → (length table ≡ 2 ^ n → ⊥) → reach n table limit ≡ refused 2
  unfolding reach of_table
  unsized a b = rw (a, ne_eqb (length table) (2 ^ n) b)

  pub unvalued : is_variables n ≡ true → length table ≡ 2 ^ n → every is_value table ≡ false → reach n table limit ≡ refused 3
  unfolding reach of_table
  unvalued a b c = rw (a, eq-eqb (length table) (2 ^ n) b, c)

  -- Whatever the checks on the table answer.
  pub unfit : (k : ℕ) → table_checks n table ≡ refused k → reach n table limit ≡ refused k
  unfolding reach
  unfit k e = after_checks n table _ ∙ ap (λ a. and_then a (λ t. unless (is_limit limit) 8 (accepted (reachable n table limit)))) e

  module _ (t : Accepted n table) where
    pub unlimited : is_limit limit ≡ false → reach n table limit ≡ refused 8
    unfolding reach
    unlimited d = table_passes_lem n table _ t ∙ ap (λ b. unless b 8 (accepted (reachable n table limit))) d

    pub reach_finds : is_limit limit ≡ true → reach n table limit ≡ accepted (reachable n table limit)
    unfolding reach
    reach_finds d = table_passes_lem n table _ t ∙ ap (λ b. unless b 8 (accepted (reachable n table limit))) d

  -- What a refusal tells: the first check that fails.
  module _ (X : ℕ → Type 0)
      (no_n : is_variables n ≡ false → X 1)
      (no_size : is_variables n ≡ true → (length table ≡ 2 ^ n → ⊥) → X 2)
      (no_value : is_variables n ≡ true → length table ≡ 2 ^ n → every is_value table ≡ false → X 3)
      (no_limit : Accepted n table → is_limit limit ≡ false → X 8) where
    number_is : (j k : ℕ) → X j → ◌≡◌ {A = Answer Reachable} (refused j) (refused k) → X k
    number_is j k x e = subst X (let same : j ≡ k = cc in same) x

    pub refusal_tells : (k : ℕ) → reach n table limit ≡ refused k → X k
    refusal_tells k =
        by_checks (λ a p. a ≡ refused k → X k)
        (λ a. number_is 1 k (no_n a))
        (λ a b. number_is 2 k (no_size a b))
        (λ a b c. number_is 3 k (no_value a b c))
        (λ t d. number_is 8 k (no_limit t d))
        (λ t d e. not_refused (reachable n table limit) k e)

  -- What an answer tells.
  pub answer_tells : (f : Reachable) → reach n table limit ≡ accepted f → Accepted n table × ((is_limit limit ≡ true) × (f ≡ reachable n table limit))
  answer_tells f =
      by_checks (λ a p. a ≡ accepted f → Accepted n table × ((is_limit limit ≡ true) × (f ≡ reachable n table limit)))
      (λ a e. not_refused f 1 (sym e))
      (λ a b e. not_refused f 2 (sym e))
      (λ a b c e. not_refused f 3 (sym e))
      (λ t d e. not_refused f 8 (sym e))
      (λ t d e. (t, (d, (let same : f ≡ reachable n table limit = cc in same))))

  -- ---- beside Plan

  pub as_by_plan : (k : ℕ) → reach n table limit ≡ refused k → (plan n table limit ≡ refused k) × (k ≡ 9 → ⊥)
  as_by_plan k =
      by_checks (λ a p. a ≡ refused k → (p ≡ refused k) × (k ≡ 9 → ⊥))
      (λ a e. same 1 e (λ n. omega arith))
      (λ a b e. same 2 e (λ n. omega arith))
      (λ a b c e. same 3 e (λ n. omega arith))
      (λ t d e. same 8 e (λ n. omega arith))
      (λ t d e. not_refused (reachable n table limit) k e)
    where
      same : (j : ℕ) → ◌≡◌ {A = Answer Reachable} (refused j) (refused k) → (j ≡ 9 → ⊥) → (◌≡◌ {A = Answer (List ℕ)} (refused j) (refused k)) × (k ≡ 9 → ⊥)
      same j e other = let one : j ≡ k = cc in (ap refused one, λ nine. other (one ∙ nine))

  pub as_plan_refuses : (k : ℕ) → (k ≡ 9 → ⊥) → plan n table limit ≡ refused k → reach n table limit ≡ refused k
  as_plan_refuses k other =
      by_checks (λ a p. p ≡ refused k → a ≡ refused k)
      (λ a e. same 1 e)
      (λ a b e. same 2 e)
      (λ a b c e. same 3 e)
      (λ t d e. same 8 e)
      (λ t d e. absurd (other (chosen_refuses_by_nine n table limit k e)))
    where
      same : (j : ℕ) → ◌≡◌ {A = Answer (List ℕ)} (refused j) (refused k) → ◌≡◌ {A = Answer Reachable} (refused j) (refused k)
      same j e = let one : j ≡ k = cc in ap refused one
