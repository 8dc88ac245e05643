-- The checks on a weight list before what follows them.
use Rattle.std.specs.Prelude.{ℕ, List, ℤ}
use Rattle.std.proofs.Math.Path.{◌≡◌, ap}
use Rattle.std.proofs.Common.{sym, ◌∙◌}
use Rattle.numbers.specs.Answers.{Answer, accepted, refused}
use Rattle.numbers.proofs.Laws.Answers.{not_refused}
use Rattle.sums.specs.Sums.{of_weights, Weighted}
use Rattle.sums.proofs.Laws.Answers.{by_weights, unnumbered, unsized, unvalued}
use Rattle.sums.specs.Inner.Checks.{weight_checks}

module _ (n : ℕ) (weights : List ℤ) where
  -- Where they refuse, nothing follows.
  pub unfit : {A : Type 0} (rest : Answer A) (k : ℕ) → weight_checks n weights ≡ refused k → of_weights n weights rest ≡ refused k
  unfolding weight_checks
  unfit rest k =
      by_weights n weights (accepted tt) (λ a. a ≡ refused k → of_weights n weights rest ≡ refused k)
      (λ a e. unnumbered n weights rest a ∙ same 1 e)
      (λ a b e. unsized n weights rest a b ∙ same 2 e)
      (λ a b c e. unvalued n weights rest a b c ∙ same 3 e)
      (λ w e. not_refused tt k e)
    where
      same : {B : Type 0} (j : ℕ) → ◌≡◌ {A = Answer Unit} (refused j) (refused k) → ◌≡◌ {A = Answer B} (refused j) (refused k)
      same j e = let one : j ≡ k = cc in ap refused one

  -- Where they pass, the list is accepted.
  pub passed_weights : weight_checks n weights ≡ accepted tt → Weighted n weights
  unfolding weight_checks
  passed_weights =
      by_weights n weights (accepted tt) (λ a. a ≡ accepted tt → Weighted n weights)
      (λ a e. not_refused tt 1 (sym e))
      (λ a b e. not_refused tt 2 (sym e))
      (λ a b c e. not_refused tt 3 (sym e))
      (λ w e. w)
