-- The checks alone decide whether Reach refuses.
use Rattle.std.specs.Prelude.{ℕ, ◌^◌, ◌≡◌, refl, true, List, length, eqb, ℤ}
use Rattle.std.proofs.Common.{sym, ◌∙◌}
use Rattle.std.proofs.Math.Path.{ap}
use Rattle.numbers.specs.Answers.{Answer, accepted, refused, unless, map_answer, and_then}
use Rattle.numbers.specs.Lists.{every}
use Rattle.numbers.specs.Ranges.{is_variables, is_value, is_limit}
use Rattle.numbers.proofs.Laws.Answers.{not_refused, map_refused}
use Rattle.numbers.proofs.Laws.Bools.{yes_or_no}
use Rattle.diagram.specs.Accepted.{Accepted}
use Rattle.diagram.specs.Build.{of_table}
use Rattle.diagram.specs.Inner.Checks.{table_checks}
use Rattle.diagram.proofs.Laws.Builds.{table_passes_lem, after_checks}
use Rattle.reach.specs.Reach.{Reachable, reach}
use Rattle.reach.proofs.Laws.Answers.{answer_tells}
use Rattle.reach.specs.Inner.Checks.{call_checks}

module _ (n : ℕ) (table : List ℤ) (limit : ℕ) where
  -- ---- check by check

  pub call_unfit : (k : ℕ) → table_checks n table ≡ refused k → call_checks n table limit ≡ refused k
  unfolding call_checks
  call_unfit k e = after_checks n table _ ∙ ap (λ a. and_then a (λ t. unless (is_limit limit) 8 (accepted tt))) e

  -- The limit decides for an accepted table.
  pub call_limited : Accepted n table → call_checks n table limit ≡ unless (is_limit limit) 8 (accepted tt)
  unfolding call_checks
  call_limited a = table_passes_lem n table _ a

  -- ---- Reach

  -- Without what it finds, Reach's answer is that of the checks.
  checks_alone : map_answer (λ f. tt) (reach n table limit) ≡ call_checks n table limit
  unfolding reach call_checks of_table
  checks_alone =
      yes_or_no (is_variables n)
      (λ a.
      yes_or_no (eqb (length table) (2 ^ n))
      (λ b.
      yes_or_no (every is_value table)
      (λ c. yes_or_no (is_limit limit) (λ d. rw (a, b, c, d)) (λ d. rw (a, b, c, d)))
      (λ c. rw (a, b, c)))
      (λ b. rw (a, b)))
      (λ a. rw a)

  pub call_refused : (k : ℕ) → call_checks n table limit ≡ refused k → reach n table limit ≡ refused k
  call_refused k e = map_refused (λ f. tt) (reach n table limit) k (checks_alone ∙ e)

  pub call_admits : call_checks n table limit ≡ accepted tt → Accepted n table × (is_limit limit ≡ true)
  call_admits e = either (reach n table limit) refl
    where
      either : (answer : Answer Reachable) → reach n table limit ≡ answer → Accepted n table × (is_limit limit ≡ true)
      either (accepted f) r = let t = answer_tells n table limit f r in (t.0, t.1.0)
      either (refused k) r = not_refused tt k (sym e ∙ sym checks_alone ∙ ap (map_answer (λ f. tt)) r)
