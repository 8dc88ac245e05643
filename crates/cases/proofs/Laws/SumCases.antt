-- Cases of Sum and Remainder, by what they answered and left.
use Rattle.std.specs.Prelude.{◌≡◌, ℕ, ◌<◌, ◌≤◌, false, List, length, replicate, ℤ, Result, refl}
use Rattle.std.proofs.Math.Path.{sym, ap, ap₂}
use Rattle.std.proofs.Common.{◌∙◌, subst}
use Rattle.std.proofs.Math.ListN.{length-replicate}
use borrow.Author.Tests.{le-leb, lt-leb}
use Rattle.numbers.specs.Answers.{Answer, accepted, refused, map_answer, buffer_after}
use Rattle.numbers.specs.Refusals.{answer_of}
use Rattle.numbers.specs.declared.Refusal.{Refusal}
use Rattle.sums.specs.Sums.{Fills}
use Rattle.cases.specs.Rows.{size_at, number_lent, answer_is}
use Rattle.cases.proofs.Laws.Tests.{passed, failed}
use Rattle.cases.specs.SumCases.{filled_is, table_passes}

-- Of the answer only a refusal is told.
filled_mapped : {A B : Type 0} (f : A → B) (numbers table front : List ℤ) (answer : Answer A) → filled_is numbers (map_answer f answer) table front ≡ filled_is numbers answer table front
unfolding filled_is answer_is
filled_mapped f numbers table front (accepted a) = refl
filled_mapped f numbers table front (refused k) = refl

module _ (numbers front : List ℤ) {places : ℕ} (room : places ≡ size_at numbers 2) where
  -- More places than can be lent.
  pub too_many : (operation : ℕ → Answer (List ℤ)) → 4096 < places → table_passes numbers operation front ≡ false
  unfolding table_passes
  too_many operation l = failed _ (lt-leb (size_at numbers 2) 4096 (subst (λ k. 4096 < k) room l))

  -- The answer and the lent table decide.
  pub judged : (operation : ℕ → Answer (List ℤ)) (lent : List ℤ) (answer : Result Unit Refusal) (left : List ℤ) → places ≤ 4096 → lent ≡ replicate places number_lent → Fills (operation (length lent)) lent answer left → table_passes numbers operation front ≡ filled_is numbers (answer_of answer) left front
  unfolding table_passes
  judged operation lent answer left l e fills =
      let size : length lent ≡ size_at numbers 2 = ap length e ∙ length-replicate places number_lent ∙ room in
      passed _ (le-leb (size_at numbers 2) 4096 (subst (λ k. k ≤ 4096) room l))
      ∙ ap₂ (λ k row. filled_is numbers (operation k) (buffer_after (operation k) (λ table. table) row) front) (sym size) (sym (e ∙ ap (λ k. replicate k number_lent) room))
      ∙ ap (λ row. filled_is numbers (operation (length lent)) row front) (sym fills.filled)
      ∙ sym (ap (λ a. filled_is numbers a left front) fills.answered ∙ filled_mapped (λ table. tt) numbers left front (operation (length lent)))
