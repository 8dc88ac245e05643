-- What is known where Plan or Compile accepts: the checks before were passed.
use Rattle.std.specs.Prelude.{ℕ, ◌≤◌, ◌≡◌, refl, true, List, length, leb, ℤ}
use Rattle.std.proofs.Common.{sym, ◌∙◌, ap, arith, leb-true}
use Rattle.numbers.specs.Answers.{Answer, accepted, refused, unless, map_answer, and_then}
use Rattle.numbers.specs.Ranges.{is_limit}
use Rattle.numbers.proofs.Laws.Bools.{yes_or_no}
use Rattle.diagram.specs.Accepted.{Accepted}
use Rattle.diagram.specs.Inner.Checks.{table_checks}
use Rattle.diagram.proofs.Laws.Builds.{after_checks, passed_table}
use Rattle.cascade.specs.Compile.{image_for, compile, ImageSummary, image_summary, compile_answer}
use Rattle.cascade.specs.Groupings.{chosen}
use Rattle.cascade.specs.Plan.{plan}

-- Nothing is refused and accepted.
pub never_both : {A : Type 0} (a : A) (k : ℕ) → ◌≡◌ {A = Answer A} (refused k) (accepted a) → ⊥
never_both a k p = let z : ◌≡◌ {A = ℕ} 0 1 = cc in omega arith

-- Plan accepts: the table and the limit are admitted, and the sizes are chosen.
pub plan_admits : (n : ℕ) (table : List ℤ) (limit : ℕ) (sizes : List ℕ) → plan n table limit ≡ accepted sizes → Accepted n table × ((is_limit limit ≡ true) × (chosen n table limit ≡ accepted sizes))
unfolding plan
plan_admits n table limit sizes e = checked (table_checks n table) refl
  where
    rest : Answer (List ℕ)
    rest = unless (is_limit limit) 8 (chosen n table limit)

    limited : rest ≡ accepted sizes → (is_limit limit ≡ true) × (chosen n table limit ≡ accepted sizes)
    limited f = yes_or_no (is_limit limit) (λ l. (l, rw l at f)) (λ l. absurd (never_both sizes 8 (rw l at f)))

    checked : (answer : Answer Unit) → table_checks n table ≡ answer → Accepted n table × ((is_limit limit ≡ true) × (chosen n table limit ≡ accepted sizes))
    checked (accepted tt) f = (passed_table n table f, limited (sym (after_checks n table rest ∙ ap (λ a. and_then a (λ t. rest)) f) ∙ e))
    checked (refused k) f = absurd (never_both sizes k (sym (after_checks n table rest ∙ ap (λ a. and_then a (λ t. rest)) f) ∙ e))

-- Compile accepts: so does Plan, and the image has room.
pub compile_admits : (n : ℕ) (table : List ℤ) (limit room : ℕ) (sizes : List ℕ) → compile n table limit room ≡ accepted sizes → (plan n table limit ≡ accepted sizes) × (length (image_for n table sizes) ≤ room)
unfolding compile
compile_admits n table limit room sizes e = planned (plan n table limit) refl
  where
    fitting : (best : List ℕ) → unless (leb (length (image_for n table best)) room) 10 (accepted best) ≡ accepted sizes → (accepted best ≡ accepted sizes) × (length (image_for n table best) ≤ room)
    fitting best f =
        yes_or_no (leb (length (image_for n table best)) room)
        (λ l. (rw l at f, leb-true (length (image_for n table best)) room l))
        (λ l. absurd (never_both sizes 10 (rw l at f)))

    planned : (answer : Answer (List ℕ)) → plan n table limit ≡ answer → (plan n table limit ≡ accepted sizes) × (length (image_for n table sizes) ≤ room)
    planned (accepted best) f =
        let g = fitting best (sym (ap (λ a. and_then a (λ s. unless (leb (length (image_for n table s)) room) 10 (accepted s))) f) ∙ e) in
        let same : best ≡ sizes = (let h = g.0 in cc) in
        (f ∙ g.0, rw same at g.1)
    planned (refused k) f = absurd (never_both sizes k (sym (ap (λ a. and_then a (λ s. unless (leb (length (image_for n table s)) room) 10 (accepted s))) f) ∙ e))

-- Its report is that of the sizes.
pub report_admits : (n : ℕ) (table : List ℤ) (limit room : ℕ) (r : ImageSummary) → compile_answer n table limit room ≡ accepted r → (sizes : List ℕ) × ((compile n table limit room ≡ accepted sizes) × (r ≡ image_summary n table sizes))
unfolding compile_answer
report_admits n table limit room r e = reported (compile n table limit room) refl
  where
    reported : (answer : Answer (List ℕ)) → compile n table limit room ≡ answer → (sizes : List ℕ) × ((compile n table limit room ≡ accepted sizes) × (r ≡ image_summary n table sizes))
    reported (accepted sizes) f = (sizes, (f, (let g = sym (ap (map_answer (image_summary n table)) f) ∙ e in cc)))
    reported (refused k) f = absurd (never_both r k (sym (ap (map_answer (image_summary n table)) f) ∙ e))
