-- Cases of Build, by what it answered and left.
use Rattle.std.specs.Prelude.{◌≡◌, ℕ, ◌<◌, ◌≤◌, false, ◌&&◌, List, length, replicate, ℤ, Result}
use Rattle.std.proofs.Common.{sym, ◌∙◌, subst, le-leb}
use Rattle.std.proofs.Math.Path.{ap, ap₂}
use Rattle.std.proofs.Math.ListN.{length-replicate}
use Rattle.std.proofs.lemmas.Bool.{lt-leb}
use Rattle.diagram.specs.Build.{build_answer, build_buffer, built, Builds}
use Rattle.numbers.specs.declared.Refusal.{Refusal}
use Rattle.diagram.specs.declared.Built.{Built}
use Rattle.cases.specs.Rows.{size_at, number_lent, front_holds}
use Rattle.cases.proofs.Laws.Tests.{passed, failed}
use Rattle.cases.specs.DiagramCases.{built_is, build_passes}

module _ (numbers table front : List ℤ) {n places : ℕ} (variables : n ≡ size_at numbers 1) (room : places ≡ size_at numbers 2) where
  -- More places than can be lent.
  pub build_too_many : 24570 < places → build_passes numbers table front ≡ false
  unfolding build_passes
  build_too_many l = failed _ (lt-leb (size_at numbers 2) 24570 (subst (λ k. 24570 < k) room l))

  -- The answer and the lent row decide.
  pub build_judged : (lent : List ℤ) (answer : Result Built Refusal) (left : List ℤ) → places ≤ 24570 → lent ≡ replicate places number_lent → Builds n table lent answer left → build_passes numbers table front ≡ (built_is numbers (built answer) && front_holds number_lent left front)
  unfolding build_passes
  build_judged lent answer left l e builds =
      passed _ (le-leb (size_at numbers 2) 24570 (subst (λ k. k ≤ 24570) room l))
      ∙ ap₂ (λ a row. built_is numbers a && front_holds number_lent row front)
      (sym (builds.answered ∙ ap₂ (λ m k. build_answer m table k) variables (ap length e ∙ length-replicate places number_lent ∙ room)))
      (sym (builds.left ∙ ap₂ (λ m row. build_buffer m table row) variables (e ∙ ap (λ k. replicate k number_lent) room)))
