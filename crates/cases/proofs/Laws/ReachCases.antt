-- Cases of Reach, by what it answered.
use Rattle.std.specs.Prelude.{◌≡◌, ℕ, ◌&&◌, List, ℤ, Result}
use Rattle.std.proofs.Common.{sym, ◌∙◌, ap, ap₂}
use Rattle.reach.specs.Reach.{reach, cut_array, reach_answer, reach_judgement, cuts_of, Reaches}
use Rattle.numbers.specs.declared.Refusal.{Refusal}
use Rattle.reach.specs.declared.Reached.{Reached}
use Rattle.cases.specs.Rows.{size_at, sizes_are}
use Rattle.cases.specs.ReachCases.{verdict_is, reach_passes}

-- Its answer decides.
pub reach_judged : (numbers table : List ℤ) {n limit : ℕ} → n ≡ size_at numbers 1 → limit ≡ size_at numbers 2 → (cuts : List ℤ) (answer : Result Reached Refusal) → Reaches n table limit answer → reach_passes numbers table cuts ≡ (verdict_is numbers (reach_judgement answer) && sizes_are (cuts_of answer) cuts)
unfolding reach_passes
reach_judged numbers table variables limited cuts answer reaches =
    ap₂ (λ m k. verdict_is numbers (reach_answer m table k) && sizes_are (cut_array (reach m table k)) cuts) (sym variables) (sym limited)
    ∙ ap₂ ◌&&◌ (ap (verdict_is numbers) (sym reaches.judged)) (ap (λ row. sizes_are row cuts) (sym reaches.listed))
