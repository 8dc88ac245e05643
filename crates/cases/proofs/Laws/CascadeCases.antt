-- Cases of Plan and Compile, by what they answered and left.
use Rattle.std.specs.Prelude.{◌≡◌, ℕ, ◌<◌, ◌≤◌, Bool, false, ◌&&◌, List, map, length, replicate, ℤ, pos, Result}
use Rattle.std.proofs.Common.{sym, ◌∙◌, subst, le-leb}
use Rattle.std.proofs.Math.Path.{ap, ap₂}
use mathlib.Core.List.{flat_map}
use Rattle.std.proofs.lemmas.List.{length-replicate}
use Rattle.std.proofs.lemmas.Bool.{lt-leb}
use Rattle.cascade.specs.Plan.{plan, plan_answer, size_array, cell_array, judgement, Plans}
use Rattle.cascade.specs.Compile.{compile_answer, compile_cells, compile_buffer, outcome, compiled_cells, Compiles}
use Rattle.numbers.specs.declared.Refusal.{Refusal}
use Rattle.cascade.specs.declared.Planned.{Planned}
use Rattle.cascade.specs.declared.Compiled.{Compiled}
use Rattle.cascade.specs.Rows.{cell_row}
use Rattle.cases.specs.Rows.{size_at, byte_lent, front_holds, sizes_are}
use Rattle.cases.proofs.Laws.Tests.{passed, failed}
use Rattle.cases.specs.CascadeCases.{verdict_is, plan_passes, outcome_is, compile_passes}

module _ (numbers table : List ℤ) {n limit : ℕ} (variables : n ≡ size_at numbers 1) (limited : limit ≡ size_at numbers 2) where
  -- Plan's answer decides.
  pub plan_judged : (sizes cells : List ℤ) (planned : Planned) → Plans n table limit planned → plan_passes numbers table sizes cells ≡ (verdict_is numbers (judgement planned.verdict) && (sizes_are planned.sizes sizes && sizes_are (flat_map cell_row planned.cells) cells))
  unfolding plan_passes
  plan_judged sizes cells planned plans =
      ap₂ (λ m k. verdict_is numbers (plan_answer m table k) && (sizes_are (size_array (plan m table k)) sizes && sizes_are (flat_map cell_row (cell_array m table (plan m table k))) cells)) (sym variables) (sym limited)
      ∙ ap₂ ◌&&◌ (ap (verdict_is numbers) (sym plans.judged))
      (ap₂ ◌&&◌ (ap (λ row. sizes_are row sizes) (sym plans.listed)) (ap (λ list. sizes_are (flat_map cell_row list) cells) (sym plans.priced)))

  module _ (cells front : List ℤ) {places : ℕ} (room : places ≡ size_at numbers 3) where
    -- More places than can be lent.
    pub compile_too_many : 512 < places → compile_passes numbers table cells front ≡ false
    unfolding compile_passes
    compile_too_many l = failed _ (lt-leb (size_at numbers 3) 512 (subst (λ k. 512 < k) room l))

    -- The answer and the lent image decide.
    pub compile_judged : (lent : List ℕ) (answer : Result Compiled Refusal) (left : List ℕ) → places ≤ 512 → lent ≡ replicate places byte_lent → Compiles n table limit lent answer left
        → compile_passes numbers table cells front ≡ (outcome_is numbers (outcome answer) && (sizes_are (flat_map cell_row (compiled_cells answer)) cells && front_holds (pos byte_lent) (map pos left) front))
    unfolding compile_passes
    compile_judged lent answer left l e compiles =
        passed _ (le-leb (size_at numbers 3) 512 (subst (λ k. k ≤ 512) room l))
        ∙ ap₂ (λ m k. judging m k (size_at numbers 3)) (sym variables) (sym limited)
        ∙ ap (judging n limit) (sym room)
        ∙ ap₂ ◌&&◌ (ap (outcome_is numbers) (sym (compiles.answered ∙ ap (compile_answer n table limit) size)))
        (ap₂ ◌&&◌ (ap (λ list. sizes_are (flat_map cell_row list) cells) (sym (compiles.priced ∙ ap (compile_cells n table limit) size)))
        (ap (λ row. front_holds (pos byte_lent) (map pos row) front) (sym (compiles.left ∙ ap (compile_buffer n table limit) e))))
      where
        judging : ℕ → ℕ → ℕ → Bool
        judging m k size = outcome_is numbers (compile_answer m table k size) && (sizes_are (flat_map cell_row (compile_cells m table k size)) cells && front_holds (pos byte_lent) (map pos (compile_buffer m table k (replicate size byte_lent))) front)

        size : length lent ≡ places
        size = ap length e ∙ length-replicate places byte_lent
