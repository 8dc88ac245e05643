-- `cascades::plan` meets its contract: what Plan answered decides.
use Rattle.std.proofs.Common.{◌≡◌, ◌&&◌, Bool, sym, ap, ◌∙◌}
use Rattle.std.proofs.Math.Bool.{and_assoc}
use mathlib.Core.List.{flat_map}
use Rattle.cascade.specs.Plan.{judgement}
use Rattle.cascade.specs.Rows.{cell_row}
use Rattle.cases.specs.Rows.{sizes_are}
use Rattle.cases.specs.CascadeCases.{verdict_is, plan_passes}
use Rattle.cases.proofs.Laws.Tests.{passed, failed}
use Rattle.cases.proofs.Laws.CascadeCases.{plan_judged}
use Rattle.cases.proofs.cascades.plan.Goals as goal
use Rattle.cases.proofs.cascades.plan.Goals.{Joined-verdict_is, then-verdict_is, else-verdict_is}

-- The verdict, the sizes and the cells decide, and the first two are told.
module _ (c : Joined-verdict_is) where
  abbrev first : Bool
  first = verdict_is c.args.numbers.now (judgement c.plan-planned.result.verdict) && sizes_are c.plan-planned.result.sizes c.args.sizes.now

  told : c.if-verdict_is.value ≡ first
  told =
      elim c.if-verdict_is.branch [
        | then-verdict_is w ↦ w.value-is ∙ w.sizes_are.ensures ∙ sym (passed _ (sym c.verdict_is.ensures ∙ w.if-verdict_is.true))
        | else-verdict_is w ↦ w.value-is ∙ w.if-verdict_is.false ∙ sym (failed _ (sym c.verdict_is.ensures ∙ w.if-verdict_is.false))
      ]

  judged : plan_passes c.args.numbers.now c.args.table.now c.args.sizes.now c.args.cells.now ≡ (first && sizes_are (flat_map cell_row c.plan-planned.result.cells) c.args.cells.now)
  judged =
      plan_judged c.args.numbers.now c.args.table.now c.size_at-n.ensures.value c.size_at-limit.ensures.value c.args.sizes.now c.args.cells.now c.plan-planned.result c.plan-planned.ensures
      ∙ sym (and_assoc (verdict_is c.args.numbers.now (judgement c.plan-planned.result.verdict)) (sizes_are c.plan-planned.result.sizes c.args.sizes.now) (sizes_are (flat_map cell_row c.plan-planned.result.cells) c.args.cells.now))

pub returns-then-sizes_are : goal.returns-then-sizes_are
returns-then-sizes_are c =
    let j = (goal.at.returns-then-sizes_are c).Joined-verdict_is in
    c.sizes_are-then-sizes_are.ensures
    ∙ ap (λ row. sizes_are row c.args.cells.now) c.cell_rows.ensures
    ∙ sym (judged j ∙ passed _ (sym (told j) ∙ c.if-sizes_are.true))

pub returns-else-sizes_are : goal.returns-else-sizes_are
returns-else-sizes_are c =
    let j = (goal.at.returns-else-sizes_are c).Joined-verdict_is in
    c.if-sizes_are.false ∙ sym (judged j ∙ failed _ (sym (told j) ∙ c.if-sizes_are.false))
