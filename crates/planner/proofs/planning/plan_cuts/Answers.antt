-- `planning::plan_cuts` meets its contract.
use Rattle.std.proofs.Common.{◌≡◌, sym, ◌∙◌, ap, arith, get_or}
use mathlib.Core.Path.{subst⁻¹}
use Rattle.cascade.specs.Plan.{Plans}
use Rattle.cascade.specs.Inner.Choices.{costing, table_choice}
use Rattle.std.specs.Prelude.{ℕ, None}
use Rattle.cascade.specs.declared.Planned.{Planned}
use Rattle.numbers.specs.Refusals.{number}
use Rattle.numbers.specs.declared.Refusal.TheVariants as refusals
use Rattle.planner.specs.Inner.Listed.{ChoicesKnown, ListChosen}
use Rattle.planner.proofs.Laws.Leading.{array_at}
use Rattle.planner.proofs.Laws.Plans.{refused_plans, plan_none, listed_plans}
use Rattle.planner.proofs.planning.plan_cuts.Goals as goal
use Rattle.planner.proofs.planning.plan_cuts.Goals.{After-choose_all-choices}

-- The choice at the top cut.
module _ (c : After-choose_all-choices) where
  known : let k = c.args.cuts.now in ChoicesKnown k.n k.table.now c.args.use_counts.now c.choose_all-choices.result
  known = record { limit = c.args.limit; used = c.requires.use_counts_value; chosen = c.choose_all-choices.ensures }

  is_top : let k = c.args.cuts.now in get_or c.choose_all-choices.result 0 None ≡ table_choice k.n k.table.now c.args.limit 0
  is_top = let k = c.args.cuts.now in ap (λ l. get_or l 0 None) c.choose_all-choices.ensures ∙ array_at k.n c.args.limit k.table.now 0 (omega arith)

  -- Some list of sizes fits from there on.
  chosen : (cost size : ℕ) → get_or c.choose_all-choices.result 0 None ≡ costing cost size → let k = c.args.cuts.now in ListChosen k.n k.table.now c.args.use_counts.now c.choose_all-choices.result
  unfolding known
  chosen cost size some = record { known = known; cost = cost; size = size; some = sym is_top ∙ some }

pub list_cells-requires : goal.list_cells-requires
list_cells-requires c = let top = c.in-Some.top in chosen (goal.at.list_cells-requires c).After-choose_all-choices top.cost top.size c.in-Some.is

pub returns-in_default : goal.returns-in_default
unfolding number
returns-in_default c =
    let d = (goal.at.returns-in_default c).After-choose_all-choices in
    let k = c.args.cuts.now in
    let limit = c.args.limit in
    subst⁻¹ (λ (p : Planned). Plans k.n k.table.now limit p) c.refused_plan.ensures
    (refused_plans k.n k.table.now limit refusals.NoGrouping (plan_none k.n k.table.now limit k.admitted c.requires.limited (sym (is_top d) ∙ c.in_default.is)))

pub returns : goal.returns
unfolding known chosen
returns c =
    let k = c.args.cuts.now in
    subst⁻¹ (λ (p : Planned). Plans k.n k.table.now c.args.limit p) c.list_cells.ensures
    (listed_plans k (chosen (goal.at.returns c).After-choose_all-choices c.in-Some.top.cost c.in-Some.top.size c.in-Some.is) c.requires.limited)
