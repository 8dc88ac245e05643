-- `compiler::compile` meets its contract.
use Rattle.std.specs.Prelude.{suc, ◌+◌, ◌-◌, ◌^◌, ◌≤◌, ◌≡◌, take}
use Rattle.std.proofs.Common.{refl, sym, ◌∙◌, ap, add-one, arith, pow_mono, length-take-le}
use mir.Facts.{Fits-of_lt}
use Rattle.blocks.specs.Rows.{cut_place}
use Rattle.diagram.specs.Accepted.{Accepted}
use Rattle.cascade.proofs.Laws.Cells.{variables_most}
use Rattle.cascade.proofs.Laws.Planned.{plan_refused, plan_accepts, planned_groups}
use Rattle.compiler.proofs.Laws.Compiles.{handed_on, placed_compiles}
use Rattle.compiler.proofs.Laws.Ready.{planned_ready, classes_ready}
use Rattle.compiler.proofs.compile.Goals as goal
use Rattle.compiler.proofs.compile.Goals.{In-Ok, After-power-places}

-- A plan was made.
module _ (c : In-Ok) where
  admitted : Accepted c.args.n c.args.table.now
  admitted = plan_accepts c.args.n c.args.table.now c.args.limit _ c.plan_leaving_classes-planned.ensures.plans c.in-Ok.grouping c.in-Ok.is

  few : c.args.n ≤ 12
  few = variables_most c.args.n c.args.table.now admitted

-- The rows' places.
module _ (c : After-power-places) where
  places : c.power-places.result - 1 ≡ cut_place (suc c.args.n)
  unfolding cut_place
  places = ap (λ p. p - 1) (c.power-places.ensures ∙ ap (λ k. 2 ^ k) (add-one c.args.n))

  few_places : c.power-places.result - 1 ≤ 8191
  few_places = let e = c.power-places.ensures in let p = pow_mono {i = c.args.n + 1} {j = 13} (let f = few (goal.at.slice_bounds-classes-end c).In-Ok in omega arith) in omega arith

pub unwrap_err-requires : goal.unwrap_err-requires
unwrap_err-requires c = rw c.in_default.is refl

pub returns-in_default : goal.returns-in_default
returns-in_default c =
    let a = c.args in
    let refused = plan_refused a.n a.table.now a.limit c.plan_leaving_classes-planned.result c.plan_leaving_classes-planned.ensures.plans c.unwrap_err.result c.unwrap_err.ensures in
    handed_on a.n a.table.now a.limit a.image.now c.unwrap_err.result refused

pub overflow_add-n : goal.overflow_add-n
overflow_add-n c = let f = few c in Fits-of_lt (omega arith)

pub power-places-requires : goal.power-places-requires
power-places-requires c = let f = few c in omega arith

pub slice_bounds-classes-end : goal.slice_bounds-classes-end
slice_bounds-classes-end c = let f = few_places c in let l = c.plan_leaving_classes-planned.auto.classes in omega arith

pub slice_bounds-cuts-end : goal.slice_bounds-cuts-end
slice_bounds-cuts-end c = let f = few_places (goal.at.slice_bounds-cuts-end c).After-power-places in let l = c.plan_leaving_classes-planned.auto.classes in sym (length-take-le _ _ (omega arith))

pub slice_bounds-firsts-end : goal.slice_bounds-firsts-end
slice_bounds-firsts-end c = let f = few_places (goal.at.slice_bounds-firsts-end c).After-power-places in let l = c.plan_leaving_classes-planned.auto.firsts in omega arith

pub slice_bounds-cuts-end-2 : goal.slice_bounds-cuts-end-2
slice_bounds-cuts-end-2 c = let f = few_places (goal.at.slice_bounds-cuts-end-2 c).After-power-places in let l = c.plan_leaving_classes-planned.auto.firsts in sym (length-take-le _ _ (omega arith))

pub overflow_add-counts : goal.overflow_add-counts
overflow_add-counts c = let f = few (goal.at.overflow_add-counts c).In-Ok in Fits-of_lt (omega arith)

pub slice_bounds-counts-end : goal.slice_bounds-counts-end
slice_bounds-counts-end c = let f = few (goal.at.slice_bounds-counts-end c).In-Ok in let l = c.plan_leaving_classes-planned.auto.counts in omega arith

pub slice_bounds-cuts-end-3 : goal.slice_bounds-cuts-end-3
slice_bounds-cuts-end-3 c = let f = few (goal.at.slice_bounds-cuts-end-3 c).In-Ok in let l = c.plan_leaving_classes-planned.auto.counts in sym (length-take-le _ _ (omega arith))

pub invariant_of-cuts : goal.invariant_of-cuts
invariant_of-cuts c =
    let p = (goal.at.invariant_of-cuts c).After-power-places in
    let a = p.args in
    let plan = p.plan_leaving_classes-planned in
    let ready = classes_ready a.n a.table.now a.limit plan.result plan.ensures.plans p.in-Ok.grouping p.in-Ok.is plan.ensures.rows_left in
    record {
      admitted = admitted (goal.at.invariant_of-cuts c).In-Ok;
      classed = record {
        numbered = ap (λ k. take k plan.new.classes) (places p) ∙ ready.numbered;
        placed = ap (λ k. take k plan.new.firsts) (places p) ∙ ready.placed;
        counted = ap (λ k. take k plan.new.counts) (add-one a.n) ∙ ready.counted;
      };
    }

pub place_image-requires : goal.place_image-requires
place_image-requires c = planned_ready c.args.n c.args.table.now c.args.limit _ c.plan_leaving_classes-planned.ensures.plans c.in-Ok.grouping c.in-Ok.is

pub returns : goal.returns
returns c =
    let a = c.args in
    placed_compiles a.n a.table.now _ a.image.now a.limit c.place_image.result _
    (planned_groups a.n a.table.now a.limit c.plan_leaving_classes-planned.result c.plan_leaving_classes-planned.ensures.plans c.in-Ok.grouping c.in-Ok.is) c.place_image.ensures
