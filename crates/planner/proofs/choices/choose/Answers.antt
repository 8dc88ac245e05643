-- `choices::choose` meets its contract. The loop's invariant: the sizes still to be tried lead to the choice.
use Rattle.std.proofs.Common.{◌+◌, ◌-◌, ◌≤◌, ◌<◌, sym, ◌∙◌, ap, arith, get_or}
use mir.Facts.{Fits-of_lt}
use Rattle.cascade.proofs.Laws.Cells.{variables_most}
use Rattle.cascade.specs.Inner.Choices.{offered}
use Rattle.std.specs.Prelude.{None}
use Rattle.planner.proofs.Laws.Choosing.{trying_all, size_ends, tried_fitting, tried_unfitting, tried_all, offer_small}
use Rattle.planner.proofs.choices.choose.Goals as goal
use Rattle.planner.proofs.choices.choose.Goals.{In-loop-g, then-cell_fits, else-cell_fits}

pub loop-g-init : goal.loop-g-init
loop-g-init c = trying_all c.requires

-- In a turn the size is one that is left, and its cell ends at one of the cuts.
within : (c : In-loop-g) → c.loop-g.g ≤ c.args.cuts.now.n - c.args.h
within c = c.loop-g.invariant.inside

ends : (c : In-loop-g) → c.args.h + c.loop-g.g ≤ c.args.cuts.now.n
ends c = size_ends c.requires c.loop-g.g (within c)

place : (c : In-loop-g) → c.args.h + c.loop-g.g < 13
place c = let e = ends c in let f = variables_most _ _ c.args.cuts.now.admitted in omega arith

pub cell_fits-requires : goal.cell_fits-requires
cell_fits-requires c = ends c

pub cell_price-price-requires : goal.cell_price-price-requires
cell_price-price-requires c = ends (goal.at.cell_price-price-requires c).In-loop-g

pub offset_bounds-choices-h : goal.offset_bounds-choices-h
offset_bounds-choices-h c = Fits-of_lt (let p = place (goal.at.offset_bounds-choices-h c).In-loop-g in omega arith)

pub bounds-choices-h : goal.bounds-choices-h
bounds-choices-h c = place (goal.at.bounds-choices-h c).In-loop-g

pub offer-best-requires : goal.offer-best-requires
offer-best-requires c =
    let i = (goal.at.offer-best-requires c).In-loop-g in
    rw c.cell_price-price.ensures (offer_small i.args.cuts.now.admitted i.requires i.loop-g.g i.loop-g-test.true (within i))

pub loop-g-preserved : goal.loop-g-preserved
loop-g-preserved c =
    let i = (goal.at.loop-g-preserved c).In-loop-g in
    let best = i.loop-g.best in
    let g = i.loop-g.g in
    elim c.if-cell_fits.branch [
      | then-cell_fits w ↦
          rw (w.best-is ∙ w.offer-best.ensures ∙ ap (λ price. offered g price (get_or c.args.choices.now (c.args.h + g) None) best) w.cell_price-price.ensures)
          (tried_fitting c.requires best g i.loop-g.invariant i.loop-g-test.true (sym c.cell_fits.ensures ∙ w.if-cell_fits.true))
      | else-cell_fits w ↦ rw w.best-is (tried_unfitting c.requires best g i.loop-g.invariant i.loop-g-test.true (sym c.cell_fits.ensures ∙ w.if-cell_fits.false))
    ]

pub returns : goal.returns
returns c = tried_all c.requires c.loop-g.best c.loop-g.g c.loop-g.invariant (let l = c.loop-g-test.false in omega arith)
