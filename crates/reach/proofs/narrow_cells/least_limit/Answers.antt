-- `narrow_cells::least_limit` meets its contract. The loop's invariant: the widest so far is that of the cells from the cuts above h.
use Rattle.std.proofs.Common.{◌≡◌, refl, sym, ◌∙◌, ap, ap₂, add-one, arith}
use Rattle.std.specs.Prelude.{max}
use Rattle.numbers.proofs.Laws.Comparing.{nat_max}
use Rattle.reach.specs.Inner.Narrowest.{widest_above}
use Rattle.reach.specs.Inner.NarrowCells.{narrowest_in}
use Rattle.reach.proofs.narrow_cells.least_limit.Goals as goal

pub loop-h-init : goal.loop-h-init
unfolding widest_above
loop-h-init c = refl

pub loop-h-preserved : goal.loop-h-preserved
unfolding widest_above
loop-h-preserved c =
    let address = narrowest_in c.args.cuts.now.counts.now in
    c.max-least.ensures ∙ nat_max c.loop-h.least c.narrowest.result ∙ ap₂ max c.loop-h.invariant c.narrowest.ensures ∙ ap (widest_above address) (sym (add-one c.loop-h.h))

pub returns : goal.returns
returns c =
    let done : c.loop-h.h ≡ c.args.cuts.now.n = (let l = c.loop-h-test.false in let i = c.loop-h.auto in omega arith) in
    c.loop-h.invariant ∙ ap (widest_above (narrowest_in c.args.cuts.now.counts.now)) done
