-- `counts::list_cuts` meets its contract. The loop's invariant: the cuts before h are listed.
use Rattle.std.proofs.Common.{refl, sym, ◌∙◌, ap, add-one, set, arith}
use Rattle.numbers.specs.Lists.{numbers_from, padded}
use Rattle.reach.proofs.Laws.Counts.{list_next}
use Rattle.reach.proofs.counts.list_cuts.Goals as goal

pub loop-h-init : goal.loop-h-init
unfolding padded numbers_from
loop-h-init c = refl

pub loop-h-preserved : goal.loop-h-preserved
loop-h-preserved c =
    let h = c.loop-h.h in
    let l = c.loop-h-test.true in
    let p = c.requires in
    ap (λ cuts. set cuts h h) c.loop-h.invariant ∙ list_next h (omega arith) ∙ ap (λ k. padded 13 0 (numbers_from 0 k)) (sym (add-one h))
