-- `prices::cell_width` meets its contract. The loop's invariant: the extremes with the classes so far.
use Rattle.std.proofs.Common.{rules, ◌*◌, ◌^◌, ◌≡◌, sym, ◌∙◌, ap, ap₂, [], ◌∷◌, zero-mul, arith, length, w32, to_z-of_z}
use Rattle.numbers.specs.Widths.{weight_width}
use Rattle.blocks.specs.Classes.{class_count}
use Rattle.cascade.specs.Cascade.{words_of}
use Rattle.cascade.proofs.Laws.Words.{words_count}
use Rattle.planner.specs.Inner.Extremes.{extremes_of}
use Rattle.planner.proofs.Laws.Pricing.{extremes_none, extremes_all}
use Rattle.planner.proofs.prices.cell_width.Goals as goal

pub loop-class-init : goal.loop-class-init
loop-class-init c =
    let a = c.args in
    let k = a.cuts.now in
    extremes_none k.n k.table.now a.h a.g ∙ ap (extremes_of k.n k.table.now a.h a.g) (sym (zero-mul (2 ^ a.g)))

pub class_extremes-gathered-requires-clause-class_of_cut : goal.class_extremes-gathered-requires-clause-class_of_cut
class_extremes-gathered-requires-clause-class_of_cut c = (c.requires, let t = c.loop-class-test.true in let e = c.class_count-class-end.ensures in omega arith)

pub returns : goal.returns
returns c =
    let a = c.args in
    let k = a.cuts.now in
    let l = c.loop-class in
    let all : l.class * 2 ^ a.g ≡ length (words_of k.n k.table.now a.h a.g) =
    ap (λ k. k * 2 ^ a.g) (let q = c.class_count-class-end.ensures in let same : l.class ≡ class_count k.n k.table.now a.h = omega arith in same)
    ∙ sym (words_count k.n k.table.now a.h a.g) in
    c.weight_width.ensures
    ∙ ap₂ (λ x y. weight_width (x ∷ y ∷ [])) (to_z-of_z {w = w32} (record { sfits = search rules })) (to_z-of_z {w = w32} (record { sfits = search rules }))
    ∙ extremes_all k.n k.table.now a.h a.g (l.class * 2 ^ a.g) l.gathered l.invariant all
