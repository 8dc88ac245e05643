-- `Cuts::class_count` meets its contract.
use Rattle.std.proofs.Common.{◌∙◌, ap, get_or, arith}
use mir.Facts.{Fits-of_lt}
use Rattle.blocks.proofs.Laws.Places.{length_counts, count_at}
use Rattle.diagram.proofs.Laws.Checks.{variables_range}
use Rattle.diagram.proofs.cuts.Cuts.class_count.Goals as goal

pub offset_bounds-self-h : goal.offset_bounds-self-h
offset_bounds-self-h c = Fits-of_lt (let v = (variables_range _ c.args.self.now.admitted.variables).1 in let r = c.requires in omega arith)

pub bounds-self-h : goal.bounds-self-h
bounds-self-h c = rw (c.args.self.now.classed.counted, length_counts) (let r = c.requires in omega arith)

pub returns : goal.returns
returns c =
    let s = c.args.self.now in
    ap (λ row. get_or row c.args.h 0) s.classed.counted ∙ count_at s.n s.table.now c.args.h c.requires
