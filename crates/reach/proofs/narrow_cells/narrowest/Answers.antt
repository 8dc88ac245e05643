-- `narrow_cells::narrowest` meets its contract.
use Rattle.std.proofs.Common.{◌+◌, ◌≤◌, ◌≡◌, sym, ◌∙◌, ap, get_or, arith}
use mir.Facts.{Fits-of_lt}
use Rattle.numbers.specs.Widths.{rail_width}
use Rattle.numbers.proofs.Laws.Widths.{rail_width_least}
use Rattle.reach.specs.Inner.NarrowCells.{narrowest_in}
use Rattle.reach.proofs.Laws.NarrowCells.{count_ready}
use Rattle.reach.proofs.Laws.Reaching.{count_is, counts_ready}
use Rattle.reach.proofs.narrow_cells.narrowest.Goals as goal
use Rattle.reach.proofs.narrow_cells.narrowest.Goals.{After-class_count}

-- The class count stands in the row, and is small.
module _ (c : After-class_count) where
  standing : c.class_count.result ≡ get_or c.args.cuts.now.counts.now c.args.h 0
  standing = let s = c.args.cuts.now in c.class_count.ensures ∙ sym (count_is s.n s.table.now s.admitted s.classed.counted c.args.h c.requires)

  few : c.class_count.result ≤ 4096
  few = let s = c.args.cuts.now in rw standing ((count_ready (counts_ready s.n s.table.now s.admitted s.classed.counted) c.args.h c.requires).1)

pub overflow_cast-class_count : goal.overflow_cast-class_count
overflow_cast-class_count c = Fits-of_lt (let f = few (goal.at.overflow_cast-class_count c).After-class_count in omega arith)

pub overflow_add-result : goal.overflow_add-result
overflow_add-result c =
    let f = few (goal.at.overflow_add-result c).After-class_count in
    Fits-of_lt (let w = rail_width_least _ 12 f in let e = c.rail_width.ensures in omega arith)

pub returns : goal.returns
unfolding narrowest_in
returns c = ap (λ w. w + 1) (c.rail_width.ensures ∙ ap rail_width (standing (goal.at.returns c).After-class_count))
