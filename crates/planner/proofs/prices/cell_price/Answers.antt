-- `prices::cell_price` meets its contract.
use Rattle.std.proofs.Common.{◌∙◌, arith}
use mir.Facts.{Fits-of_lt}
use Rattle.planner.proofs.Laws.Pricing.{end_small, price_fits, price_is}
use Rattle.planner.proofs.prices.cell_price.Goals as goal

pub overflow_add-h : goal.overflow_add-h
overflow_add-h c = let a = c.args in Fits-of_lt (let e = end_small a.cuts.now a.h a.g c.requires in omega arith)

pub cell_bits-requires : goal.cell_bits-requires
cell_bits-requires c = let a = c.args in rw (c.class_count.ensures, c.class_count-2.ensures, c.cell_width-width.ensures) (price_fits a.cuts.now a.h a.g c.requires)

pub returns : goal.returns
returns c = let a = c.args in c.cell_bits.ensures ∙ (rw (c.class_count.ensures, c.class_count-2.ensures, c.cell_width-width.ensures) (price_is a.cuts.now.n a.cuts.now.table.now a.h a.g))
