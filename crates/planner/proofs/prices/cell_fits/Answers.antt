-- `prices::cell_fits` meets its contract.
use mir.Facts.{Fits-of_lt}
use Rattle.planner.proofs.Laws.Pricing.{count_small, address_small, count_fits}
use Rattle.planner.proofs.prices.cell_fits.Goals as goal

pub overflow_cast-class_count : goal.overflow_cast-class_count
overflow_cast-class_count c = let a = c.args in Fits-of_lt (rw c.class_count.ensures (count_small a.cuts.now a.h a.g c.requires))

pub overflow_add-result : goal.overflow_add-result
overflow_add-result c = let a = c.args in Fits-of_lt (rw (c.rail_width.ensures, c.class_count.ensures) (address_small a.cuts.now a.h a.g c.requires))

pub returns : goal.returns
returns c = let a = c.args in rw (c.rail_width.ensures, c.class_count.ensures) (count_fits a.cuts.now.n a.cuts.now.table.now a.limit a.h a.g)
