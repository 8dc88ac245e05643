-- `table::print_answer` is safe: the listing lies within the bytes written.
use Rattle.std.proofs.Common.{sym, length-take-le}
use Rattle.table.proofs.Laws.{listing_inside}
use Rattle.table.proofs.print_answer.Goals as goal

pub slice_bounds-out-end : goal.slice_bounds-out-end
slice_bounds-out-end g c = listing_inside _ _ c.list_text.result _ c.list_text.ensures _ c.in-Ok.is

pub slice_bounds-print_listing-end : goal.slice_bounds-print_listing-end
slice_bounds-print_listing-end g c = sym (length-take-le _ _ (listing_inside _ _ c.list_text.result _ c.list_text.ensures _ c.in-Ok.is))
