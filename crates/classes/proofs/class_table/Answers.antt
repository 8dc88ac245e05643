-- `classes::class_table` meets its contract: the rows of its own have room for all cuts.
use Prim.Native.Nat.{◌≤◌}
use mathlib.Core.Path.{sym, ◌∙◌}
use lib.ListN.{length}
use lib.Seq.{length-take-le}
use Rattle.numbers.specs.Ranges.{most_variables}
use Rattle.blocks.proofs.Laws.Cuts.{places_most}
use Rattle.classes.proofs.class_table.Goals as goal
use Rattle.classes.proofs.class_table.Goals.{Start}

module _ (c : Start) where
  few_places : length c.args.classes.now ≤ 8191
  unfolding most_variables
  few_places = let r = c.requires.cuts_room.0 in rw r.class_places (places_most c.args.n r.variables)

pub slice_bounds-tried-end : goal.slice_bounds-tried-end
slice_bounds-tried-end c = few_places (goal.at.slice_bounds-tried-end c).Start

pub slice_bounds-class_cuts-end : goal.slice_bounds-class_cuts-end
slice_bounds-class_cuts-end c = sym (length-take-le _ _ (few_places (goal.at.slice_bounds-class_cuts-end c).Start))

pub slice_bounds-uses-end : goal.slice_bounds-uses-end
slice_bounds-uses-end c = few_places (goal.at.slice_bounds-uses-end c).Start

pub slice_bounds-class_cuts-end-2 : goal.slice_bounds-class_cuts-end-2
slice_bounds-class_cuts-end-2 c = sym (length-take-le _ _ (few_places (goal.at.slice_bounds-class_cuts-end-2 c).Start))

pub class_cuts-requires : goal.class_cuts-requires
class_cuts-requires c =
    let d = (goal.at.class_cuts-requires c).Start in
    let places = length-take-le _ _ (few_places d) ∙ c.requires.cuts_room.0.class_places in
    record { cuts_room = (c.requires.cuts_room.0, record { tried_places = places; uses_places = places; use_count_places = c.requires.cuts_room.1 }); counts_len = c.requires.counts_len }

pub returns : goal.returns
returns c = let k = c.class_cuts in record { all_classed = k.ensures.all_classed; use_counts_after = k.ensures.all_searched.use_counted }
