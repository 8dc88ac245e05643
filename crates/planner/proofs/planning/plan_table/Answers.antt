-- `planning::plan_table` meets its contract: the fronts of the rows are lent and come back.
use Rattle.std.proofs.Common.{suc, ◌+◌, ◌-◌, ◌^◌, ◌≤◌, ◌≡◌, sym, ◌∙◌, ap, add-one, arith, length, length-take-le, pow_pos, pow_mono}
use mir.Facts.{Fits-of_lt}
use Rattle.numbers.specs.Ranges.{most_variables}
use Rattle.numbers.proofs.Laws.Rows.{filled_front}
use Rattle.blocks.specs.Rows.{cut_place, all_numbers, all_firsts, all_counts}
use Rattle.blocks.proofs.Laws.Places.{length_numbers, length_firsts, length_counts}
use Rattle.cascade.proofs.Laws.Cells.{variables_most}
use Rattle.planner.proofs.Laws.Rows.{front_back}
use Rattle.planner.proofs.planning.plan_table.Goals as goal
use Rattle.planner.proofs.planning.plan_table.Goals.{After-power-places, Start}

few : (c : Start) → c.args.n ≤ 12
few c = variables_most c.args.n c.args.table.now c.requires.accepted.0

pub overflow_add-n : goal.overflow_add-n
overflow_add-n c = Fits-of_lt (let f = few (goal.at.overflow_add-n c).Start in omega arith)

pub power-places-requires : goal.power-places-requires
power-places-requires c = let f = few (goal.at.power-places-requires c).Start in omega arith

-- The rows' places.
module _ (c : After-power-places) where
  places : c.power-places.result - 1 ≡ cut_place (suc c.args.n)
  unfolding cut_place
  places = ap (λ p. p - 1) (c.power-places.ensures ∙ ap (λ k. 2 ^ k) (add-one c.args.n))

  few_places : c.power-places.result - 1 ≤ 8191
  few_places = let e = c.power-places.ensures in let p = pow_mono {i = c.args.n + 1} {j = 13} (let f = few (goal.at.overflow_sub-places c).Start in omega arith) in omega arith

  in_classes : c.power-places.result - 1 ≤ length c.args.classes.now
  in_classes = let f = few_places in let r = c.requires.rows_room.class_places in omega arith

  in_firsts : c.power-places.result - 1 ≤ length c.args.firsts.now
  in_firsts = let f = few_places in let r = c.requires.rows_room.first_places in omega arith

  in_counts : c.args.n + 1 ≤ length c.args.counts.now
  in_counts = let f = few (goal.at.overflow_sub-places c).Start in let r = c.requires.rows_room.count_places in omega arith

pub overflow_sub-places : goal.overflow_sub-places
overflow_sub-places c = rw c.power-places.ensures (pow_pos (c.args.n + 1))

pub slice_bounds-use_counts-end : goal.slice_bounds-use_counts-end
slice_bounds-use_counts-end c = few_places c

pub slice_bounds-use_counts-end-2 : goal.slice_bounds-use_counts-end-2
slice_bounds-use_counts-end-2 c = sym (length-take-le _ _ (few_places (goal.at.slice_bounds-use_counts-end-2 c).After-power-places))

-- The rows' fronts are lent.
pub slice_bounds-class_table-end : goal.slice_bounds-class_table-end
slice_bounds-class_table-end c = in_classes (goal.at.slice_bounds-class_table-end c).After-power-places

pub slice_bounds-class_table-end-2 : goal.slice_bounds-class_table-end-2
slice_bounds-class_table-end-2 c = sym (length-take-le _ _ (in_classes (goal.at.slice_bounds-class_table-end-2 c).After-power-places))

pub slice_bounds-class_table-end-3 : goal.slice_bounds-class_table-end-3
slice_bounds-class_table-end-3 c = in_firsts (goal.at.slice_bounds-class_table-end-3 c).After-power-places

pub slice_bounds-class_table-end-4 : goal.slice_bounds-class_table-end-4
slice_bounds-class_table-end-4 c = sym (length-take-le _ _ (in_firsts (goal.at.slice_bounds-class_table-end-4 c).After-power-places))

pub overflow_add-n-2 : goal.overflow_add-n-2
overflow_add-n-2 c = let f = few (goal.at.overflow_add-n-2 c).Start in Fits-of_lt (omega arith)

pub slice_bounds-class_table-end-5 : goal.slice_bounds-class_table-end-5
slice_bounds-class_table-end-5 c = in_counts (goal.at.slice_bounds-class_table-end-5 c).After-power-places

pub slice_bounds-class_table-end-6 : goal.slice_bounds-class_table-end-6
slice_bounds-class_table-end-6 c = sym (length-take-le _ _ (in_counts (goal.at.slice_bounds-class_table-end-6 c).After-power-places))

pub class_table-requires : goal.class_table-requires
unfolding most_variables
class_table-requires c =
    let p = (goal.at.class_table-requires c).After-power-places in
    let s = (goal.at.class_table-requires c).Start in
    record {
      cuts_room = (
        record { variables = few s; whole = s.requires.accepted.0.size; class_places = length-take-le _ _ (in_classes p) ∙ places p; first_places = length-take-le _ _ (in_firsts p) ∙ places p },
        length-take-le _ _ (few_places p) ∙ places p,
      );
      counts_len = length-take-le _ _ (in_counts p) ∙ add-one s.args.n;
    }

-- They come back as long as they were, and are looked at.
pub slice_bounds-cuts-end : goal.slice_bounds-cuts-end
slice_bounds-cuts-end c = front_back _ _ _ (in_classes (goal.at.slice_bounds-cuts-end c).After-power-places) c.class_table.auto.classes

pub slice_bounds-cuts-end-2 : goal.slice_bounds-cuts-end-2
slice_bounds-cuts-end-2 c = sym (length-take-le _ _ (front_back _ _ _ (in_classes (goal.at.slice_bounds-cuts-end-2 c).After-power-places) c.class_table.auto.classes))

pub slice_bounds-cuts-end-3 : goal.slice_bounds-cuts-end-3
slice_bounds-cuts-end-3 c = front_back _ _ _ (in_firsts (goal.at.slice_bounds-cuts-end-3 c).After-power-places) c.class_table.auto.firsts

pub slice_bounds-cuts-end-4 : goal.slice_bounds-cuts-end-4
slice_bounds-cuts-end-4 c = sym (length-take-le _ _ (front_back _ _ _ (in_firsts (goal.at.slice_bounds-cuts-end-4 c).After-power-places) c.class_table.auto.firsts))

pub overflow_add-cuts : goal.overflow_add-cuts
overflow_add-cuts c = let f = few (goal.at.overflow_add-cuts c).Start in Fits-of_lt (omega arith)

pub slice_bounds-cuts-end-5 : goal.slice_bounds-cuts-end-5
slice_bounds-cuts-end-5 c = front_back _ _ _ (in_counts (goal.at.slice_bounds-cuts-end-5 c).After-power-places) c.class_table.auto.counts

pub slice_bounds-cuts-end-6 : goal.slice_bounds-cuts-end-6
slice_bounds-cuts-end-6 c = sym (length-take-le _ _ (front_back _ _ _ (in_counts (goal.at.slice_bounds-cuts-end-6 c).After-power-places) c.class_table.auto.counts))

pub returns-clause-rows_filled : goal.returns-clause-rows_filled
returns-clause-rows_filled c =
    let p = (goal.at.returns-clause-rows_filled c).After-power-places in
    let a = c.args in
    let k = c.class_table.ensures.all_classed in
    record {
      numbered = filled_front a.classes.now (all_numbers a.n a.table.now) k.numbered (places p ∙ sym (length_numbers a.n a.table.now));
      placed = filled_front a.firsts.now (all_firsts a.n a.table.now) k.placed (places p ∙ sym (length_firsts a.n a.table.now));
      counted = filled_front a.counts.now (all_counts a.n a.table.now) k.counted (add-one a.n ∙ sym (length_counts a.n a.table.now));
    }
