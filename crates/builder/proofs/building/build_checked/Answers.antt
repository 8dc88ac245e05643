-- `building::build_checked` meets its contract.
use Rattle.std.specs.Prelude.{suc, ◌+◌, ◌-◌, ◌^◌, ◌≤◌, ◌≡◌}
use Rattle.std.proofs.Common.{sym, ◌∙◌, ap, add-one, arith, pow_pos, pow_mono, length-take-le, to_z-of_z}
use Rattle.std.specs.Int.{w32}
use mir.Facts.{Fits-of_lt}
use borrow.Author.Rules.{sfits_of}
use Rattle.numbers.specs.Ranges.{most_variables}
use Rattle.blocks.specs.Rows.{cut_place}
use Rattle.diagram.proofs.Laws.Builds.{build_short, build_done}
use Rattle.diagram.proofs.Laws.Checks.{variables_range}
use Rattle.diagram.proofs.Laws.Numbering.{records_room}
use Rattle.builder.proofs.building.build_checked.Goals as goal
use Rattle.builder.proofs.building.build_checked.Goals.{After-power-places, Start}

few : (c : Start) → c.args.n ≤ 12
few c = (variables_range c.args.n c.requires.variables).1

pub node_room-requires : goal.node_room-requires
node_room-requires c = few c

pub returns-then-nodes-node_room : goal.returns-then-nodes-node_room
returns-then-nodes-node_room c = build_short c.args.n c.args.table.now c.requires c.args.nodes.now (rw c.node_room.ensures at c.if-nodes-node_room.true)

pub overflow_add-n : goal.overflow_add-n
overflow_add-n c = let f = few (goal.at.overflow_add-n c).Start in Fits-of_lt (omega arith)

pub power-places-requires : goal.power-places-requires
power-places-requires c = let f = few (goal.at.power-places-requires c).Start in omega arith

-- The rows' places.
places : (c : After-power-places) → c.power-places.result - 1 ≡ cut_place (suc c.args.n)
unfolding cut_place
places c = ap (λ p. p - 1) (c.power-places.ensures ∙ ap (λ k. 2 ^ k) (add-one c.args.n))

few_places : (c : After-power-places) → c.power-places.result - 1 ≤ 8191
few_places c = let e = c.power-places.ensures in let p = pow_mono {i = c.args.n + 1} {j = 13} (let f = few (goal.at.overflow_sub-places c).Start in omega arith) in omega arith

pub overflow_sub-places : goal.overflow_sub-places
overflow_sub-places c = rw c.power-places.ensures (pow_pos (c.args.n + 1))

pub slice_bounds-classes-end : goal.slice_bounds-classes-end
slice_bounds-classes-end c = few_places (goal.at.slice_bounds-classes-end c).After-power-places

pub slice_bounds-classes-end-2 : goal.slice_bounds-classes-end-2
slice_bounds-classes-end-2 c = sym (length-take-le _ _ (few_places (goal.at.slice_bounds-classes-end-2 c).After-power-places))

pub slice_bounds-firsts-end : goal.slice_bounds-firsts-end
slice_bounds-firsts-end c = few_places (goal.at.slice_bounds-firsts-end c).After-power-places

pub slice_bounds-firsts-end-2 : goal.slice_bounds-firsts-end-2
slice_bounds-firsts-end-2 c = sym (length-take-le _ _ (few_places (goal.at.slice_bounds-firsts-end-2 c).After-power-places))

pub overflow_add-n-2 : goal.overflow_add-n-2
overflow_add-n-2 c = let f = few (goal.at.overflow_add-n-2 c).Start in Fits-of_lt (omega arith)

pub slice_bounds-counts-end : goal.slice_bounds-counts-end
slice_bounds-counts-end c = let f = few (goal.at.slice_bounds-counts-end c).Start in omega arith

pub slice_bounds-counts-end-2 : goal.slice_bounds-counts-end-2
slice_bounds-counts-end-2 c = sym (length-take-le _ _ (let f = few (goal.at.slice_bounds-counts-end-2 c).Start in omega arith))

pub slice_bounds-use_counts-end : goal.slice_bounds-use_counts-end
slice_bounds-use_counts-end c = few_places (goal.at.slice_bounds-use_counts-end c).After-power-places

pub slice_bounds-use_counts-end-2 : goal.slice_bounds-use_counts-end-2
slice_bounds-use_counts-end-2 c = sym (length-take-le _ _ (few_places (goal.at.slice_bounds-use_counts-end-2 c).After-power-places))

pub class_table-requires : goal.class_table-requires
unfolding most_variables
class_table-requires c =
    let p = (goal.at.class_table-requires c).After-power-places in
    let s = (goal.at.class_table-requires c).Start in
    record {
      cuts_room = (
        record { variables = few s; whole = s.requires.size; class_places = length-take-le _ _ (few_places p) ∙ places p; first_places = length-take-le _ _ (few_places p) ∙ places p },
        length-take-le _ _ (few_places p) ∙ places p,
      );
      counts_len = length-take-le _ _ (let f = few s in omega arith) ∙ add-one s.args.n;
    }

pub overflow_add-result : goal.overflow_add-result
overflow_add-result c =
    let s = (goal.at.overflow_add-result c).Start in
    let r = records_room s.args.n s.args.table.now in
    let p = pow_mono {i = s.args.n} {j = 12} (few s) in
    let e = c.write_records-made.ensures.counted in
    Fits-of_lt (omega arith)

pub returns : goal.returns
returns c =
    build_done c.args.n c.args.table.now c.requires c.args.nodes.now _
    (rw c.node_room.ensures at c.if-nodes-node_room.false)
    c.write_records-made.ensures
    (to_z-of_z {w = w32} (sfits_of c.first_value.type_inv) ∙ c.first_value.ensures)
