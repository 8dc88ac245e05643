-- `reach::reach` meets its contract: the fronts of the rows are lent and come back with the classes of all cuts.
use Prim.Native.Nat.{ℕ, suc, ◌+◌, ◌-◌, ◌^◌, ◌≤◌}
use mathlib.Core.Path.{◌≡◌, sym, ◌∙◌, ap, subst⁻¹}
use mathlib.Core.Bool.{true}
use mathlib.Core.List.{List, ◌++◌}
use native.Mathlib.Numerals.{add-one}
use native.Mathlib.Omega.{arith}
use lib.ListN.{length, take, drop, length-append}
use lib.Seq.{length-take-le, take_at}
use lib.Pow.{pow_pos}
use mir.Facts.{Fits-of_lt}
use Rattle.std.specs.Prelude.{Ok}
use Rattle.std.proofs.lemmas.Grind.{common_steps}
use Rattle.numbers.specs.Ranges.{is_limit, most_variables}
use Rattle.blocks.specs.Rows.{cut_place}
use Rattle.blocks.proofs.Laws.Cuts.{places_most}
use Rattle.diagram.specs.Accepted.{Accepted}
use Rattle.numbers.specs.Refusals.{answer_of}
use Rattle.cascade.proofs.Laws.Cells.{variables_most}
use Rattle.reach.specs.Reach.{Reaches}
use Rattle.reach.specs.declared.Reached.{Reached}
use Rattle.reach.proofs.Laws.Checks.{call_refused, call_admits}
use Rattle.reach.proofs.Laws.Reaching.{counts_reach, refused_reaches}
use Rattle.reach.proofs.reach.Goals as goal
use Rattle.reach.proofs.reach.Goals.{After-class_table, After-power-places, In_ok-check_call}

-- ---- a call that passed the checks
module _ (c : In_ok-check_call) where
  admitted : Accepted c.args.n c.args.table.now × (is_limit c.args.limit ≡ true)
  unfolding answer_of
  admitted = call_admits c.args.n c.args.table.now c.args.limit (sym c.in_ok-check_call.ensures)

  few : c.args.n ≤ 12
  few = variables_most c.args.n c.args.table.now admitted.0

pub overflow_add-n : goal.overflow_add-n
overflow_add-n c = Fits-of_lt (let f = few c in omega arith)

pub overflow_add-counts : goal.overflow_add-counts
overflow_add-counts c = Fits-of_lt (let f = few (goal.at.overflow_add-counts c).In_ok-check_call in omega arith)

pub power-places-requires : goal.power-places-requires
power-places-requires c = let f = few c in omega arith

-- The rows' places.
module _ (c : After-power-places) where
  abbrev n : ℕ
  n = c.args.n

  places : c.power-places.result - 1 ≡ cut_place (suc n)
  unfolding cut_place
  places = ap (λ p. p - 1) (c.power-places.ensures ∙ ap (λ k. 2 ^ k) (add-one n))

  few_places : c.power-places.result - 1 ≤ 8191
  few_places = rw places (places_most n (few (goal.at.overflow_sub-places c).In_ok-check_call))

  few_counts : n + 1 ≤ 13
  few_counts = let f = few (goal.at.overflow_sub-places c).In_ok-check_call in omega arith

pub overflow_sub-places : goal.overflow_sub-places
overflow_sub-places c = rw c.power-places.ensures (pow_pos (n c + 1))

pub slice_bounds-classes-end : goal.slice_bounds-classes-end
slice_bounds-classes-end c = few_places c

pub slice_bounds-class_table-end : goal.slice_bounds-class_table-end
slice_bounds-class_table-end c = sym (length-take-le _ _ (few_places (goal.at.slice_bounds-class_table-end c).After-power-places))

pub slice_bounds-firsts-end : goal.slice_bounds-firsts-end
slice_bounds-firsts-end c = few_places (goal.at.slice_bounds-firsts-end c).After-power-places

pub slice_bounds-class_table-end-2 : goal.slice_bounds-class_table-end-2
slice_bounds-class_table-end-2 c = sym (length-take-le _ _ (few_places (goal.at.slice_bounds-class_table-end-2 c).After-power-places))

pub slice_bounds-counts-end : goal.slice_bounds-counts-end
slice_bounds-counts-end c = few_counts (goal.at.slice_bounds-counts-end c).After-power-places

pub slice_bounds-class_table-end-3 : goal.slice_bounds-class_table-end-3
slice_bounds-class_table-end-3 c = sym (length-take-le _ _ (few_counts (goal.at.slice_bounds-class_table-end-3 c).After-power-places))

pub slice_bounds-use_counts-end : goal.slice_bounds-use_counts-end
slice_bounds-use_counts-end c = few_places (goal.at.slice_bounds-use_counts-end c).After-power-places

pub slice_bounds-class_table-end-4 : goal.slice_bounds-class_table-end-4
slice_bounds-class_table-end-4 c = sym (length-take-le _ _ (few_places (goal.at.slice_bounds-class_table-end-4 c).After-power-places))

pub class_table-requires : goal.class_table-requires
unfolding most_variables
class_table-requires c =
    let p = (goal.at.class_table-requires c).After-power-places in record {
      cuts_room = (
        record {
          variables = few (goal.at.class_table-requires c).In_ok-check_call;
          whole = (admitted (goal.at.class_table-requires c).In_ok-check_call).0.size;
          class_places = length-take-le _ _ (few_places p) ∙ places p;
          first_places = length-take-le _ _ (few_places p) ∙ places p;
        },
        length-take-le _ _ (few_places p) ∙ places p,
      );
      counts_len = length-take-le _ _ (few_counts p) ∙ add-one (n p);
    }

-- The rows come back as long as they were lent, and are looked at.
back : (k : ℕ) (row left : List ℕ) → k ≤ length row → length left ≡ length (take k row) → k ≤ length (left ++ drop k row)
back k row left inside same = let l = length-take-le k row inside in rw length-append (omega arith)

front : (k : ℕ) (row left : List ℕ) → k ≤ length row → length left ≡ length (take k row) → take k (left ++ drop k row) ≡ left
front k row left inside same = take_at left (drop k row) k (same ∙ length-take-le k row inside)

pub slice_bounds-classes-end-2 : goal.slice_bounds-classes-end-2
slice_bounds-classes-end-2 c = back _ _ _ (few_places (goal.at.slice_bounds-classes-end-2 c).After-power-places) c.class_table.auto.classes

pub slice_bounds-cuts-end : goal.slice_bounds-cuts-end
slice_bounds-cuts-end c = sym (length-take-le _ _ (back _ _ _ (few_places (goal.at.slice_bounds-cuts-end c).After-power-places) c.class_table.auto.classes))

pub slice_bounds-firsts-end-2 : goal.slice_bounds-firsts-end-2
slice_bounds-firsts-end-2 c = back _ _ _ (few_places (goal.at.slice_bounds-firsts-end-2 c).After-power-places) c.class_table.auto.firsts

pub slice_bounds-cuts-end-2 : goal.slice_bounds-cuts-end-2
slice_bounds-cuts-end-2 c = sym (length-take-le _ _ (back _ _ _ (few_places (goal.at.slice_bounds-cuts-end-2 c).After-power-places) c.class_table.auto.firsts))

pub overflow_add-counts-2 : goal.overflow_add-counts-2
overflow_add-counts-2 c = Fits-of_lt (let f = few (goal.at.overflow_add-counts-2 c).In_ok-check_call in omega arith)

pub slice_bounds-counts-end-2 : goal.slice_bounds-counts-end-2
slice_bounds-counts-end-2 c = back _ _ _ (few_counts (goal.at.slice_bounds-counts-end-2 c).After-power-places) c.class_table.auto.counts

pub slice_bounds-cuts-end-3 : goal.slice_bounds-cuts-end-3
slice_bounds-cuts-end-3 c = sym (length-take-le _ _ (back _ _ _ (few_counts (goal.at.slice_bounds-cuts-end-3 c).After-power-places) c.class_table.auto.counts))

pub invariant_of-cuts : goal.invariant_of-cuts
invariant_of-cuts c =
    let p = (goal.at.invariant_of-cuts c).After-power-places in
    let good = (admitted (goal.at.invariant_of-cuts c).In_ok-check_call).0 in
    let left = c.class_table.auto in
    let classed = c.class_table.ensures.all_classed in
    record {
      admitted = good;
      classed = record {
        numbered = front _ _ _ (few_places p) left.classes ∙ classed.numbered;
        placed = front _ _ _ (few_places p) left.firsts ∙ classed.placed;
        counted = front _ _ _ (few_counts p) left.counts ∙ classed.counted;
      };
    }

-- ---- what is answered
pub returns-in_err-check_call : goal.returns-in_err-check_call
unfolding answer_of
returns-in_err-check_call c =
    let a = c.args in
    let law = refused_reaches a.n a.table.now a.limit _ (call_refused a.n a.table.now a.limit _ (sym c.in_err-check_call.ensures)) in
    grind (arith, common_steps)

pub returns : goal.returns
returns c =
    let k = (goal.at.returns c).After-class_table in
    let p = (goal.at.returns c).After-power-places in
    let a = c.args in
    let good = admitted (goal.at.returns c).In_ok-check_call in
    let counted = front _ _ _ (few_counts p) k.class_table.auto.counts ∙ k.class_table.ensures.all_classed.counted in
    subst⁻¹ (λ (r : Reached). Reaches a.n a.table.now a.limit (Ok r)) c.reach_counts.ensures (counts_reach a.n a.table.now good.0 counted a.limit good.1)
