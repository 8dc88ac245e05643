-- `commonest::commonest_of_cut` meets its contract.
use Prim.Native.Nat.{◌+◌, ◌-◌, ◌≤◌}
use mathlib.Core.Path.{◌∙◌, ap}
use native.Mathlib.Nat.{add-sub_cancel_left}
use lib.ListN.{length, take, drop}
use lib.Pow.{pow_pos}
use borrow.Author.Rules.{rules}
use Rattle.blocks.specs.Rows.{cut_place}
use Rattle.blocks.specs.Uses.{commonest}
use Rattle.blocks.specs.Inner.Layout.{in_cut}
use Rattle.classes.proofs.commonest.commonest_of_cut.Goals as goal
use Rattle.classes.proofs.commonest.commonest_of_cut.Goals.{After-power-start}

-- The classes of the cut stand in the row.
inside : (c : After-power-start) → c.power-start.result - 1 + c.args.count ≤ length c.args.use_counts.now
unfolding cut_place
inside c = rw c.power-start.ensures c.requires.1

pub overflow_sub-start : goal.overflow_sub-start
overflow_sub-start c = rw c.power-start.ensures (pow_pos c.args.h)

pub overflow_add-end : goal.overflow_add-end
overflow_add-end c = let i = inside c in search rules

pub offset_bounds-use_counts-start : goal.offset_bounds-use_counts-start
offset_bounds-use_counts-start c = let i = inside c in search rules

pub slice_bounds-commonest-end : goal.slice_bounds-commonest-end
slice_bounds-commonest-end c = inside c

pub returns : goal.returns
unfolding in_cut cut_place
returns c =
    let a = c.args in
    c.commonest.ensures
    ∙ ap (λ n. commonest (take n (drop (c.power-start.result - 1) a.use_counts.now))) (add-sub_cancel_left (c.power-start.result - 1) a.count)
    ∙ ap (λ p. commonest (take a.count (drop (p - 1) a.use_counts.now))) c.power-start.ensures
