-- `classes::class_cuts` meets its contract. The loop's invariant: the rows hold the cuts before h. In a turn the parts of the rows that
-- belong to cut h are lent and come back.
use Rattle.std.proofs.Common.{◌≡◌, ◌≤◌, suc, arith}
use mir.Facts.{Fits-of_lt}
use Rattle.numbers.specs.Ranges.{most_variables}
use Rattle.classes.proofs.Laws.CutRows.{CutAt, count_small, within_classes, cut_room, cut_placed}
use Rattle.classes.proofs.Laws.AllCuts.{no_cut, cuts_next, cuts_end}
use Rattle.classes.proofs.class_cuts.Goals as goal
use Rattle.classes.proofs.class_cuts.Goals.{After-power-size, In-loop-h}

pub loop-h-init : goal.loop-h-init
loop-h-init c =
    no_cut c.args.n c.args.table.now c.args.classes.now c.args.firsts.now c.args.counts.now c.args.tried.now c.args.uses.now c.args.use_counts.now c.requires.cuts_room.0 c.requires.counts_len c.requires.cuts_room.1

-- In a turn: a cut's number is small.
module _ (i : In-loop-h) where
  small : i.loop-h.h ≤ 12
  unfolding most_variables
  small = let v = i.loop-h.invariant.rows.variables in let l = i.loop-h-test.true in omega arith

pub power-count-requires : goal.power-count-requires
power-count-requires c = let s = small c in omega arith

pub power-size-requires : goal.power-size-requires
unfolding most_variables
power-size-requires c = let v = c.loop-h.invariant.rows.variables in omega arith

-- What is known of the cut, from the two powers.
module _ (c : After-power-size) where
  known : CutAt c.args.n c.loop-h.h c.power-count.result c.power-size.result c.args.table.now c.loop-h.classes c.loop-h.firsts c.loop-h.tried c.loop-h.uses c.loop-h.use_counts
  known = record { rows = c.loop-h.invariant.rows; searches = c.loop-h.invariant.searches; cut = let l = c.loop-h-test.true in omega arith; is_count = c.power-count.ensures; is_size = c.power-size.ensures }

pub overflow_add-end : goal.overflow_add-end
overflow_add-end c = Fits-of_lt (let s = count_small (known c) in omega arith)

pub offset_bounds-classes-start : goal.offset_bounds-classes-start
offset_bounds-classes-start c = Fits-of_lt (let s = count_small (known c) in omega arith)

pub slice_bounds-class_cut-end : goal.slice_bounds-class_cut-end
slice_bounds-class_cut-end c = within_classes (known c)

pub class_cut-requires : goal.class_cut-requires
class_cut-requires c = cut_room (known (goal.at.class_cut-requires c).After-power-size)

pub loop-h-preserved : goal.loop-h-preserved
loop-h-preserved c =
    let k = c.class_cut in
    let p = (goal.at.loop-h-preserved c).After-power-size in
    let a = c.args in
    let v = c.loop-h in
    cuts_next a.n a.table.now v.h v.classes v.firsts v.counts v.tried v.uses v.use_counts v.invariant (known p).cut k.result _ _ _ _ _
    (cut_placed (known p) k.result k.new.classes k.new.firsts k.new.tried k.new.uses k.new.use_counts k.ensures)

pub returns : goal.returns
returns c =
    let v = c.loop-h in
    cuts_end (let i = v.invariant.inside in let l = c.loop-h-test.false in let e : v.h ≡ suc c.args.n = omega arith in e) v.invariant
