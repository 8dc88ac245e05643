-- `cuts::class_cut` meets its contract. The loop's invariant: the rows hold what is known after the first j blocks.
use Rattle.std.proofs.Common.{◌≡◌, ◌≤◌, ◌<◌, refl, sym, subst, arith, length, length-take-le}
use Rattle.std.proofs.Math.ListN.{set}
use Rattle.classes.specs.Inner.Noting.{cut_rows, found_noted}
use Rattle.classes.proofs.Laws.Cut.{CutSoFar, cut_start, rows_few, blocks_before, class_few, cut_next, cut_done}
use Rattle.classes.proofs.cuts.class_cut.Goals as goal
use Rattle.classes.proofs.cuts.class_cut.Goals.{In-loop-j}

pub loop-j-init : goal.loop-j-init
loop-j-init c = cut_start c.args.table.now c.args.size (cut_rows 0 c.args.classes.now c.args.firsts.now c.args.tried.now c.args.uses.now c.args.use_counts.now) refl c.requires

-- In a turn: block j is one of the cut, and the known classes stand in front of the rows.
module _ (i : In-loop-j) where
  below : i.loop-j.j < length i.args.classes.now
  below = let t = i.loop-j-test.true in let r = i.loop-j.invariant.class_places in omega arith

  few : i.loop-j.count ≤ i.loop-j.j
  few = rows_few i.requires.cut i.loop-j.invariant below

  in_firsts : i.loop-j.count ≤ length i.loop-j.firsts
  in_firsts = let b = below in let f = few in let r = i.loop-j.invariant.first_places in omega arith

  in_use_counts : i.loop-j.count ≤ length i.loop-j.use_counts
  in_use_counts = let b = below in let f = few in let r = i.loop-j.invariant.use_count_places in omega arith

pub slice_bounds-find_block-end : goal.slice_bounds-find_block-end
slice_bounds-find_block-end c = in_firsts (goal.at.slice_bounds-find_block-end c).In-loop-j

pub slice_bounds-find_block-end-in-loop-j : goal.slice_bounds-find_block-end-in-loop-j
slice_bounds-find_block-end-in-loop-j c = sym (length-take-le _ _ (in_firsts (goal.at.slice_bounds-find_block-end-in-loop-j c).In-loop-j))

pub slice_bounds-find_block-end-in-loop-j-2 : goal.slice_bounds-find_block-end-in-loop-j-2
slice_bounds-find_block-end-in-loop-j-2 c = in_use_counts (goal.at.slice_bounds-find_block-end-in-loop-j-2 c).In-loop-j

pub slice_bounds-find_block-end-in-loop-j-3 : goal.slice_bounds-find_block-end-in-loop-j-3
slice_bounds-find_block-end-in-loop-j-3 c = sym (length-take-le _ _ (in_use_counts (goal.at.slice_bounds-find_block-end-in-loop-j-3 c).In-loop-j))

pub find_block-found-requires : goal.find_block-found-requires
find_block-found-requires c =
    let i = (goal.at.find_block-found-requires c).In-loop-j in
    rw c.latest_class-latest.ensures (blocks_before c.requires.cut c.loop-j.invariant (below i))

pub note_uses-requires : goal.note_uses-requires
note_uses-requires c =
    let i = (goal.at.note_uses-requires c).In-loop-j in
    (class_few c.requires.cut c.loop-j.invariant (below i) c.find_block-found.ensures, let b = below i in let r = c.loop-j.invariant.use_count_places in omega arith)

pub note_first-count-requires : goal.note_first-count-requires
note_first-count-requires c =
    let i = (goal.at.note_first-count-requires c).In-loop-j in
    (few i, let b = below i in let r = c.loop-j.invariant.first_places in omega arith)

pub loop-j-preserved : goal.loop-j-preserved
unfolding found_noted
loop-j-preserved c =
    let i = (goal.at.loop-j-preserved c).In-loop-j in
    let v = c.loop-j in
    let first = c.note_first-count in
    cut_next c.requires.cut v.invariant (below i) c.find_block-found.ensures
    (λ t. record {
      known = first.ensures.0 t;
      class_row = set v.classes v.j c.find_block-found.result.class;
      first_row = first.ensures.1 t;
      tried_row = set v.tried v.j c.find_block-found.result.tried;
      uses_row = set v.uses v.j c.find_block-found.result.uses;
      use_count_row = c.note_uses.ensures t;
    })

pub returns : goal.returns
returns c =
    let v = c.loop-j in
    let rows = cut_rows v.count v.classes v.firsts v.tried v.uses v.use_counts in
    cut_done c.args.table.now c.args.size (length c.args.classes.now) rows
    (subst (λ k. CutSoFar c.args.table.now c.args.size (length c.args.classes.now) k rows)
    (let t = c.loop-j-test.false in let l = v.invariant.inside in let r = v.invariant.class_places in let e : v.j ≡ length c.args.classes.now = omega arith in e)
    v.invariant)
