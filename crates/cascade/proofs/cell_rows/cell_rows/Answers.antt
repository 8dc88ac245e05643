-- `cell_rows::cell_rows` meets its contract. The loop's invariant: the rows of the cells so far.
use Rattle.std.proofs.Common.{◌≡◌, ℕ, ◌+◌, ◌-◌, ◌*◌, List, length, replicate, ◌∙◌, ap, arith}
use Rattle.numbers.specs.Lists.{overwritten}
use Rattle.numbers.proofs.Laws.Overwriting.{part_back}
use Rattle.cascade.specs.Rows.{cell_row}
use Rattle.cascade.specs.Plan.{no_cell}
use Rattle.cascade.proofs.Laws.Rows.{no_rows, row_written, all_rows}
use Rattle.cascade.proofs.cell_rows.cell_rows.Goals as goal
use Rattle.cascade.proofs.cell_rows.cell_rows.Goals.{Start}

-- The row before the first cell.
abbrev blank : List ℕ
blank = replicate 84 0

-- There are 12 cells, with a place for each of their numbers.
module _ (c : Start) where
  count : length c.args.cells ≡ 12
  count = c.well_formed.0.1.0.1

  places : length blank ≡ 7 * length c.args.cells
  places = rw count

pub loop-k-init : goal.loop-k-init
loop-k-init c = let s = (goal.at.loop-k-init c).Start in no_rows s.args.cells blank (places s)

pub loop-k-preserved : goal.loop-k-preserved
unfolding no_cell cell_row
loop-k-preserved c =
    let s = (goal.at.loop-k-preserved c).Start in
    let l = c.loop-k-test.true in
    let new = c.copy_from_slice.ensures.after ∙ c.cell_row.ensures in
    row_written s.args.cells blank (places s) c.loop-k.k c.loop-k.rows c.loop-k.invariant (rw (count s) l)
    (part_back c.loop-k.rows (7 * c.loop-k.k) c.copy_from_slice.new.self (7 * c.loop-k.k + 7 - 7 * c.loop-k.k) (let e = ap length new in omega arith) ∙ ap (overwritten c.loop-k.rows (7 * c.loop-k.k)) new)

pub returns : goal.returns
returns c =
    let s = (goal.at.returns c).Start in
    let l = c.loop-k-test.false in
    all_rows s.args.cells blank (places s) c.loop-k.k c.loop-k.rows c.loop-k.invariant (rw (count s) l)
