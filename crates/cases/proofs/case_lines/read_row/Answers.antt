-- `case_lines::read_row` meets its contract. The loop's invariant: the numbers so far are found, and stand in front of the row.
use Rattle.std.proofs.Common.{◌≡◌, length, sym, subst, le_refl, arith, w32, to_z, of_z, rules}
use Rattle.decimal.proofs.Laws.Items.{Seen, item_seen}
use Rattle.decimal.proofs.Laws.Positions.{start_place}
use Rattle.decimal.proofs.Laws.Values.{no_values, values_kept, next_value}
use Rattle.cases.specs.Text.{ReadsRow}
use Rattle.cases.proofs.Laws.Text.{row_full, nothing_here}
use Rattle.cases.proofs.case_lines.read_row.Goals as goal
use Rattle.cases.proofs.case_lines.read_row.Goals.{After-next_item, At-loop-count}

-- The row is as long as before.
kept : (c : At-loop-count) → length c.loop-count.row ≡ length c.args.row.now
kept c = values_kept c.args.line.now _ _ c.args.row.now c.loop-count.invariant (le_refl _)

-- What comes next, as it is seen.
seen : (c : After-next_item) → Seen c.args.line.now c.loop-count.place c.next_item.result
seen c = subst (Seen c.args.line.now c.loop-count.place) (sym c.next_item.ensures) (item_seen c.loop-count.invariant.placed)

pub loop-count-init : goal.loop-count-init
loop-count-init c = let a = c.args in no_values a.line.now _ _ a.row.now (start_place a.line.now)

pub returns-in_default : goal.returns-in_default
returns-in_default c = nothing_here c.loop-count.invariant c.next_item.result c.in_default.not-Ok (seen (goal.at.returns-in_default c).After-next_item)

pub loop-count-preserved : goal.loop-count-preserved
loop-count-preserved c =
    let a = c.args in
    let k = kept (goal.at.loop-count-preserved c).At-loop-count in
    let t = c.loop-count-test.true in
    let number = c.in-Ok.item.number in
    let back : to_z w32 (of_z w32 number) ≡ number = search rules in
    let value = subst (Seen a.line.now c.loop-count.place) c.in-Ok.is (seen (goal.at.loop-count-preserved c).After-next_item) in
    rw (c.from-place.ensures, back) (next_value a.line.now _ _ a.row.now c.loop-count.invariant (omega arith) (le_refl _) value)

pub returns : goal.returns
returns c =
    let l = (goal.at.returns c).At-loop-count in
    let k = kept l in
    let t = c.loop-count-test.false in
    let f = c.loop-count.invariant.few in
    let all : c.loop-count.count ≡ length c.loop-count.row = omega arith in
    subst (λ count. ReadsRow c.args.line.now c.args.row.now count c.loop-count.row) all (row_full c.loop-count.invariant (omega arith))
