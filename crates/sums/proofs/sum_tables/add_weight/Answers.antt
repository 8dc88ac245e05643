-- `sum_tables::add_weight` meets its contract. The loop's invariant: so many of the first numbers are written once more, each with
-- the weight added.
use Rattle.std.proofs.Common.{◌≡◌, ◌∙◌, ap, ap₂, map, take, ◌+◌, ◌^◌, ◌<◌, List, length, get_or, set, ℤ, pos, ◌+ℤ◌, FitsSigned, to_z, of_z, w32, arith}
use Rattle.std.specs.Int.Signed.{mag}
use Rattle.std.proofs.lemmas.Int.{to_z-of_z}
use Rattle.numbers.specs.Lists.{overwritten}
use Rattle.numbers.proofs.Laws.Bounds.{value_mag}
use Rattle.numbers.proofs.Laws.Machine.{mag_add}
use Rattle.sums.proofs.Laws.Filling.{changed_none, changed_more, next_before}
use Rattle.sums.proofs.sum_tables.add_weight.Goals as goal
use Rattle.sums.proofs.sum_tables.add_weight.Goals.{In-loop-x}

pub loop-x-init : goal.loop-x-init
loop-x-init c = changed_none (λ v. v +ℤ to_z w32 (of_z w32 c.args.weight)) c.args.table.now c.args.half

-- One turn: the number that is read is one of the first, and its sum is of 32 bits.
module _ (c : In-loop-x) where
  abbrev add : ℤ → ℤ
  add v = v +ℤ to_z w32 (of_z w32 c.args.weight)

  abbrev row : List ℤ
  row = c.args.table.now

  abbrev value : ℤ
  value = get_or row c.loop-x.x (pos 0)

  first : c.loop-x.x < c.args.half
  first = c.loop-x-test.true

  room : c.args.half + c.loop-x.x < length row
  room = let r = c.requires.room in let f = first in omega arith

  read : to_z w32 (of_z w32 (get_or c.loop-x.table c.loop-x.x (pos 0))) ≡ value
  read =
      let r = room in
      let s = c.requires.small c.loop-x.x first in
      ap (λ z. to_z w32 (of_z w32 z)) (next_before add row c.args.half c.loop-x.x (omega arith) room c.loop-x.invariant first)
      ∙ to_z-of_z w32 value (let l : mag value < 2 ^ 31 = omega arith in record { sfits = l })

  fits : FitsSigned w32 (add value)
  fits =
      let w = c.args.weight in
      let a = c.requires.small c.loop-x.x first in
      let b = value_mag w c.requires.value in
      let m = mag_add value w in
      let l : mag (value +ℤ w) < 2 ^ 31 = omega arith in
      rw (to_z-of_z w32 w c.ranges.weight) (record { sfits = l })

  more : set c.loop-x.table (c.args.half + c.loop-x.x) (add value) ≡ overwritten row c.args.half (map add (take (c.loop-x.x + 1) row))
  more = let r = room in changed_more add row c.args.half c.loop-x.x (omega arith) r c.loop-x.invariant

pub overflow_add-table : goal.overflow_add-table
overflow_add-table c = let d = (goal.at.overflow_add-table c).In-loop-x in rw (read d) (fits d)

pub loop-x-preserved : goal.loop-x-preserved
loop-x-preserved c =
    let d = (goal.at.loop-x-preserved c).In-loop-x in
    rw (read d, to_z-of_z w32 (add d (value d)) (fits d)) (more d)

pub returns : goal.returns
returns c =
    let a = c.args in
    let l = c.loop-x in
    let last : l.x ≡ a.half = (let t = c.loop-x-test.false in let m = l.auto in omega arith) in
    l.invariant ∙ ap₂ (λ w k. overwritten a.table.now a.half (map (λ v. v +ℤ w) (take k a.table.now))) (to_z-of_z w32 a.weight c.ranges.weight) last
