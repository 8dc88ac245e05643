-- `cells::write_cells` meets its contract. The loop's invariant: the cells so far stand behind the table command.
use Rattle.std.specs.Prelude.{ℕ, ◌+◌, ◌-◌, ◌≤◌, ◌<◌, ◌≡◌, List, length, get_or, take, drop}
use Rattle.std.proofs.Common.{rules, sym, ◌∙◌, ap, arith, length-take-le, length-drop}
use mir.Facts.{Fits-of_lt}
use Rattle.numbers.proofs.Laws.Written.{tail_back}
use Rattle.cascade.proofs.Laws.Cells.{variables_most}
use Rattle.cascade.specs.Cascade.{cell_of}
use Rattle.cascade.specs.declared.Cell.{Cell as PlanCell}
use Rattle.compiler.specs.Inner.Lengths.{planned_bytes}
use Rattle.compiler.specs.Inner.WordWriting.{CellPlanned}
use Rattle.compiler.specs.Inner.Writing.{cell_bytes, cell_groups}
use Rattle.compiler.proofs.Laws.Words.{small}
use Rattle.compiler.proofs.Laws.Cells.{inside, size_is, next_planned, no_cells, cell_room, next_cell, cells_kept, all_cells, groups_count, planned_length_lem}
use Rattle.compiler.proofs.cells.write_cells.Goals as goal
use Rattle.compiler.proofs.cells.write_cells.Goals.{In-loop-cell}

pub loop-cell-init : goal.loop-cell-init
loop-cell-init c = no_cells c.args.cuts.now.n c.args.cuts.now.table.now (cell_groups c.args.cells.now) c.args.image.now

-- What a slice's place past its end would hold.
abbrev blank : PlanCell
blank = record { group = 0; incoming = 0; outgoing = 0; width = 0; bits = 0; common = 0; uses = 0 }

-- In a turn a planned cell is left.
module _ (c : In-loop-cell) where
  abbrev cell : PlanCell
  cell = get_or c.args.cells.now c.loop-cell.cell-index blank

  -- Its bytes.
  abbrev bytes : List ℕ
  bytes = cell_bytes (cell_of c.args.cuts.now.n c.args.cuts.now.table.now c.loop-cell.h cell.group)

  within : c.loop-cell.cell-index < length (cell_groups c.args.cells.now)
  within = inside c.requires.planned c.loop-cell.cell-index c.loop-cell-test.true blank

  is_size : get_or (cell_groups c.args.cells.now) c.loop-cell.cell-index 0 ≡ cell.group
  is_size = size_is c.requires.planned c.loop-cell.cell-index c.loop-cell-test.true blank

  is_planned : CellPlanned c.args.cuts.now.n c.loop-cell.h c.args.cuts.now.table.now cell
  is_planned = next_planned c.requires.planned c.loop-cell.cell-index c.loop-cell-test.true blank c.loop-cell.h c.loop-cell.invariant.cut

  room : c.loop-cell.at + length bytes ≤ length c.loop-cell.image
  room =
      let kept = cells_kept c.args.cuts.now.n c.args.cuts.now.table.now (cell_groups c.args.cells.now) c.args.image.now c.loop-cell.invariant c.requires.cells_in_bounds in
      let r = cell_room c.args.cuts.now.n c.args.cuts.now.table.now (cell_groups c.args.cells.now) c.args.image.now c.loop-cell.invariant c.requires.cells_in_bounds within cell.group is_size in
      omega arith

  -- The length that is worked out is that of the bytes.
  is_length : planned_bytes cell ≡ length bytes
  unfolding planned_bytes
  is_length = sym (planned_length_lem is_planned)

pub slice_bounds-write_cell-count : goal.slice_bounds-write_cell-count
slice_bounds-write_cell-count c = let r = room (goal.at.slice_bounds-write_cell-count c).In-loop-cell in omega arith

pub slice_bounds-write_cell-start : goal.slice_bounds-write_cell-start
slice_bounds-write_cell-start c = let r = room (goal.at.slice_bounds-write_cell-start c).In-loop-cell in search rules

pub write_cell-requires-clause-cell_planned : goal.write_cell-requires-clause-cell_planned
write_cell-requires-clause-cell_planned c = is_planned (goal.at.write_cell-requires-clause-cell_planned c).In-loop-cell

pub write_cell-requires-clause-group_in_bounds : goal.write_cell-requires-clause-group_in_bounds
write_cell-requires-clause-group_in_bounds c =
    let i = (goal.at.write_cell-requires-clause-group_in_bounds c).In-loop-cell in
    let r = room i in
    let at = i.loop-cell.at in
    let lent : length i.loop-cell.image - at ≡ length (take (length i.loop-cell.image - at) (drop at i.loop-cell.image)) = sym (length-take-le _ _ (let d = length-drop at i.loop-cell.image in omega arith)) in
    omega arith

pub cell_length-at-requires : goal.cell_length-at-requires
cell_length-at-requires c = let i = (goal.at.cell_length-at-requires c).In-loop-cell in small (is_planned i) i.args.cuts.now.admitted

pub overflow_add-at : goal.overflow_add-at
overflow_add-at c =
    let i = (goal.at.overflow_add-at c).In-loop-cell in
    let e = c.cell_length-at.ensures ∙ is_length i in
    let r = room i in
    Fits-of_lt (omega arith)

pub overflow_add-h : goal.overflow_add-h
overflow_add-h c =
    let i = (goal.at.overflow_add-h c).In-loop-cell in
    let e = (is_planned i).ends in
    let m = variables_most i.args.cuts.now.n i.args.cuts.now.table.now i.args.cuts.now.admitted in
    Fits-of_lt (omega arith)

pub loop-cell-preserved : goal.loop-cell-preserved
loop-cell-preserved c =
    let i = (goal.at.loop-cell-preserved c).In-loop-cell in
    let k = i.args.cuts.now in
    next_cell k.n k.table.now (cell_groups i.args.cells.now) i.args.image.now i.loop-cell.invariant i.requires.cells_in_bounds (within i) (cell i).group (is_size i)
    (ap (λ m. i.loop-cell.at + m) (c.cell_length-at.ensures ∙ is_length i))
    (tail_back i.loop-cell.image i.loop-cell.at (bytes i) c.write_cell.ensures)

pub returns : goal.returns
returns c =
    let k = c.args.cuts.now in
    all_cells k.n k.table.now (cell_groups c.args.cells.now) c.args.image.now c.loop-cell.invariant c.requires.cells_in_bounds
    (let i = c.loop-cell.invariant.inside in let l = c.loop-cell-test.false in let e = groups_count c.requires.planned in omega arith)
