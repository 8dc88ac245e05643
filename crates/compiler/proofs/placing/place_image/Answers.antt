-- `placing::place_image` meets its contract: the room is tested before any byte is written.
use Rattle.std.specs.Prelude.{◌≡◌, length, take}
use Rattle.std.proofs.Common.{◌∙◌}
use Rattle.cascade.specs.Compile.{image_for}
use Rattle.cascade.specs.Inner.Planned.{groups}
use Rattle.compiler.specs.Inner.Writing.{cell_groups, CellsPlanned}
use Rattle.compiler.proofs.Laws.Compiles.{places_short, places_image}
use Rattle.compiler.proofs.Laws.Planned.{cells_length, small_cells, cells_planned}
use Rattle.compiler.proofs.placing.place_image.Goals as goal
use Rattle.compiler.proofs.placing.place_image.Goals.{Start, After-image_length-length}

-- The planned cells.
planned : (s : Start) → CellsPlanned s.args.cuts.now.n s.args.cuts.now.table.now (take s.args.grouping.cells s.args.planned.now) s.args.grouping.bits
planned s = cells_planned s.args.cuts.now.admitted s.requires

pub image_length-length-requires : goal.image_length-length-requires
image_length-length-requires c = let s = (goal.at.image_length-length-requires c).Start in small_cells (planned s) s.args.cuts.now.admitted

-- The length of the image.
is_length : (c : After-image_length-length) → c.image_length-length.result ≡ length (image_for c.args.cuts.now.n c.args.cuts.now.table.now (groups c.args.planned.now c.args.grouping.cells))
unfolding groups cell_groups
is_length c = c.image_length-length.ensures ∙ cells_length (cells_planned c.args.cuts.now.admitted c.requires)

pub returns-then-image-length : goal.returns-then-image-length
returns-then-image-length c =
    let l = (goal.at.returns-then-image-length c).After-image_length-length in
    let k = l.args.cuts.now in
    places_short k.n k.table.now (groups l.args.planned.now l.args.grouping.cells) l.args.image.now (rw (is_length l) at c.if-image-length.true)

pub write_image-requires-clause-planned : goal.write_image-requires-clause-planned
write_image-requires-clause-planned c = planned (goal.at.write_image-requires-clause-planned c).Start

pub write_image-requires-clause-image_in_bounds : goal.write_image-requires-clause-image_in_bounds
unfolding groups cell_groups
write_image-requires-clause-image_in_bounds c =
    let l = (goal.at.write_image-requires-clause-image_in_bounds c).After-image_length-length in
    rw (is_length l) at c.if-image-length.false

pub returns : goal.returns
unfolding groups cell_groups
returns c =
    let l = (goal.at.returns c).After-image_length-length in
    let k = l.args.cuts.now in
    let p = l.args.planned.now in
    let g = l.args.grouping in
    places_image k.n k.table.now (groups p g.cells) l.args.image.now p g.cells g.bits l.image_length-length.result c.count_nodes.result _ l.requires
    (rw (is_length l) at c.if-image-length.false) (is_length l) c.count_nodes.ensures c.write_image.ensures
