-- `places::place_after` meets its contract. In a cell and a word the numbers fit, for the command keeps its rules.
use Rattle.std.proofs.Common.{◌≡◌, ◌<◌, ℤ, arith, subst}
use Rattle.std.proofs.Math.Facts.{Fits-of_lt}
use Rattle.std.proofs.lemmas.Grind.{common_steps}
use Rattle.std.proofs.lemmas.Int.{ints, to_z-of_z}
use Rattle.std.specs.Int.{int_min, int_max}
use Rattle.numbers.specs.Ranges.{most_variables, lesser, greater}
use Rattle.numbers.proofs.Laws.Pieces.{shifted_one}
use Rattle.image.specs.Inner.Bounds.{Follows, CellFits, most_bits}
use Rattle.image.specs.Inner.Kinds.{kind_of, width_of}
use Rattle.image.specs.Reader.{place_after}
use Rattle.image.specs.WellFormed.{KeepsShape}
use Rattle.image.specs.declared.Command.TheVariants.{Cell}
use Rattle.image.proofs.Laws.Bounds.{cell_bits_most, cell_fits_lem, words_most}
use Rattle.image.proofs.Laws.Due.{words_due}
use Rattle.image.proofs.Laws.Rules.{shape_facts}
use Rattle.reader.proofs.places.place_after.Goals as goal
use Rattle.reader.proofs.places.place_after.Goals.{In-Cell}

-- The lesser of two numbers is their minimum, and the greater their maximum.
minimum : (a b : ℤ) → int_min a b ≡ lesser a b
unfolding lesser
minimum a b = grind (arith, ints)

maximum : (a b : ℤ) → int_max a b ≡ greater a b
unfolding greater
maximum a b = grind (arith, ints)

-- The cell that follows.
follows : (c : In-Cell) → Follows c.args.place (Cell c.in-Cell.group c.in-Cell.incoming c.in-Cell.outgoing c.in-Cell.width)
follows c = subst (Follows c.args.place) c.in-Cell.is c.requires

shape : (c : In-Cell) → KeepsShape c.args.place.left c.args.place.classes c.in-Cell.group c.in-Cell.incoming c.in-Cell.outgoing
shape c = let cell = c.in-Cell in shape_facts c.args.place cell.group cell.incoming cell.outgoing cell.width (follows c).rules

fits_cell : (c : In-Cell) → CellFits c.in-Cell.incoming c.in-Cell.group c.in-Cell.outgoing c.in-Cell.width
unfolding width_of
fits_cell c =
    let cell = c.in-Cell in
    let f = follows c in
    cell_fits_lem c.args.place cell.group cell.incoming cell.outgoing cell.width f.is_due.bounds f.rules f.is_due.width

-- A group is narrower than a machine word.
narrow : (c : In-Cell) → c.in-Cell.group < 64
unfolding most_variables
narrow c = let w = (shape c).inside in let l = (follows c).is_due.bounds.left in omega arith

pub overflow_sub-result : goal.overflow_sub-result
overflow_sub-result c = (shape (goal.at.overflow_sub-result c).In-Cell).inside

pub overflow_shl-result : goal.overflow_shl-result
overflow_shl-result c = narrow (goal.at.overflow_shl-result c).In-Cell

pub overflow_mul-result : goal.overflow_mul-result
overflow_mul-result c =
    let cell = c.in-Cell in
    let at = (goal.at.overflow_mul-result c).In-Cell in
    let most = words_most cell.incoming cell.group (shape at).address in
    rw (shifted_one cell.group (narrow at)) (Fits-of_lt (omega arith))

pub cell_bits-requires : goal.cell_bits-requires
cell_bits-requires c = fits_cell (goal.at.cell_bits-requires c).In-Cell

pub overflow_add-result-in-Cell-2 : goal.overflow_add-result-in-Cell-2
unfolding most_bits most_variables
overflow_add-result-in-Cell-2 c =
    let cell = c.in-Cell in
    let at = (goal.at.overflow_add-result-in-Cell-2 c).In-Cell in
    let most = cell_bits_most cell.incoming cell.group cell.outgoing cell.width (fits_cell at) in
    let sum = c.cell_bits.ensures in
    let bits = (follows at).is_due.bounds.bits in
    Fits-of_lt (omega arith)

pub overflow_sub-result-in-Word : goal.overflow_sub-result-in-Word
unfolding kind_of
overflow_sub-result-in-Word c = words_due c.args.place (rw c.in-Word.is at c.requires).is_due.allowed

pub returns-in-Cell : goal.returns-in-Cell
unfolding place_after
returns-in-Cell c =
    let at = (goal.at.returns-in-Cell c).In-Cell in
    rw (c.in-Cell.is, shifted_one c.in-Cell.group (narrow at), c.cell_bits.ensures)

pub returns-in-Word : goal.returns-in-Word
unfolding place_after
returns-in-Word c =
    let is = c.in-Word.is in
    let low = minimum c.args.place.least c.in-Word.weight in
    let high = maximum c.args.place.greatest c.in-Word.weight in
    rw is (grind (arith, common_steps, to_z-of_z))
