-- Cells as numbers in a row.
use Rattle.std.specs.Prelude.{ℕ, List, [], ◌∷◌}
use Rattle.cascade.specs.declared.Cell.{Cell}

-- The numbers of a cell: group, incoming count, outgoing count, weight width, bits, commonest outgoing class, its uses.
unfoldable pub cell_row : Cell → List ℕ
cell_row cell = cell.group ∷ cell.incoming ∷ cell.outgoing ∷ cell.width ∷ cell.bits ∷ cell.common ∷ cell.uses ∷ []
