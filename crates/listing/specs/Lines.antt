-- The lines of a table's text, each with its word and its numbers: what its reader gets back.
use Rattle.std.specs.Prelude.{ℕ, suc, List, [], ◌∷◌, ◌++◌, map, ℤ, pos}
use Prim.Native.String.{String}
use Rattle.diagram.specs.Records.{Record, records, offset, node_count}
use Rattle.image.specs.Cells.{Cell, bits_of, total_bits}
use Rattle.cascade.specs.Cascade.{cells_from}
use Rattle.lines.specs.Text.{ascii}
use Rattle.lines.specs.Reading.{Line}
use Rattle.listing.specs.Listing.{shown_numbers}

abbrev pub line_with : String → List ℤ → Line
line_with word numbers = record { word = ascii word; numbers = numbers }

-- The numbers that the lines of records show, by rising number, from k on.
unfoldable pub record_entries : ℕ → List Record → List Line
record_entries k [] = []
record_entries k (r ∷ more) = line_with "node" (pos k ∷ shown_numbers r) ∷ record_entries (suc k) more

unfoldable pub cell_entry : Cell → Line
cell_entry cell = line_with "cell" (pos cell.group ∷ pos cell.incoming ∷ pos cell.outgoing ∷ pos cell.width ∷ pos (bits_of cell) ∷ [])

-- n and offset, the records, the node count, the cells from the top down, and the total.
unfoldable pub table_lines : ℕ → List ℤ → List ℕ → List Line
table_lines n table sizes =
    line_with "table" (pos n ∷ offset table ∷ [])
    ∷ (record_entries 1 (records n table)
    ++ line_with "nodes" (pos (node_count n table) ∷ [])
    ∷ (map cell_entry (cells_from n table 0 sizes)
    ++ line_with "bits" (pos (total_bits (cells_from n table 0 sizes)) ∷ [])
    ∷ []))
