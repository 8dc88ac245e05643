-- The listing program's output, as a function of its input's bytes.
use Rattle.std.specs.Prelude.{ℕ, suc, ◌+◌, ◌-◌, ◌*◌, ◌/◌, ◌^◌, Bool, ◌&&◌, length, get_or, leb, eqb, ℤ, pos, List, [], ◌∷◌, ◌++◌, map}
use mathlib.Core.List.{flat_map}
use Rattle.numbers.specs.Answers.{Answer, accepted, refused, unless}
use Rattle.numbers.specs.Lists.{numbers_from}
use Rattle.diagram.specs.Records.{Record, records, offset, node_count}
use Rattle.operands.specs.Bytes.{signed_at}
use Rattle.image.specs.Cells.{Cell, bits_of, total_bits}
use Rattle.cascade.specs.Cascade.{cells_from}
use Rattle.cascade.specs.Compile.{compile}
use Rattle.lines.specs.Text.{line}

-- The most variables of a table that is listed.
unfoldable pub most_listed : ℕ
most_listed = 11

-- n of a table that is listed: 1 to 11. Build, Plan and Compile take 12 too.
unfoldable pub is_listed : ℕ → Bool
is_listed n = leb 1 n && leb n most_listed

-- The image buffer of the listing program.
unfoldable pub image_room : ℕ
image_room = 65536

-- The values that follow the first two bytes, 4 bytes each.
unfoldable pub table_of : List ℕ → List ℤ
table_of input = map (λ j. signed_at input (2 + 4 * j)) (numbers_from 0 ((length input - 2) / 4))

-- The chosen sizes: under two bytes 2; then Compile's order, 1 being an n that is not listed and 2 a wrong byte count.
unfoldable pub listed : List ℕ → Answer (List ℕ)
listed input =
    unless (leb 2 (length input)) 2
    (unless (is_listed (get_or input 0 0)) 1
    (unless (eqb (length input) (2 + 4 * 2 ^ get_or input 0 0)) 2
    (compile (get_or input 0 0) (table_of input) (get_or input 1 0) image_room)))

-- The numbers of a record that its line shows.
unfoldable pub shown_numbers : Record → List ℤ
shown_numbers r = pos r.variable ∷ pos r.low ∷ pos r.high ∷ r.weight ∷ []

unfoldable pub node_line : ℕ → Record → List ℕ
node_line k r = line "node" (pos k ∷ shown_numbers r)

-- Node lines by rising number, from k on.
unfoldable pub node_lines : ℕ → List Record → List ℕ
node_lines k [] = []
node_lines k (r ∷ more) = node_line k r ++ node_lines (suc k) more

unfoldable pub cell_line : Cell → List ℕ
cell_line cell = line "cell" (pos cell.group ∷ pos cell.incoming ∷ pos cell.outgoing ∷ pos cell.width ∷ pos (bits_of cell) ∷ [])

-- The text for a table and its chosen sizes.
unfoldable pub table_text : ℕ → List ℤ → List ℕ → List ℕ
table_text n table sizes =
    line "table" (pos n ∷ offset table ∷ [])
    ++ node_lines 1 (records n table)
    ++ line "nodes" (pos (node_count n table) ∷ [])
    ++ flat_map cell_line (cells_from n table 0 sizes)
    ++ line "bits" (pos (total_bits (cells_from n table 0 sizes)) ∷ [])

unfoldable pub answer_text : ℕ → List ℤ → Answer (List ℕ) → List ℕ
answer_text n table (accepted sizes) = table_text n table sizes
answer_text n table (refused number) = line "refused" (pos number ∷ [])

-- The bytes that the program writes for the bytes that it reads.
unfoldable pub listing : List ℕ → List ℕ
listing input = answer_text (get_or input 0 0) (table_of input) (listed input)
