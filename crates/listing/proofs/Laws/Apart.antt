-- A table's text, taken apart into its lines.
use Rattle.std.specs.Prelude.{◌≡◌, refl, true, ℤ, pos}
use Rattle.std.proofs.Common.{sym, ◌∙◌, ℕ, suc, List, [], ◌∷◌, ◌++◌, map, append_assoc, append-nil}
use mathlib.Core.List.{flat_map}
use Rattle.std.proofs.Math.Path.{ap, ap₂}
use Rattle.numbers.specs.Lists.{every}
use Rattle.numbers.proofs.Laws.Bools.{both, and_both}
use Rattle.numbers.proofs.Laws.Selections.{flat_map_append}
use Rattle.diagram.specs.Records.{Record, records, offset, node_count}
use Rattle.image.specs.Cells.{Cell, total_bits}
use Rattle.cascade.specs.Cascade.{cells_from}
use Rattle.lines.specs.Text.{ascii, line}
use Rattle.lines.specs.Reading.{Line, is_plain, line_text, read_lines}
use Rattle.lines.proofs.Laws.Apart.{lines_back}
use Rattle.listing.specs.Listing.{node_line, node_lines, cell_line, table_text}
use Rattle.listing.specs.Lines.{line_with, record_entries, cell_entry, table_lines}

-- ---- the text of the lines

records_text : (k : ℕ) (rs : List Record) → node_lines k rs ≡ flat_map line_text (record_entries k rs)
unfolding node_lines node_line record_entries flat_map line_text line
records_text k [] = refl
records_text k (r ∷ more) = ap (λ rest. node_line k r ++ rest) (records_text (suc k) more)

cells_text : (cells : List Cell) → flat_map cell_line cells ≡ flat_map line_text (map cell_entry cells)
unfolding flat_map cell_line cell_entry line_text line
cells_text [] = refl
cells_text (cell ∷ more) = ap (λ rest. cell_line cell ++ rest) (cells_text more)

-- ---- plain words

every_both : (ls more : List Line) → every is_plain ls ≡ true → every is_plain more ≡ true → every is_plain (ls ++ more) ≡ true
unfolding every
every_both [] more h k = k
every_both (l ∷ ls) more h k = let b = both (is_plain l) (every is_plain ls) h in and_both (is_plain l) (every is_plain (ls ++ more)) b.0 (every_both ls more b.1 k)

records_plain : (k : ℕ) (rs : List Record) → every is_plain (record_entries k rs) ≡ true
unfolding record_entries every is_plain ascii
records_plain k [] = refl
records_plain k (r ∷ more) = records_plain (suc k) more

cells_plain : (cells : List Cell) → every is_plain (map cell_entry cells) ≡ true
unfolding cell_entry every is_plain ascii
cells_plain [] = refl
cells_plain (cell ∷ more) = cells_plain more

-- ---- the whole text

module _ (n : ℕ) (table : List ℤ) (sizes : List ℕ) where
  abbrev cells : List Cell
  cells = cells_from n table 0 sizes

  abbrev total : Line
  total = line_with "bits" (pos (total_bits cells) ∷ [])

  abbrev below : List Line
  below = line_with "nodes" (pos (node_count n table) ∷ []) ∷ (map cell_entry cells ++ total ∷ [])

  text_lines : table_text n table sizes ≡ flat_map line_text (table_lines n table sizes)
  unfolding table_text table_lines flat_map line_text line
  text_lines =
      append_assoc (first ++ nodes ++ count) (flat_map cell_line cells) bits
      ∙ append_assoc (first ++ nodes) count (flat_map cell_line cells ++ bits)
      ∙ append_assoc first nodes (count ++ (flat_map cell_line cells ++ bits))
      ∙ ap₂ (λ here rest. first ++ (here ++ (count ++ rest))) (records_text 1 (records n table)) cells_and_total
      ∙ ap (λ rest. first ++ rest) (sym (flat_map_append line_text (record_entries 1 (records n table)) below))
    where
      first : List ℕ
      first = line "table" (pos n ∷ offset table ∷ [])

      nodes : List ℕ
      nodes = node_lines 1 (records n table)

      count : List ℕ
      count = line "nodes" (pos (node_count n table) ∷ [])

      bits : List ℕ
      bits = line "bits" (pos (total_bits cells) ∷ [])

      cells_and_total : flat_map cell_line cells ++ bits ≡ flat_map line_text (map cell_entry cells ++ total ∷ [])
      cells_and_total =
          ap₂ (λ here rest. here ++ rest) (cells_text cells) (sym (append-nil bits))
          ∙ sym (flat_map_append line_text (map cell_entry cells) (total ∷ []))

  lines_plain : every is_plain (table_lines n table sizes) ≡ true
  unfolding table_lines every is_plain ascii
  lines_plain = every_both (record_entries 1 (records n table)) below (records_plain 1 (records n table)) (every_both (map cell_entry cells) (total ∷ []) (cells_plain cells) refl)

  pub text_apart : read_lines (table_text n table sizes) ≡ table_lines n table sizes
  text_apart = ap read_lines text_lines ∙ lines_back (table_lines n table sizes) lines_plain
