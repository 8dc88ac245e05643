-- The lines of a diagram, from what Build's buffer holds.
use Rattle.std.specs.Prelude.{ℕ, ◌+◌, ◌^◌, ◌≤◌, ◌<◌, ℤ, pos, List, [], ◌∷◌, ◌++◌}
use mathlib.Core.List.{flat_map}
use Rattle.numbers.specs.Lists.{numbers_from}
use Rattle.diagram.specs.Walk.{variable_at, low_at, high_at, weight_at, record_count}
use Rattle.lines.specs.Text.{line}

-- The line of record k of a node buffer.
unfoldable pub record_line : List ℤ → ℕ → List ℕ
record_line nodes k = line "node" (pos k ∷ variable_at nodes k ∷ low_at nodes k ∷ high_at nodes k ∷ weight_at nodes k ∷ [])

-- The lines of the first so many records.
unfoldable pub record_lines : List ℤ → ℕ → List ℕ
record_lines nodes count = flat_map (record_line nodes) (numbers_from 1 count)

-- So many records stand in the buffer, and the node count can be written.
pub record RecordsThere (nodes : List ℤ) (count : ℕ) : Type 0 where
  pub inside : count ≤ record_count nodes
  pub few : count + 1 < 2 ^ 31

-- The table's line, the node lines, and the node count.
unfoldable pub diagram_text : ℕ → ℤ → List ℤ → ℕ → List ℕ
diagram_text n offset nodes count = line "table" (pos n ∷ offset ∷ []) ++ record_lines nodes count ++ line "nodes" (pos (count + 1) ∷ [])
