-- The records of a table's reduced diagram, their numbers, the offset and the node count.
use Rattle.std.specs.Prelude.{ℕ, zero, suc, ◌+◌, Bool, true, false, not, length, ℤ, pos, ◌-ℤ◌}
use mathlib.Core.List.{List, [], ◌∷◌, map, flat_map}
use Rattle.numbers.specs.Extremes.{least_of, greatest_of}
use Rattle.numbers.specs.Lists.{numbers_from, keep}
use Rattle.blocks.specs.Blocks.{blocks, first, lower_half, upper_half, differences}
use Rattle.blocks.specs.Classes.{same, number_in, distinct}

-- A block whose halves have height i branches where they differ as values; else it is the node of its lower half.
unfoldable pub branches : ℕ → List ℤ → Bool
branches i values = not (same (lower_half i values) (upper_half i values))

-- What the records of variable i stand for: the different differences of the branching blocks, by first appearance.
unfoldable pub kinds : ℕ → List ℤ → ℕ → List (List ℤ)
kinds n table i = distinct (map differences (keep (branches i) (blocks n table (suc i))))

-- How many records have a variable below i.
unfoldable pub records_below : ℕ → List ℤ → ℕ → ℕ
records_below n table zero = 0
records_below n table (suc i) = records_below n table i + length (kinds n table i)

-- Node of a block of height i (the paper's term): the record of a block that branches, else the node of its lower half. A single value is
-- node 0, the terminal (the paper's term).
unfoldable pub node : ℕ → List ℤ → ℕ → List ℤ → ℕ
node n table zero values = 0
node n table (suc i) values =
    elim (branches i values) [ true ↦ suc (records_below n table i + number_in (kinds n table i) (differences values)) | false ↦ node n table i (lower_half i values) ]

-- Record (the paper's term), and its parts, which the paper names so too: the variable, low, the node of the lower half, high, the node of
-- the upper half, the weight, and the least and the greatest value of the node's function, which is 0 where all bits are 0.
pub record Record : Type 0 where
  pub variable : ℕ
  pub low : ℕ
  pub high : ℕ
  pub weight : ℤ
  pub least : ℤ
  pub greatest : ℤ

-- The record of variable i of a block whose halves have height i. Its node's function has the block's differences as values.
unfoldable pub record_of : ℕ → List ℤ → ℕ → List ℤ → Record
record_of n table i values = record {
  variable = i;
  low = node n table i (lower_half i values);
  high = node n table i (upper_half i values);
  weight = first (upper_half i values) -ℤ first (lower_half i values);
  least = least_of (differences values);
  greatest = greatest_of (differences values);
}

-- The records of variable i, by first appearance.
unfoldable pub records_at : ℕ → List ℤ → ℕ → List Record
records_at n table i = map (record_of n table i) (kinds n table i)

-- All records, by rising height; record number k, from 1, stands at place k - 1.
unfoldable pub records : ℕ → List ℤ → List Record
records n table = flat_map (records_at n table) (numbers_from 0 n)

-- A record's numbers, as a buffer has them.
unfoldable pub record_numbers : Record → List ℤ
record_numbers r = pos r.variable ∷ pos r.low ∷ pos r.high ∷ r.weight ∷ r.least ∷ r.greatest ∷ []

-- How many numbers a record has.
unfoldable pub record_size : ℕ
record_size = 6

-- Offset (the paper's term): f(0).
unfoldable pub offset : List ℤ → ℤ
offset table = first table

-- Node count (the paper's term): the records and the terminal.
unfoldable pub node_count : ℕ → List ℤ → ℕ
node_count n table = suc (length (records n table))
