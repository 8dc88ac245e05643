-- What an image describes: variables, an offset, and cells of words.
use Rattle.std.specs.Prelude.{ℕ, List, map, ℤ}
use Rattle.numbers.specs.Lists.{sum_of}
use Rattle.numbers.specs.Widths.{cell_bits}

-- A word (the paper's term): the outgoing class and the weight.
pub record Word : Type 0 where
  pub class : ℕ
  pub weight : ℤ

-- A cell (the paper's term): its group's variables, both class counts, its weight width, and its words by incoming class, then group value.
pub record Cell : Type 0 where
  pub group : ℕ
  pub incoming : ℕ
  pub outgoing : ℕ
  pub width : ℕ
  pub words : List Word

-- A card: what the bytes of an image stand for. The offset is the paper's term.
pub record Card : Type 0 where
  pub n : ℕ
  pub offset : ℤ
  pub cells : List Cell

-- The memory bits of a cell.
unfoldable pub bits_of : Cell → ℕ
bits_of cell = cell_bits cell.incoming cell.group cell.outgoing cell.width

-- The memory bits of all cells.
unfoldable pub total_bits : List Cell → ℕ
total_bits cells = sum_of (map bits_of cells)
