-- The length of an image, from its planned cells.
use Rattle.std.specs.Prelude.{ℕ, ◌+◌, ◌*◌, ◌^◌, ◌≤◌, ◌<◌, List, map, length, get_or}
use Rattle.numbers.specs.Lists.{sum_of}
use Rattle.cascade.specs.Plan.{no_cell}
use Rattle.cascade.specs.declared.Cell.{Cell}
use Rattle.image.specs.Commands.{table_size, cell_size, word_size, end_size}

-- The bytes of a planned cell: its command and a word for each incoming class and group value.
unfoldable pub planned_bytes : Cell → ℕ
planned_bytes cell = cell_size + word_size * (cell.incoming * 2 ^ cell.group)

-- The bytes of the image of planned cells: the table command, the cells, the end.
unfoldable pub planned_length : List Cell → ℕ
planned_length cells = table_size + sum_of (map planned_bytes cells) + end_size

-- A cell of few variables and few words.
pub record SmallCell (cell : Cell) : Type 0 where
  pub group : cell.group ≤ 12
  pub words : cell.incoming * 2 ^ cell.group ≤ 4096

-- A few such cells.
pub record SmallCells (cells : List Cell) : Type 0 where
  pub few : length cells ≤ 12
  pub each : (k : ℕ) → k < length cells → SmallCell (get_or cells k no_cell)
