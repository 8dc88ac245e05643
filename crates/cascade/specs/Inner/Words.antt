-- The words of a cell as they are read off the table and the rows of classes.
use Rattle.std.specs.Prelude.{ℕ, ◌+◌, ◌*◌, ◌/◌, ◌%◌, ◌^◌, ◌≤◌, ◌<◌, ◌≡◌, List, length, get_or, ℤ}
use Rattle.blocks.specs.Classes.{class_count}
use Rattle.blocks.specs.Rows.{cut_place, all_firsts}
use Rattle.diagram.specs.Accepted.{Accepted}
use Rattle.image.specs.Cells.{Word}
use Rattle.image.specs.WellFormed.{no_word}
use Rattle.cascade.specs.Cascade.{words_of}

-- Word k of the cell from cut h to cut h + g.
unfoldable pub cell_word : ℕ → List ℤ → ℕ → ℕ → ℕ → Word
cell_word n table h g k = get_or (words_of n table h g) k no_word

-- The block at cut h + g that word k stands for: the sub-block of its class's first block at its group value.
unfoldable pub word_block : List ℕ → ℕ → ℕ → ℕ → ℕ
word_block first_row h g k = get_or first_row (cut_place h + k / 2 ^ g) 0 * 2 ^ g + k % 2 ^ g

-- The block of word k can be found in the row of first blocks.
pub record BlockReady (first_row : List ℕ) (h g k : ℕ) : Type 0 where
  pub cut : h < 64
  pub group : g < 64
  pub place : cut_place h + k / 2 ^ g < length first_row
  pub small : word_block first_row h g k < 4096

-- Word k can be read: the cell ends within the cuts and has that word, and the row has each class's first block.
pub record WordReady (n h g k : ℕ) (table : List ℤ) (first_row : List ℕ) : Type 0 where
  pub admitted : Accepted n table
  pub ends : h + g ≤ n
  pub word : k < class_count n table h * 2 ^ g
  pub placed : first_row ≡ all_firsts n table
