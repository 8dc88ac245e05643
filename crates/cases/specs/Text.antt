-- Lines of a text, and the numbers of a line.
use Rattle.std.specs.Prelude.{◌≡◌, ℕ, suc, true, false, List, [], ◌∷◌, length, ℤ}
use Rattle.numbers.specs.Lists.{overwritten}
use Rattle.decimal.specs.Words.{is_newline, words}
use Rattle.decimal.specs.Table.{values_found}

-- How many bytes the first line has, its newline included.
unfoldable pub line_length : List ℕ → ℕ
line_length [] = 0
line_length (byte ∷ rest) = elim (is_newline byte) [ true ↦ 1 | false ↦ suc (line_length rest) ]

-- The whole numbers of 32 bits in front of a line, so many at most.
unfoldable pub line_numbers : ℕ → List ℕ → List ℤ
line_numbers most line = values_found most (words line)

-- How many numbers were read, and the row with them in front.
pub record ReadsRow (line : List ℕ) (row : List ℤ) (count : ℕ) (row' : List ℤ) : Type 0 where
  pub counted : count ≡ length (line_numbers (length row) line)
  pub left : row' ≡ overwritten row 0 (line_numbers (length row) line)
