-- Decimal numbers and lines read back from their bytes: what a text is held by.
use Rattle.std.specs.Prelude.{ℕ, ◌+◌, ◌-◌, ◌*◌, ◌<◌, Bool, true, false, ◌&&◌, List, [], ◌∷◌, ◌++◌, map, length, get_or, leb, ltb, eqb, ℤ, pos, neg_ℤ}
use Rattle.numbers.specs.Lists.{every}
use Rattle.lines.specs.Text.{fields}

-- A byte is a decimal digit.
unfoldable pub is_digit : ℕ → Bool
is_digit byte = leb 48 byte && leb byte 57

-- The number of digits that follow those of a number so far.
unfoldable pub read_digits : ℕ → List ℕ → ℕ
read_digits so_far [] = so_far
read_digits so_far (digit ∷ more) = read_digits (10 * so_far + (digit - 48)) more

-- The integer of a decimal: a minus sign in front makes it negative.
unfoldable pub read_decimal : List ℕ → ℤ
read_decimal [] = pos 0
read_decimal (byte ∷ more) = elim (eqb byte 45) [ true ↦ neg_ℤ (pos (read_digits 0 more)) | false ↦ pos (read_digits 0 (byte ∷ more)) ]

-- A byte in front of the first piece.
unfoldable pub in_front : ℕ → List (List ℕ) → List (List ℕ)
in_front byte [] = (byte ∷ []) ∷ []
in_front byte (piece ∷ others) = (byte ∷ piece) ∷ others

-- The pieces between the bytes that pass a test, one more than there are such bytes.
unfoldable pub pieces : (ℕ → Bool) → List ℕ → List (List ℕ)
pieces parts [] = [] ∷ []
pieces parts (byte ∷ text) = elim (parts byte) [ true ↦ [] ∷ pieces parts text | false ↦ in_front byte (pieces parts text) ]

-- A line: its word, and its numbers.
pub record Line : Type 0 where
  pub word : List ℕ
  pub numbers : List ℤ

-- Its word has neither spaces nor newline bytes: the test, and the condition.
unfoldable pub is_plain : Line → Bool
is_plain l = every (ltb 32) l.word

abbrev pub Plain : Line → Type 0
Plain l = (j : ℕ) → j < length l.word → 32 < get_or l.word j 0

-- A line without word and numbers.
abbrev pub empty_line : Line
empty_line = record { word = []; numbers = [] }

unfoldable pub line_text : Line → List ℕ
line_text l = l.word ++ fields l.numbers

-- The first field of a line is its word, the others are numbers.
unfoldable pub line_of : List (List ℕ) → Line
line_of [] = empty_line
line_of (word ∷ others) = record { word = word; numbers = map read_decimal others }

-- A line without its newline byte, its fields being parted by spaces.
unfoldable pub read_line : List ℕ → Line
read_line text = line_of (pieces (eqb 32) text)

-- All pieces but the last, which no newline byte ends.
unfoldable pub ended : List (List ℕ) → List (List ℕ)
ended [] = []
ended (piece ∷ []) = []
ended (piece ∷ next ∷ others) = piece ∷ ended (next ∷ others)

-- The lines of a text.
unfoldable pub read_lines : List ℕ → List Line
read_lines text = map read_line (ended (pieces (eqb 10) text))
