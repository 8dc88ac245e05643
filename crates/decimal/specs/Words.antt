-- A text's lines, and the words of a line.
use Rattle.std.specs.Prelude.{ℕ, suc, Bool, true, false, ◌||◌, List, [], ◌∷◌, ◌++◌, map, eqb, length}
use Rattle.numbers.specs.Lists.{keep}
use Rattle.lines.specs.Reading.{pieces}

-- The byte that ends a line.
unfoldable pub is_newline : ℕ → Bool
is_newline byte = eqb byte 10

-- Space, tab, and the carriage return that stands in front of a newline on some systems.
unfoldable pub is_blank : ℕ → Bool
is_blank byte = eqb byte 32 || eqb byte 9 || eqb byte 13

unfoldable pub is_some : List ℕ → Bool
is_some [] = false
is_some (byte ∷ more) = true

-- A word and its line.
pub record Word : Type 0 where
  pub line : ℕ
  pub bytes : List ℕ

-- The words of a line with this number: its pieces between blanks, without the empty ones.
unfoldable pub line_words : ℕ → List ℕ → List Word
line_words number text = map (λ piece. record { line = number; bytes = piece }) (keep is_some (pieces is_blank text))

-- The words of lines, the first of which has this number.
unfoldable pub lines_words : ℕ → List (List ℕ) → List Word
lines_words number [] = []
lines_words number (line ∷ lines) = line_words number line ++ lines_words (suc number) lines

-- The words of a text, its lines being counted from 1.
unfoldable pub words : List ℕ → List Word
words text = lines_words 1 (pieces is_newline text)

-- The line on which the text ends.
unfoldable pub last_line : List ℕ → ℕ
last_line text = length (pieces is_newline text)
