-- Places in a text, and the words from there on.
use Rattle.std.specs.Prelude.{ℕ, suc, ◌+◌, ◌≤◌, ◌≡◌, Bool, true, false, ◌||◌, List, [], ◌∷◌, length, drop}
use Rattle.numbers.specs.Lists.{tally}
use Rattle.lines.specs.Reading.{pieces}
use Rattle.decimal.specs.Words.{is_newline, is_blank, Word, lines_words, last_line}
use Rattle.decimal.specs.declared.Position.{Position}

-- A byte between words.
unfoldable pub is_separator : ℕ → Bool
is_separator byte = is_newline byte || is_blank byte

-- The line behind a byte.
unfoldable pub line_after : ℕ → ℕ → ℕ
line_after byte line = elim (is_newline byte) [ true ↦ suc line | false ↦ line ]

-- The words of a text that starts on the line with this number.
unfoldable pub words_from : ℕ → List ℕ → List Word
words_from line text = lines_words line (pieces is_newline text)

-- The words from a place on.
unfoldable pub words_at : List ℕ → Position → List Word
words_at text place = words_from place.line (drop place.at text)

unfoldable pub newlines : List ℕ → ℕ
newlines text = tally is_newline text

-- A place in the text, whose line is right: with the newlines that are left it leads to the last line.
pub record PositionIn (text : List ℕ) (place : Position) : Type 0 where
  pub inside : place.at ≤ length text
  pub counted : place.line + newlines (drop place.at text) ≡ last_line text

-- Past the separators in front, from a place on.
unfoldable pub skipped_from : List ℕ → ℕ → ℕ → Position
skipped_from [] at line = record { at = at; line = line }
skipped_from (byte ∷ rest) at line = elim (is_separator byte) [ true ↦ skipped_from rest (suc at) (line_after byte line) | false ↦ record { at = at; line = line } ]

unfoldable pub skipped : List ℕ → Position → Position
skipped text place = skipped_from (drop place.at text) place.at place.line

-- How many bytes in front are no separators.
unfoldable pub word_length : List ℕ → ℕ
word_length [] = 0
word_length (byte ∷ rest) = elim (is_separator byte) [ true ↦ 0 | false ↦ suc (word_length rest) ]
