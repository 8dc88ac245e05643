-- Whole numbers as words: digits, with one sign in front or none.
use Rattle.std.specs.Prelude.{ℕ, Bool, true, false, ◌&&◌, ◌||◌, List, [], ◌∷◌, eqb, ℤ, pos, neg_ℤ}
use Rattle.numbers.specs.Lists.{every}
use Rattle.numbers.specs.Ranges.{within}
use Rattle.lines.specs.Reading.{is_digit, read_digits}
use Rattle.decimal.specs.Words.{is_some}

-- A plus or a minus.
unfoldable pub is_sign : ℕ → Bool
is_sign byte = eqb byte 43 || eqb byte 45

-- What follows the sign, or all where there is none.
unfoldable pub digits_of : List ℕ → List ℕ
digits_of [] = []
digits_of (byte ∷ more) = elim (is_sign byte) [ true ↦ more | false ↦ byte ∷ more ]

unfoldable pub is_negative : List ℕ → Bool
is_negative [] = false
is_negative (byte ∷ more) = eqb byte 45

-- A word that is a whole number: at least one digit, and digits alone behind the sign.
unfoldable pub is_number : List ℕ → Bool
is_number word = is_some (digits_of word) && every is_digit (digits_of word)

-- The number of such a word.
unfoldable pub number_of : List ℕ → ℤ
number_of word = elim (is_negative word) [ true ↦ neg_ℤ (pos (read_digits 0 (digits_of word))) | false ↦ pos (read_digits 0 (digits_of word)) ]

-- A word that is a whole number from low to high, both included.
unfoldable pub is_number_from : ℤ → ℤ → List ℕ → Bool
is_number_from low high word = is_number word && within low high (number_of word)
