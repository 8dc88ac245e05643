-- Lines of text as bytes: decimal numbers parted by one space, one newline byte at the end.
use Rattle.std.specs.Prelude.{ℕ, zero, suc, ◌+◌, ◌/◌, ◌%◌, true, false, List, [], ◌∷◌, ◌++◌, ltb, ℤ, pos, negsuc}
use Prim.Native.Char.{code}
use Prim.Native.String.{String, [] as empty, ◌∷◌ as ◌then◌}

-- The bytes of a text of plain characters.
unfoldable pub ascii : String → List ℕ
ascii empty = []
ascii (c then text) = code c ∷ ascii text

-- The decimal digits of a number of at most so many digits.
unfoldable pub decimal_digits : ℕ → ℕ → List ℕ
decimal_digits zero number = []
decimal_digits (suc count) number = elim (ltb number 10) [ true ↦ (48 + number) ∷ [] | false ↦ decimal_digits count (number / 10) ++ (48 + number % 10) ∷ [] ]

-- A number in decimal; one below 10^k has at most k digits, and so surely no more than itself and 1.
unfoldable pub decimal : ℤ → List ℕ
decimal (pos number) = decimal_digits (suc number) number
decimal (negsuc number) = 45 ∷ decimal_digits (suc (suc number)) (suc number)

-- The fields of a line after its first, each behind a space, and the newline byte.
unfoldable pub fields : List ℤ → List ℕ
fields [] = 10 ∷ []
fields (z ∷ more) = 32 ∷ decimal z ++ fields more

-- A line: its word, then its numbers.
unfoldable pub line : String → List ℤ → List ℕ
line word numbers = ascii word ++ fields numbers
