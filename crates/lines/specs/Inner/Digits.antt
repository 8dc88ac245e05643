-- Digits from the lowest up.
use Rattle.std.specs.Prelude.{ℕ, zero, suc, ◌+◌, ◌/◌, ◌%◌, List, [], ◌∷◌, ◌++◌}

-- The lowest digits of a number, so many, the highest of them first.
unfoldable pub lowest_digits : ℕ → ℕ → List ℕ
lowest_digits zero number = []
lowest_digits (suc count) number = lowest_digits count (number / 10) ++ (48 + number % 10) ∷ []
