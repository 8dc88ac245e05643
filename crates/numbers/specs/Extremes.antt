-- The least and the greatest of a list of integers, which are gathered one by one.
use Rattle.std.specs.Prelude.{List, [], ◌∷◌, ℤ, pos}
use Rattle.numbers.specs.Ranges.{lesser, greater}

-- The lesser of a number and all of a list; the greater likewise.
unfoldable pub lowest : ℤ → List ℤ → ℤ
lowest low [] = low
lowest low (z ∷ more) = lowest (lesser low z) more

unfoldable pub highest : ℤ → List ℤ → ℤ
highest high [] = high
highest high (z ∷ more) = highest (greater high z) more

-- The least of a list, and the greatest; of an empty one 0.
unfoldable pub least_of : List ℤ → ℤ
least_of [] = pos 0
least_of (z ∷ more) = lowest z more

unfoldable pub greatest_of : List ℤ → ℤ
greatest_of [] = pos 0
greatest_of (z ∷ more) = highest z more
