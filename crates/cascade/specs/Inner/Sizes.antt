-- Lists of sizes, compared and counted.
use Rattle.std.specs.Prelude.{ℕ, Bool, true, false, ◌&&◌, List, [], ◌∷◌, eqb}
use Rattle.numbers.specs.Lists.{tally}

-- Equal lists of sizes, as a test.
unfoldable pub same_sizes : List ℕ → List ℕ → Bool
same_sizes [] [] = true
same_sizes [] (b ∷ right) = false
same_sizes (a ∷ left) [] = false
same_sizes (a ∷ left) (b ∷ right) = eqb a b && same_sizes left right

-- How often a list of sizes stands in a list of such.
unfoldable pub occurrences : List ℕ → List (List ℕ) → ℕ
occurrences sizes l = tally (same_sizes sizes) l
