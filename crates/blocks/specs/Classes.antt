-- Cuts and their classes. Classes are told apart by differences and numbered by first appearance.
use Rattle.std.specs.Prelude.{ℕ, zero, suc, ◌-◌, Bool, true, false, ◌&&◌, List, [], ◌∷◌, ◌++◌, map, length, ltb, ℤ}
use Rattle.numbers.specs.Ranges.{eq_z}
use Rattle.numbers.specs.Widths.{rail_width}
use Rattle.blocks.specs.Blocks.{blocks, differences}

-- Equal lists of integers, as a test.
unfoldable pub same : List ℤ → List ℤ → Bool
same [] [] = true
same [] (z ∷ right) = false
same (y ∷ left) [] = false
same (y ∷ left) (z ∷ right) = eq_z y z && same left right

-- The number of the first known list that is equal; where none is, the next new number.
unfoldable pub number_in : List (List ℤ) → List ℤ → ℕ
number_in [] d = zero
number_in (k ∷ known) d = elim (same k d) [ true ↦ zero | false ↦ suc (number_in known d) ]

-- The known lists, with a new one at the end.
unfoldable pub learn : List (List ℤ) → List ℤ → List (List ℤ)
learn known d = elim (ltb (number_in known d) (length known)) [ true ↦ known | false ↦ known ++ d ∷ [] ]

unfoldable pub learn_all : List (List ℤ) → List (List ℤ) → List (List ℤ)
learn_all known [] = known
learn_all known (d ∷ ds) = learn_all (learn known d) ds

-- The different lists among these, in the order of their first appearance.
unfoldable pub distinct : List (List ℤ) → List (List ℤ)
distinct ds = learn_all [] ds

-- The classes of cut h, which lies below the top h variables (cut and class are the paper's terms): the different differences among the blocks of height n - h, by class number.
unfoldable pub classes : ℕ → List ℤ → ℕ → List (List ℤ)
classes n table h = distinct (map differences (blocks n table (n - h)))

-- How many classes cut h has.
unfoldable pub class_count : ℕ → List ℤ → ℕ → ℕ
class_count n table h = length (classes n table h)

-- The class (the paper's term) at cut h of a block of height n - h, given by its values.
unfoldable pub class_of : ℕ → List ℤ → ℕ → List ℤ → ℕ
class_of n table h values = number_in (classes n table h) (differences values)

-- The rail width at cut h (the paper's term).
unfoldable pub rail_at : ℕ → List ℤ → ℕ → ℕ
rail_at n table h = rail_width (class_count n table h)
