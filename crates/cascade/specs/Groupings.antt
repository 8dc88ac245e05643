-- Groupings, which of them fit, what they cost, and the chosen one: terms of the paper.
use Rattle.std.specs.Prelude.{ℕ, zero, suc, ◌+◌, ◌-◌, ◌≤◌, ◌≡◌, ◌⊎◌, Bool, true, false, ◌&&◌, ◌||◌, leb, ltb, eqb, ℤ}
use mathlib.Core.List.{List, [], ◌∷◌, ◌++◌, map, flat_map}
use Rattle.numbers.specs.Answers.{Answer, accepted, refused}
use Rattle.numbers.specs.Lists.{every, keep, sum_of}
use Rattle.blocks.specs.Classes.{rail_at}
use Rattle.image.specs.Cells.{total_bits}
use Rattle.cascade.specs.Cascade.{cells_from}

-- From m down to 1.
unfoldable pub descending : ℕ → List ℕ
descending zero = []
descending (suc m) = suc m ∷ descending m

-- The list of no sizes, where no variable is left.
unfoldable pub closing : ℕ → List (List ℕ)
closing zero = [] ∷ []
closing (suc m) = []

-- The lists of at most so many sizes, each at least 1, with sum m: the widest first size first, then the widest second.
unfoldable pub groupings_within : ℕ → ℕ → List (List ℕ)
groupings_within zero m = closing m
groupings_within (suc groups) m = closing m ++ flat_map (λ g. map (λ sizes. g ∷ sizes) (groupings_within groups (m - g))) (descending m)

-- Groupings of n variables (the paper's term), in the order of preference among equals.
unfoldable pub groupings : ℕ → List (List ℕ)
groupings n = groupings_within n n

-- The address width of the cell from cut h that takes g variables.
unfoldable pub address_width : ℕ → List ℤ → ℕ → ℕ → ℕ
address_width n table h g = rail_at n table h + g

-- From cut h on, each cell keeps to the address limit.
unfoldable pub fits_from : ℕ → List ℤ → ℕ → ℕ → List ℕ → Bool
fits_from n table limit h [] = true
fits_from n table limit h (g ∷ sizes) = leb (address_width n table h g) limit && fits_from n table limit (h + g) sizes

-- A grouping fits the address limit (the paper's term).
unfoldable pub fits : ℕ → List ℤ → ℕ → List ℕ → Bool
fits n table limit sizes = fits_from n table limit 0 sizes

-- A grouping's cost: the memory bits of its cells.
unfoldable pub cost : ℕ → List ℤ → List ℕ → ℕ
cost n table sizes = total_bits (cells_from n table 0 sizes)

-- The first of least cost among one list of sizes and those after it.
unfoldable pub cheapest : (List ℕ → ℕ) → List ℕ → List (List ℕ) → List ℕ
cheapest price best [] = best
cheapest price best (sizes ∷ more) = cheapest price (elim (ltb (price sizes) (price best)) [ true ↦ sizes | false ↦ best ]) more

-- The first of least cost, or 9 where there is none.
unfoldable pub first_cheapest : (List ℕ → ℕ) → List (List ℕ) → Answer (List ℕ)
first_cheapest price [] = refused 9
first_cheapest price (sizes ∷ more) = accepted (cheapest price sizes more)

-- The chosen grouping (the paper's term): of those that fit the first of least cost; 9 where none fits.
unfoldable pub chosen : ℕ → List ℤ → ℕ → Answer (List ℕ)
chosen n table limit = first_cheapest (cost n table) (keep (fits n table limit) (groupings n))

-- A grouping of n variables (the paper's term): sizes, each at least 1, with sum n.
unfoldable pub is_grouping : ℕ → List ℕ → Bool
is_grouping n sizes = every (leb 1) sizes && eqb (sum_of sizes) n

-- At the first place where the sizes differ, the left one is the wider.
unfoldable pub wider_first : List ℕ → List ℕ → Bool
wider_first [] right = false
wider_first (a ∷ left) [] = false
wider_first (a ∷ left) (b ∷ right) = ltb b a || eqb a b && wider_first left right

-- Of the groupings of a table that fit the limit this one costs least, and among those of equal cost it is the widest first.
pub record BestGrouping (n : ℕ) (table : List ℤ) (limit : ℕ) (best : List ℕ) : Type 0 where
  pub grouping : is_grouping n best ≡ true
  pub fitting : fits n table limit best ≡ true
  pub least : (sizes : List ℕ) → is_grouping n sizes ≡ true → fits n table limit sizes ≡ true
      → cost n table best ≤ cost n table sizes
  pub widest : (sizes : List ℕ) → is_grouping n sizes ≡ true → fits n table limit sizes ≡ true
      → cost n table sizes ≡ cost n table best → (sizes ≡ best) ⊎ (wider_first best sizes ≡ true)
