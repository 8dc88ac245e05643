-- The first cheapest list of sizes, chosen from the bottom cut up.
use Rattle.std.specs.Prelude.{ℕ, zero, suc, ◌+◌, ◌-◌, Bool, true, false, ◌&&◌, List, [], ◌∷◌, map, get_or, leb, ltb, ℤ, Option, Some, None}
use Rattle.numbers.specs.Answers.{Answer, accepted, refused}
use Rattle.numbers.specs.Lists.{numbers_from, keep, padded}
use Rattle.numbers.specs.Ranges.{most_variables}
use Rattle.image.specs.Cells.{bits_of}
use Rattle.cascade.specs.Cascade.{cell_of}
use Rattle.cascade.specs.declared.Choice.{Choice}
use Rattle.cascade.specs.Groupings.{groupings, address_width, first_cheapest}

-- ---- the first cheapest from a cut on, where each cell has a price and a test, given by its cut and its size

-- What a list of sizes costs from cut h on: the prices of its cells.
unfoldable pub price_from : (ℕ → ℕ → ℕ) → ℕ → List ℕ → ℕ
price_from price h [] = 0
price_from price h (g ∷ sizes) = price h g + price_from price (h + g) sizes

-- From cut h on, each cell of a list of sizes fits.
unfoldable pub cells_fit : (ℕ → ℕ → Bool) → ℕ → List ℕ → Bool
cells_fit fits_cell h [] = true
cells_fit fits_cell h (g ∷ sizes) = fits_cell h g && cells_fit fits_cell (h + g) sizes

-- The first cheapest of the lists of sizes from cut h over m variables whose cells fit; 9 where there is none.
unfoldable pub cheapest_from : (ℕ → ℕ → ℕ) → (ℕ → ℕ → Bool) → ℕ → ℕ → Answer (List ℕ)
cheapest_from price fits_cell h m = first_cheapest (price_from price h) (keep (cells_fit fits_cell h) (groupings m))

-- The price of a table's cell: its memory bits.
unfoldable pub cell_price : ℕ → List ℤ → ℕ → ℕ → ℕ
cell_price n table h g = bits_of (cell_of n table h g)

-- A table's cell keeps to the address limit.
unfoldable pub cell_fits : ℕ → List ℤ → ℕ → ℕ → ℕ → Bool
cell_fits n table limit h g = leb (address_width n table h g) limit

-- ---- the choice at each cut, from the bottom cut up

-- A choice with this cost and this first size.
abbrev pub costing : ℕ → ℕ → Option Choice
costing cost size = Some (record { cost = cost; size = size })

-- What is noted at cut h of an answer from there on: its cost and its first size (0 where it has none).
unfoldable pub noted : (ℕ → ℕ → ℕ) → ℕ → Answer (List ℕ) → Option Choice
noted price h (accepted sizes) = costing (price_from price h sizes) (get_or sizes 0 0)
noted price h (refused k) = None

-- A size at a cost against the choice so far: taken only where it costs less.
unfoldable pub taken : ℕ → ℕ → Option Choice → Option Choice
taken size cost None = costing cost size
taken size cost (Some best) = elim (ltb cost best.cost) [ true ↦ costing cost size | false ↦ Some best ]

-- A size, its cell's price and the choice where its cell ends, against the choice so far.
unfoldable pub offered : ℕ → ℕ → Option Choice → Option Choice → Option Choice
offered size price None so_far = so_far
offered size price (Some below) so_far = taken size (price + below.cost) so_far

-- The sizes of the cells that fit, from g down to 1, offered in turn at cut h; below has the choices at the cuts below.
unfoldable pub tried : (ℕ → ℕ → ℕ) → (ℕ → ℕ → Bool) → (ℕ → Option Choice) → ℕ → Option Choice → ℕ → Option Choice
tried price fits_cell below h so_far zero = so_far
tried price fits_cell below h so_far (suc g) =
    tried price fits_cell below h (elim (fits_cell h (suc g)) [ true ↦ offered (suc g) (price h (suc g)) (below (h + suc g)) so_far | false ↦ so_far ]) g

-- The choices at the cuts from n - m to n, where n is the bottom cut.
unfoldable pub choices : (ℕ → ℕ → ℕ) → (ℕ → ℕ → Bool) → ℕ → ℕ → List (Option Choice)
choices price fits_cell n zero = costing 0 0 ∷ []
choices price fits_cell n (suc m) =
    let below = choices price fits_cell n m in
    tried price fits_cell (λ cut. get_or below (cut - (n - m)) None) (n - suc m) None (suc m) ∷ below

-- The choice at cut h.
unfoldable pub choice_at : (ℕ → ℕ → ℕ) → (ℕ → ℕ → Bool) → ℕ → ℕ → Option Choice
choice_at price fits_cell n h = get_or (choices price fits_cell n (n - h)) 0 None

-- The first size of a choice, 0 where it has none.
unfoldable pub size_of : Option Choice → ℕ
size_of None = 0
size_of (Some choice) = choice.size

-- The sizes that the choices lead to from cut h down to the bottom cut n, in at most so many cells.
unfoldable pub sizes_from : (ℕ → Option Choice) → ℕ → ℕ → ℕ → List ℕ
sizes_from at n zero h = []
sizes_from at n (suc cells) h = elim (ltb h n) [ true ↦ size_of (at h) ∷ sizes_from at n cells (h + size_of (at h)) | false ↦ [] ]

-- The answer at a cut: 9 where its choice has no list, else the sizes.
unfoldable pub answered : Option Choice → List ℕ → Answer (List ℕ)
answered None sizes = refused 9
answered (Some choice) sizes = accepted sizes

-- The choice at cut h of a table, within the address limit.
abbrev pub table_choice : ℕ → List ℤ → ℕ → ℕ → Option Choice
table_choice n table limit h = choice_at (cell_price n table) (cell_fits n table limit) n h

-- What a choice costs, 0 where it has no list.
unfoldable pub cost_of : Option Choice → ℕ
cost_of None = 0
cost_of (Some choice) = choice.cost

-- The choices at all cuts of a table, in an array of one place for each cut that a table can have.
unfoldable pub choice_array : ℕ → List ℤ → ℕ → List (Option Choice)
choice_array n table limit = padded (suc most_variables) None (map (table_choice n table limit) (numbers_from 0 (suc n)))
