-- How many classes the search for a block's class tries. Which class it finds is said by `number_in`, which knows no order of trying.
use Rattle.std.specs.Prelude.{ℕ, zero, suc, ◌-◌, true, false, not, List, [], ◌∷◌, map, length, get_or, take, eqb, ℤ}
use Rattle.numbers.specs.Lists.{numbers_from, keep}
use Rattle.blocks.specs.Blocks.{blocks, differences}
use Rattle.blocks.specs.Classes.{number_in, distinct}

-- The order in which the known classes are looked at: the class of the block just before, then all the others from class 0 up. At a
-- cut's first block none is known.
unfoldable pub look_order : ℕ → ℕ → List ℕ
look_order zero latest = []
look_order (suc more) latest = latest ∷ keep (λ class. not (eqb class latest)) (numbers_from 0 (suc more))

-- How many of these are looked at until the class is met, which is counted too; all of them where it is new.
unfoldable pub looked_until : ℕ → List ℕ → ℕ
looked_until class [] = 0
looked_until class (looked ∷ order) = elim (eqb looked class) [ true ↦ 1 | false ↦ suc (looked_until class order) ]

-- The number tried for a block of this class, where so many classes are known and the block just before has the latest.
unfoldable pub number_tried : ℕ → ℕ → ℕ → ℕ
number_tried known latest class = looked_until class (look_order known latest)

-- The class of block j of a cut, its blocks given by their differences.
unfoldable pub block_class : List (List ℤ) → ℕ → ℕ
block_class ds j = number_in (distinct ds) (get_or ds j [])

-- How many classes are known before block j: those of the blocks before it.
unfoldable pub known_before : List (List ℤ) → ℕ → ℕ
known_before ds j = length (distinct (take j ds))

-- The number tried for block j.
unfoldable pub tried_at : List (List ℤ) → ℕ → ℕ
tried_at ds j = number_tried (known_before ds j) (block_class ds (j - 1)) (block_class ds j)

-- The numbers tried for all blocks, left to right.
unfoldable pub tries_of : List (List ℤ) → List ℕ
tries_of ds = map (tried_at ds) (numbers_from 0 (length ds))

-- The number tried for each block of cut h, left to right.
unfoldable pub cut_tries : ℕ → List ℤ → ℕ → List ℕ
cut_tries n table h = tries_of (map differences (blocks n table (n - h)))
