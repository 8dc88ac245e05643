-- How many blocks of a cut have a class, and which class most of them have. Blocks are counted, not words of a cell.
use Rattle.std.specs.Prelude.{ℕ, suc, ◌-◌, max, List, [], ◌∷◌, map, length, get_or, take, eqb, ℤ}
use Rattle.numbers.specs.Lists.{numbers_from, tally, least}
use Rattle.blocks.specs.Blocks.{blocks}
use Rattle.blocks.specs.Classes.{class_count, class_of}
use Rattle.blocks.specs.declared.Common.{Common}

-- How many blocks have this class, the blocks given by their classes.
unfoldable pub use_count : List ℕ → ℕ → ℕ
use_count block_classes class = tally (eqb class) block_classes

-- How many blocks up to and including block j have its class.
unfoldable pub uses_at : List ℕ → ℕ → ℕ
uses_at block_classes j = use_count (take (suc j) block_classes) (get_or block_classes j 0)

-- The same of every block, left to right.
unfoldable pub uses_of : List ℕ → List ℕ
uses_of block_classes = map (uses_at block_classes) (numbers_from 0 (length block_classes))

-- The class of each block of cut h, left to right.
unfoldable pub classes_at : ℕ → List ℤ → ℕ → List ℕ
classes_at n table h = map (class_of n table h) (blocks n table (n - h))

-- For each block of cut h how many blocks up to and including it have its class, left to right.
unfoldable pub cut_uses : ℕ → List ℤ → ℕ → List ℕ
cut_uses n table h = uses_of (classes_at n table h)

-- The use counts of cut h, by class number.
unfoldable pub use_counts : ℕ → List ℤ → ℕ → List ℕ
use_counts n table h = map (use_count (classes_at n table h)) (numbers_from 0 (class_count n table h))

-- The greatest of some use counts, 0 where there is none.
unfoldable pub most_uses : List ℕ → ℕ
most_uses [] = 0
most_uses (count ∷ counts) = max count (most_uses counts)

-- The commonest class of some use counts, given by class number: the smallest number that has the greatest of them.
unfoldable pub commonest : List ℕ → Common
commonest counts = record { class = least (λ class. eqb (get_or counts class 0) (most_uses counts)) (length counts); uses = most_uses counts }

-- The commonest class of cut h.
unfoldable pub commonest_at : ℕ → List ℤ → ℕ → Common
commonest_at n table h = commonest (use_counts n table h)
