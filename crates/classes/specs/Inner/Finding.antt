-- What the search finds for a block of a cut, and what it is lent: what is known of the blocks before.
use Rattle.std.specs.Prelude.{ℕ, ◌-◌, ◌*◌, ◌/◌, ◌<◌, ◌≡◌, List, map, length, take, ℤ}
use Rattle.numbers.specs.Lists.{numbers_from}
use Rattle.blocks.specs.Classes.{number_in, distinct}
use Rattle.blocks.specs.Rows.{numbers_of}
use Rattle.blocks.specs.Tries.{block_class, known_before, tried_at}
use Rattle.blocks.specs.Uses.{use_count, uses_at}
use Rattle.classes.specs.declared.search.Found.{Found}
use Rattle.classes.specs.Inner.Searching.{part_differences}

-- The differences of all blocks of a cut, left to right.
abbrev pub cut_lists : List ℤ → ℕ → ℕ → List (List ℤ)
cut_lists table size count = part_differences table size (numbers_from 0 count)

-- What the search finds for block j of a cut, its blocks given by their differences: the block's class, how many classes were tried, and
-- how many blocks up to and including it have its class.
unfoldable pub found_at : List (List ℤ) → ℕ → Found
found_at ds j = record { class = block_class ds j; tried = tried_at ds j; uses = uses_at (numbers_of ds) j }

-- The first block of each class that is known before block j.
unfoldable pub firsts_before : List (List ℤ) → ℕ → List ℕ
firsts_before ds j = map (number_in ds) (distinct (take j ds))

-- The use count so far of each class that is known before block j: how many of the blocks before it have the class.
unfoldable pub uses_before : List (List ℤ) → ℕ → List ℕ
uses_before ds j = map (use_count (take j (numbers_of ds))) (numbers_from 0 (known_before ds j))

-- A cut of a table into so many blocks of this size.
pub record Cut (table : List ℤ) (size count : ℕ) : Type 0 where
  -- no block is empty,
  pub some : 0 < size
  -- the blocks are the whole table,
  pub whole : length table ≡ count * size
  -- and they are one, or the halves of other blocks.
  pub halved : (count ≡ 1 → ⊥) → count ≡ 2 * (count / 2)

-- What is known of the blocks before block j of the cut into blocks of this size.
pub record BlocksBefore (table : List ℤ) (size j : ℕ) (firsts use_counts : List ℕ) (latest : ℕ) : Type 0 where
  -- the table is cut into such blocks,
  pub cut : Cut table size (length table / size)
  -- block j is inside the cut,
  pub inside : j < length table / size
  -- the first blocks of the known classes,
  pub placed : firsts ≡ firsts_before (cut_lists table size (length table / size)) j
  -- their use counts so far,
  pub use_counted : use_counts ≡ uses_before (cut_lists table size (length table / size)) j
  -- and the latest class, that of the block just before; at the first block, where no class is known, it is 0.
  pub latest_before : latest ≡ block_class (cut_lists table size (length table / size)) (j - 1)
