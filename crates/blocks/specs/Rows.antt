-- How what is known of all cuts lies in rows: cut after cut, so that block j of cut h stands at place 2^h - 1 + j, and
-- class c of cut h at place 2^h - 1 + c.
use Rattle.std.specs.Prelude.{ℕ, suc, ◌+◌, ◌-◌, ◌^◌, ◌<◌, ◌≡◌, length, get_or, ℤ}
use mathlib.Core.List.{List, map, flat_map}
use Rattle.numbers.specs.Lists.{numbers_from, padded}
use Rattle.blocks.specs.Blocks.{block, blocks, differences}
use Rattle.blocks.specs.Classes.{number_in, distinct, class_count, class_of}
use Rattle.blocks.specs.Tries.{cut_tries}
use Rattle.blocks.specs.Uses.{use_count, classes_at, cut_uses}

-- The place of cut h in the rows of all cuts.
unfoldable pub cut_place : ℕ → ℕ
cut_place h = 2 ^ h - 1

-- What a row of all cuts has for block k, or class k, of cut h.
abbrev pub in_row : List ℕ → ℕ → ℕ → ℕ
in_row row h k = get_or row (cut_place h + k) 0

-- The number of each list among the different ones, left to right.
unfoldable pub numbers_of : List (List ℤ) → List ℕ
numbers_of ds = map (number_in (distinct ds)) ds

-- For each different list the place where it appears first, and 0 past the last.
unfoldable pub firsts_of : ℕ → List (List ℤ) → List ℕ
firsts_of places ds = padded places 0 (map (number_in ds) (distinct ds))

-- The class of each block of cut h, left to right.
unfoldable pub cut_numbers : ℕ → List ℤ → ℕ → List ℕ
cut_numbers n table h = numbers_of (map differences (blocks n table (n - h)))

-- The first block of each class of cut h, and 0 past the last class.
unfoldable pub cut_firsts : ℕ → List ℤ → ℕ → List ℕ
cut_firsts n table h = firsts_of (2 ^ h) (map differences (blocks n table (n - h)))

-- Block j is the first of class c at cut h: it has the class, and none before it has.
pub record FirstOf (n : ℕ) (table : List ℤ) (h c j : ℕ) : Type 0 where
  pub inside : j < 2 ^ h
  pub has : class_of n table h (block table (n - h) j) ≡ c
  pub none_before : (before : ℕ) → before < j → ¬ (class_of n table h (block table (n - h) before) ≡ c)

-- The use count of each number below the number of blocks: 0 past the last class.
unfoldable pub use_row : List ℕ → List ℕ
use_row block_classes = map (use_count block_classes) (numbers_from 0 (length block_classes))

unfoldable pub cut_use_row : ℕ → List ℤ → ℕ → List ℕ
cut_use_row n table h = use_row (classes_at n table h)

-- All cuts, from cut 0 to cut n: the class of each block, the first block of each class, each cut's number of classes;
unfoldable pub all_numbers : ℕ → List ℤ → List ℕ
all_numbers n table = flat_map (cut_numbers n table) (numbers_from 0 (suc n))

unfoldable pub all_firsts : ℕ → List ℤ → List ℕ
all_firsts n table = flat_map (cut_firsts n table) (numbers_from 0 (suc n))

unfoldable pub all_counts : ℕ → List ℤ → List ℕ
all_counts n table = map (class_count n table) (numbers_from 0 (suc n))

-- how many classes were tried for each block, how many blocks up to and including it have its class, and the use count
-- of each class.
unfoldable pub all_tries : ℕ → List ℤ → List ℕ
all_tries n table = flat_map (cut_tries n table) (numbers_from 0 (suc n))

unfoldable pub all_uses : ℕ → List ℤ → List ℕ
all_uses n table = flat_map (cut_uses n table) (numbers_from 0 (suc n))

unfoldable pub all_use_rows : ℕ → List ℤ → List ℕ
all_use_rows n table = flat_map (cut_use_row n table) (numbers_from 0 (suc n))
