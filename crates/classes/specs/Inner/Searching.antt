-- What the search for a block's class is lent, and what it answers.
use Rattle.std.specs.Prelude.{ℕ, Option, Some, None, cond, ltb, ◌+◌, ◌-◌, ◌*◌, ◌^◌, ◌≤◌, ◌<◌, ◌≡◌, List, [], map, length, get_or, take, drop, ℤ}
use Rattle.blocks.specs.Blocks.{differences}
use Rattle.blocks.specs.Classes.{number_in}
use Rattle.blocks.specs.Inner.Layout.{part}
use Rattle.blocks.specs.Tries.{number_tried}
use Rattle.classes.specs.declared.search.Found.{Found}
use Rattle.classes.specs.declared.search.Looked.{Looked}

-- The differences of parts, given by their numbers.
unfoldable pub part_differences : List ℤ → ℕ → List ℕ → List (List ℤ)
part_differences table size parts = map (λ j. differences (part table size j)) parts

-- Each of these parts lies within the table.
pub record PartsWithin (table : List ℤ) (size : ℕ) (parts : List ℕ) : Type 0 where
  pub inside : (k : ℕ) → k < length parts → get_or parts k 0 * size + size ≤ length table

-- The first of the known lists from one number on and before another that is equal; that other number where none is.
unfoldable pub first_between : List (List ℤ) → ℕ → ℕ → List ℤ → ℕ
first_between known from to d = from + number_in (take (to - from) (drop from known)) d

-- It as what is found: nothing where none is.
unfoldable pub found_between : List (List ℤ) → ℕ → ℕ → List ℤ → Option ℕ
found_between known from to d = cond (ltb (first_between known from to d) to) (Some (first_between known from to d)) None

-- Known classes, each given by its first block: each has its own number, so that no two have the same differences, and the latest
-- class is one of them where any is known.
pub record KnownClasses (table : List ℤ) (size : ℕ) (firsts : List ℕ) (latest : ℕ) : Type 0 where
  pub parts : PartsWithin table size firsts
  pub apart : (k : ℕ) → k < length firsts → number_in (part_differences table size firsts) (get_or (part_differences table size firsts) k []) ≡ k
  pub among : 0 < length firsts → latest < length firsts

-- What looking a block up gives, the block given by its differences: its number among the known lists, and how many were tried.
unfoldable pub looked_up : List (List ℤ) → ℕ → List ℤ → Looked
looked_up known latest d = record { class = number_in known d; tried = number_tried (length known) latest (number_in known d) }

-- The uses of a class with one block more, from the use counts so far; a class past the last of them is new.
unfoldable pub uses_with : List ℕ → ℕ → ℕ
uses_with use_counts class = get_or use_counts class 0 + 1

-- Use counts that can be counted on.
pub record SmallCounts (use_counts : List ℕ) : Type 0 where
  pub small : (class : ℕ) → class < length use_counts → get_or use_counts class 0 < 2 ^ 63

-- What the search answers for a block, given by its differences: its number among the known lists, how many were tried, and how many
-- blocks have it then.
unfoldable pub found_among : List (List ℤ) → List ℕ → ℕ → List ℤ → Found
found_among known use_counts latest d = record {
  class = number_in known d;
  tried = number_tried (length known) latest (number_in known d);
  uses = uses_with use_counts (number_in known d);
}
