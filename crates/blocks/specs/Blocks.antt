-- Blocks of a table, their halves and their differences. A table is the list of its values, and so is a block.
use Rattle.std.specs.Prelude.{ℕ, ◌-◌, ◌*◌, ◌^◌, List, map, get_or, take, drop, ℤ, pos, ◌-ℤ◌}
use Rattle.numbers.specs.Lists.{numbers_from}

-- Block j of height i (the paper's terms): 2^i values from the j-th multiple of 2^i on.
unfoldable pub block : List ℤ → ℕ → ℕ → List ℤ
block table i j = take (2 ^ i) (drop (j * 2 ^ i) table)

-- The blocks of height i of a table over n variables, from the left.
unfoldable pub blocks : ℕ → List ℤ → ℕ → List (List ℤ)
blocks n table i = map (block table i) (numbers_from 0 (2 ^ (n - i)))

-- The first value of a block.
unfoldable pub first : List ℤ → ℤ
first values = get_or values 0 (pos 0)

-- The lower half of a block (the paper's term), where a half has height i.
unfoldable pub lower_half : ℕ → List ℤ → List ℤ
lower_half i values = take (2 ^ i) values

-- The upper half of a block (the paper's term), where a half has height i: the part that begins in the block's middle.
unfoldable pub upper_half : ℕ → List ℤ → List ℤ
upper_half i values = drop (2 ^ i) values

-- Differences of a block (the paper's term): its values less its first value.
unfoldable pub differences : List ℤ → List ℤ
differences values = map (λ v. v -ℤ first values) values
