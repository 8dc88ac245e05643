-- Blocks: how many there are, how long each is, that they append to the table, and blocks within blocks.
use Rattle.std.specs.Prelude.{ℕ, zero, suc, ◌+◌, ◌-◌, ◌*◌, ◌^◌, ◌≤◌, ◌<◌, ◌≡◌, length, get_or, take, drop, ℤ, pos}
use Rattle.std.proofs.Common.{sym, ◌∙◌, ap, ap₂, add-zero, suc-mul, zero-mul, one-mul, arith, length-take, length-drop, take-take, drop-drop, take-add, take_all, get_or-take, get_or-drop, pow_pos, pow-add}
use mathlib.Core.List.{List, ◌++◌, map, flatten}
use Rattle.std.proofs.Math.Nat.{min-eq_left}
use Rattle.std.proofs.lemmas.List.{length-map}
use Rattle.std.proofs.Math.Seq.{take-length}
use Rattle.numbers.specs.Lists.{numbers_from}
use Rattle.numbers.proofs.Laws.Lists.{length_range, drop_take}
use Rattle.numbers.proofs.Laws.Powers.{power_split, part_room, part_of_part}
use Rattle.blocks.specs.Blocks.{block, blocks, first, lower_half, upper_half}

pub blocks_count : (n : ℕ) (table : List ℤ) (i : ℕ) → length (blocks n table i) ≡ 2 ^ (n - i)
unfolding blocks
blocks_count n table i = length-map (numbers_from 0 (2 ^ (n - i))) (block table i) ∙ length_range 0 (2 ^ (n - i))

-- A block within the table has its whole length.
pub block_length : (table : List ℤ) (i j : ℕ) → j * 2 ^ i + 2 ^ i ≤ length table → length (block table i j) ≡ 2 ^ i
unfolding block
block_length table i j h = simp (length-take, length-drop) (min-eq_left (omega arith))

pub block_at : (table : List ℤ) (i j x : ℕ) → x < 2 ^ i → get_or (block table i j) x (pos 0) ≡ get_or table (j * 2 ^ i + x) (pos 0)
unfolding block
block_at table i j x h = get_or-take (2 ^ i) (drop (j * 2 ^ i) table) x (pos 0) h ∙ get_or-drop (j * 2 ^ i) table x (pos 0)

-- The part of the table from a block's start to its end is the block.
pub block_part : (table : List ℤ) (size i j : ℕ) → size ≡ 2 ^ i → take (j * size + size - j * size) (drop (j * size) table) ≡ block table i j
unfolding block
block_part table size i j e =
    ap (λ n. take n (drop (j * size) table)) (let d : j * size + size - j * size ≡ size = omega arith in d)
    ∙ ap (λ s. take s (drop (j * s) table)) e

-- The first value of a block stands where the block begins.
pub first_of_block : (table : List ℤ) (i j : ℕ) → first (block table i j) ≡ get_or table (j * 2 ^ i) (pos 0)
unfolding first
first_of_block table i j = block_at table i j 0 (pow_pos i) ∙ ap (λ x. get_or table x (pos 0)) (add-zero (j * 2 ^ i))

-- A block at cut h lies within the table.
pub block_within : (n h j : ℕ) → h ≤ n → j < 2 ^ h → j * 2 ^ (n - h) + 2 ^ (n - h) ≤ 2 ^ n
block_within n h j cut l =
    let whole : 2 ^ h * 2 ^ (n - h) ≡ 2 ^ n = (sym (pow-add 2 h (n - h)) ∙ ap (λ k. 2 ^ k) (let e : h + (n - h) ≡ n = omega arith in e)) in
    let r = part_room (2 ^ h) (n - h) j l in
    omega arith

-- Blocks side by side are one part of the table.
blocks_side_by_side : (table : List ℤ) (i j count : ℕ) → flatten (map (block table i) (numbers_from j count)) ≡ take (count * 2 ^ i) (drop (j * 2 ^ i) table)
unfolding flatten numbers_from block
blocks_side_by_side table i j zero = ap (λ n. take n (drop (j * 2 ^ i) table)) (sym (zero-mul (2 ^ i)))
blocks_side_by_side table i j (suc count) =
    ap (λ l. block table i j ++ l) (blocks_side_by_side table i (suc j) count)
    ∙ ap (λ n. block table i j ++ take (count * 2 ^ i) (drop n table)) (suc-mul j (2 ^ i))
    ∙ ap (λ l. block table i j ++ take (count * 2 ^ i) l) (sym (drop-drop (2 ^ i) (j * 2 ^ i) table))
    ∙ sym (take-add (2 ^ i) (count * 2 ^ i) (drop (j * 2 ^ i) table))
    ∙ ap (λ n. take n (drop (j * 2 ^ i) table)) (let e : 2 ^ i + count * 2 ^ i ≡ suc count * 2 ^ i = omega (arith, suc-mul count (2 ^ i)) in e)

-- The blocks of a height append to the table.
pub blocks_append : (n : ℕ) (table : List ℤ) (i : ℕ) → i ≤ n → length table ≡ 2 ^ n → flatten (blocks n table i) ≡ table
unfolding blocks
blocks_append n table i h e =
    blocks_side_by_side table i 0 (2 ^ (n - i))
    ∙ ap₂ (λ a b. take a (drop b table)) (power_split n i h ∙ sym e) (zero-mul (2 ^ i))
    ∙ take-length table

-- A block of height i within a block of height k + i is a block of the table.
pub block_in_block : (table : List ℤ) (i k j v : ℕ) → v < 2 ^ k → block (block table (k + i) j) i v ≡ block table i (j * 2 ^ k + v)
unfolding block
block_in_block table i k j v h =
    ap (take (2 ^ i)) (drop_take (v * 2 ^ i) (2 ^ (k + i)) (drop (j * 2 ^ (k + i)) table))
    ∙ take-take (2 ^ i) (2 ^ (k + i) - v * 2 ^ i) (drop (v * 2 ^ i) (drop (j * 2 ^ (k + i)) table)) room
    ∙ ap (take (2 ^ i)) (drop-drop (v * 2 ^ i) (j * 2 ^ (k + i)) table ∙ ap (λ n. drop n table) (part_of_part i k j v))
  where
    room : 2 ^ i ≤ 2 ^ (k + i) - v * 2 ^ i
    room = let m = part_room (2 ^ k) i v h in omega (arith, pow-add 2 k i)

-- The halves are blocks too.
pub lower_half_block : (i : ℕ) (values : List ℤ) → lower_half i values ≡ block values i 0
unfolding lower_half block
lower_half_block i values = ap (λ n. take (2 ^ i) (drop n values)) (sym (zero-mul (2 ^ i)))

pub upper_half_block : (i : ℕ) (values : List ℤ) → length values ≡ 2 ^ i + 2 ^ i → upper_half i values ≡ block values i 1
unfolding upper_half block
upper_half_block i values e =
    sym (take_all (2 ^ i) (drop (2 ^ i) values) (rw length-drop (omega arith)))
    ∙ ap (λ n. take (2 ^ i) (drop n values)) (sym (one-mul (2 ^ i)))
