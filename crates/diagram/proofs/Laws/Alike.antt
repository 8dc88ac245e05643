-- Lists that are blocks of a table up to a constant, and their halves.
use Rattle.std.specs.Prelude.{ℕ, suc, ◌+◌, ◌-◌, ◌*◌, ◌^◌, ◌≤◌, ◌<◌, ◌≡◌, refl, List, [], length, get_or, drop, ℤ}
use Rattle.std.proofs.Common.{sym, ◌∙◌, zero-mul, zero-add, one-add, arith, lit<, pow_pos}
use Rattle.std.proofs.Math.Path.{ap}
use Rattle.std.proofs.Math.Nat.{two-pow-succ}
use Rattle.std.proofs.Math.ListN.{take}
use Rattle.std.proofs.Math.Seq.{take_all}
use Rattle.numbers.specs.Lists.{numbers_from}
use Rattle.numbers.proofs.Laws.Lists.{length_range, get_d_range, get_d_map}
use Rattle.numbers.proofs.Laws.Powers.{power_split, part_room}
use Rattle.blocks.specs.Blocks.{block, blocks, lower_half, upper_half, differences}
use Rattle.blocks.proofs.Laws.Blocks.{block_length, block_in_block, lower_half_block, upper_half_block}
use Rattle.blocks.proofs.Laws.Differences.{same_length}
use Rattle.diagram.proofs.Laws.Shifts.{same_lower, same_upper}

-- Twice as many blocks of one height less.
pub twice_blocks : (n i : ℕ) → suc i ≤ n → 2 ^ (n - i) ≡ 2 ^ (n - suc i) + 2 ^ (n - suc i)
twice_blocks n i h = ap (λ k. 2 ^ k) (let e : n - i ≡ suc (n - suc i) = omega arith in e) ∙ two-pow-succ (n - suc i)

-- ---- blocks of the table

-- Block j of a height stands at place j.
pub blocks_at : (n : ℕ) (table : List ℤ) (i j : ℕ) → j < 2 ^ (n - i) → get_or (blocks n table i) j [] ≡ block table i j
unfolding blocks
blocks_at n table i j l =
    get_d_map (block table i) (numbers_from 0 (2 ^ (n - i))) j 0 [] (rw length_range l)
    ∙ ap (block table i) (get_d_range 0 (2 ^ (n - i)) j 0 l ∙ zero-add j)

-- The lower half of block j is block 2j of one height less.
pub lower_of_block : (table : List ℤ) (i j : ℕ) → lower_half i (block table (suc i) j) ≡ block table i (j * 2)
lower_of_block table i j =
    lower_half_block i (block table (suc i) j)
    ∙ ap (λ k. block (block table k j) i 0) (sym (one-add i))
    ∙ block_in_block table i 1 j 0 (lit< tt)
    ∙ ap (block table i) (let e : j * 2 + 0 ≡ j * 2 = omega arith in e)

-- Lists whose differences are those of a block of height i of the table.
pub record BlockLike (n : ℕ) (table : List ℤ) (i : ℕ) (values : List ℤ) : Type 0 where
  pub place : ℕ
  pub inside : place < 2 ^ (n - i)
  pub alike : differences values ≡ differences (block table i place)

module _ (n : ℕ) (table : List ℤ) (size : length table ≡ 2 ^ n) where
  -- Each block has its whole length.
  pub whole_length : (i j : ℕ) → i ≤ n → j < 2 ^ (n - i) → length (block table i j) ≡ 2 ^ i
  whole_length i j h l = block_length table i j (let r = part_room (2 ^ (n - i)) i j l in omega (arith, power_split n i h))

  -- The upper half of block j is block 2j + 1 of one height less.
  pub upper_of_block : (i j : ℕ) → suc i ≤ n → j < 2 ^ (n - suc i) → upper_half i (block table (suc i) j) ≡ block table i (j * 2 + 1)
  upper_of_block i j h l =
      upper_half_block i (block table (suc i) j) (whole_length (suc i) j h l ∙ two-pow-succ i)
      ∙ ap (λ k. block (block table k j) i 1) (sym (one-add i))
      ∙ block_in_block table i 1 j 1 (lit< tt)

  -- ---- lists that are blocks up to a constant

  -- A block is like itself.
  pub block_like : (i j : ℕ) → j < 2 ^ (n - i) → BlockLike n table i (block table i j)
  block_like i j l = record { place = j; inside = l; alike = refl }

  -- Such a list has a block's length.
  pub like_length : (i : ℕ) (values : List ℤ) → i ≤ n → BlockLike n table i values → length values ≡ 2 ^ i
  like_length i values h b = same_length values (block table i b.place) b.alike ∙ whole_length i b.place h b.inside

  -- Its halves are such lists too, of one height less.
  pub like_lower : (i : ℕ) (values : List ℤ) → suc i ≤ n → BlockLike n table (suc i) values → BlockLike n table i (lower_half i values)
  like_lower i values h b = record {
    place = b.place * 2;
    inside = omega (arith, twice_blocks n i h);
    alike = same_lower i values (block table (suc i) b.place) b.alike ∙ ap differences (lower_of_block table i b.place);
  }

  pub like_upper : (i : ℕ) (values : List ℤ) → suc i ≤ n → BlockLike n table (suc i) values → BlockLike n table i (upper_half i values)
  like_upper i values h b = record {
    place = b.place * 2 + 1;
    inside = omega (arith, twice_blocks n i h);
    alike = same_upper i values (block table (suc i) b.place) b.alike ∙ ap differences (upper_of_block i b.place h b.inside);
  }

  -- The table is its own block of height n.
  pub table_block : block table n 0 ≡ table
  unfolding block
  table_block = ap (λ k. take (2 ^ n) (drop k table)) (zero-mul (2 ^ n)) ∙ take_all (2 ^ n) table (omega arith)

  -- And so it is like a block.
  pub table_like : BlockLike n table n table
  table_like = record { place = 0; inside = pow_pos (n - n); alike = ap differences (sym table_block) }
