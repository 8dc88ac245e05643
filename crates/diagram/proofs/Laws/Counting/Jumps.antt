-- Jumps of blocks: those inside the blocks of one height are jumps of the table, each inside one block only.
use Rattle.std.specs.Prelude.{ℕ, zero, suc, ◌+◌, ◌-◌, ◌*◌, ◌^◌, ◌≤◌, ◌<◌, ◌≡◌, Bool, false, List, map, length, get_or, ℤ, pos, ◌-ℤ◌}
use Rattle.std.proofs.Common.{sym, ◌∙◌, ap, ap₂, zero-add, add_assoc, arith, pow_pos}
use Rattle.numbers.specs.Lists.{numbers_from, tally, sum_of}
use Rattle.numbers.proofs.Laws.Integers.{sub_sub_same}
use Rattle.numbers.proofs.Laws.Powers.{power_split}
use Rattle.numbers.proofs.Laws.Tallies.{tally_runs, none_in_run, tally_run_append, sum_run_suc}
use Rattle.blocks.specs.Blocks.{block, first, differences}
use Rattle.blocks.proofs.Laws.Blocks.{block_at}
use Rattle.blocks.proofs.Laws.Differences.{differences_at}
use Rattle.diagram.specs.Bound.{step_at, is_jump, jumps}

-- A list without a jump, step by step.
pub no_jumps : (i : ℕ) (values : List ℤ) (p : ℕ) → jumps i values p ≡ 0 → (x : ℕ) → x < 2 ^ i - 1 → is_jump p (step_at values x) ≡ false
unfolding jumps
no_jumps i values p h x below = rw zero-add at (none_in_run (λ x. is_jump p (step_at values x)) 0 (2 ^ i - 1) h x below)

-- Differences have the steps of the values.
pub step_of_differences : (values : List ℤ) (x : ℕ) → x + 1 < length values → step_at (differences values) x ≡ step_at values x
unfolding step_at
step_of_differences values x h =
    ap₂ ◌-ℤ◌ (differences_at values (x + 1) h) (differences_at values x (omega arith))
    ∙ sub_sub_same (get_or values (x + 1) (pos 0)) (first values) (get_or values x (pos 0))

-- And their jumps.
pub jumps_of_differences : (i : ℕ) (values : List ℤ) (p : ℕ) → length values ≡ 2 ^ i → jumps i (differences values) p ≡ jumps i values p
unfolding jumps
jumps_of_differences i values p e =
    tally_runs (λ x. is_jump p (step_at (differences values) x)) (λ x. is_jump p (step_at values x)) 0 0 (2 ^ i - 1)
    (λ x h. ap (is_jump p) (step_of_differences values (0 + x) (omega arith)))

-- A block has the steps of the table.
pub step_of_block : (table : List ℤ) (i j x : ℕ) → x + 1 < 2 ^ i → step_at (block table i j) x ≡ step_at table (j * 2 ^ i + x)
unfolding step_at
step_of_block table i j x h =
    ap₂ ◌-ℤ◌
    (block_at table i j (x + 1) h ∙ ap (λ y. get_or table y (pos 0)) (sym (add_assoc (j * 2 ^ i) x 1)))
    (block_at table i j x (omega arith))

-- Its jumps are those of the table at the places inside it.
pub jumps_of_block : (table : List ℤ) (i j p : ℕ) → jumps i (block table i j) p ≡ tally (λ x. is_jump p (step_at table x)) (numbers_from (j * 2 ^ i) (2 ^ i - 1))
unfolding jumps
jumps_of_block table i j p =
    tally_runs (λ x. is_jump p (step_at (block table i j) x)) (λ x. is_jump p (step_at table x)) 0 (j * 2 ^ i) (2 ^ i - 1)
    (λ x h. ap (is_jump p) (ap (step_at (block table i j)) (zero-add x) ∙ step_of_block table i j x (omega arith)))

-- The jumps inside so many first blocks are jumps at places before the last one's end.
jumps_within : (table : List ℤ) (i p count places : ℕ) → count * 2 ^ i ≤ places + 1 → sum_of (map (λ j. jumps i (block table i j) p) (numbers_from 0 count)) ≤ tally (λ x. is_jump p (step_at table x)) (numbers_from 0 places)
unfolding sum_of numbers_from
jumps_within table i p zero places h = omega arith
jumps_within table i p (suc count) places h =
    let before = jumps_within table i p count (count * 2 ^ i) (omega arith) in
    let last : sum_of (map inner (numbers_from 0 (suc count))) ≡ sum_of (map inner (numbers_from 0 count)) + inner count = rw zero-add at (sum_run_suc inner 0 count) in
    let inside = jumps_of_block table i count p in
    omega (arith, parted)
  where
    inner : ℕ → ℕ
    inner j = jumps i (block table i j) p

    jump : ℕ → Bool
    jump x = is_jump p (step_at table x)

    -- The places after the last block.
    rest : ℕ
    rest = places - (count * 2 ^ i + (2 ^ i - 1))

    parted : tally jump (numbers_from 0 places) ≡ tally jump (numbers_from 0 (count * 2 ^ i)) + (tally jump (numbers_from (count * 2 ^ i) (2 ^ i - 1)) + tally jump (numbers_from (count * 2 ^ i + (2 ^ i - 1)) rest))
    parted =
        ap (λ m. tally jump (numbers_from 0 m)) (let e : places ≡ count * 2 ^ i + (2 ^ i - 1 + rest) = omega (arith, pow_pos i) in e)
        ∙ tally_run_append jump 0 (count * 2 ^ i) (2 ^ i - 1 + rest)
        ∙ rw zero-add (ap (λ t. tally jump (numbers_from 0 (count * 2 ^ i)) + t) (tally_run_append jump (count * 2 ^ i) (2 ^ i - 1) rest))

-- The jumps inside the blocks of one height are jumps of the table.
pub jumps_in_blocks : (n : ℕ) (table : List ℤ) (i p : ℕ) → i ≤ n → sum_of (map (λ j. jumps i (block table i j) p) (numbers_from 0 (2 ^ (n - i)))) ≤ jumps n table p
unfolding jumps
jumps_in_blocks n table i p h = jumps_within table i p (2 ^ (n - i)) (2 ^ n - 1) (omega (arith, power_split n i h, pow_pos n))
