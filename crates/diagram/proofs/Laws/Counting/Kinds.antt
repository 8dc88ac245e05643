-- What the records of one variable stand for, counted: no more than rising lists and jumps.
use Rattle.std.specs.Prelude.{ℕ, suc, ◌+◌, ◌-◌, ◌^◌, ◌≤◌, ◌<◌, ◌≡◌, Bool, true, false, ◌||◌, List, [], map, length, get_or, take, drop, replicate, ℤ, pos}
use Rattle.std.proofs.Common.{sym, ◌∙◌, arith, length-take, length-drop, ext_get_or, get_or-take, get_or-drop, ltb-false}
use Rattle.std.proofs.Math.Path.{ap}
use Rattle.std.proofs.Math.Nat.{two-pow-succ}
use Rattle.std.proofs.lemmas.List.{length-replicate, get_or-replicate, length-map}
use Rattle.std.proofs.Math.Dec.{ltb}
use Rattle.std.proofs.Math.Pow.{suc_ones}
use Rattle.numbers.specs.Lists.{numbers_from, keep, tally}
use Rattle.numbers.proofs.Laws.Bools.{yes_or_no}
use Rattle.numbers.proofs.Laws.Lists.{get_d_map}
use Rattle.numbers.proofs.Laws.Order.{no_difference}
use Rattle.numbers.proofs.Laws.Tallies.{kept_all, tally_keep_le, tally_map, tally_runs, tally_le_sum}
use Rattle.blocks.specs.Blocks.{block, blocks, first, lower_half, upper_half, differences}
use Rattle.blocks.specs.Classes.{same}
use Rattle.blocks.proofs.Laws.Blocks.{blocks_count}
use Rattle.blocks.proofs.Laws.Differences.{length_differences, differences_at, first_differences}
use Rattle.blocks.proofs.Laws.Same.{same_true}
use Rattle.diagram.specs.Records.{branches, kinds}
use Rattle.diagram.specs.Bound.{jumps}
use Rattle.diagram.proofs.Laws.Alike.{blocks_at, whole_length}
use Rattle.diagram.proofs.Laws.Branching.{branched_halves}
use Rattle.diagram.proofs.Laws.Counting.Different.{is_among, distinct_le}
use Rattle.diagram.proofs.Laws.Counting.Jumps.{jumps_of_differences, jumps_in_blocks, no_jumps}
use Rattle.diagram.proofs.Laws.Counting.Rising.{changing, changing_count, changing_complete}

-- ---- a branching block

-- A block whose differences are all 0 has one value.
one_value : (values : List ℤ) (k : ℕ) → differences values ≡ replicate k (pos 0) → (x : ℕ) → x < length values → get_or values x (pos 0) ≡ first values
one_value values k e x h =
    no_difference (get_or values x (pos 0)) (first values)
    (sym (differences_at values x h) ∙ ap (λ d. get_or d x (pos 0)) e ∙ get_or-replicate k x (pos 0) (pos 0) below)
  where
    below : x < k
    below = let l = ap length e ∙ length-replicate k (pos 0) in omega (arith, length_differences values)

-- A branching block is not constant.
branching_changes : (i : ℕ) (values : List ℤ) (k : ℕ) → length values ≡ 2 ^ suc i → branches i values ≡ true → same (differences values) (replicate k (pos 0)) ≡ false
unfolding lower_half upper_half
branching_changes i values k e h =
    yes_or_no (same (differences values) (replicate k (pos 0)))
    (λ c. absurd (branched_halves i values h (halves (same_true (differences values) (replicate k (pos 0)) c))))
    (λ c. c)
  where
    halves : differences values ≡ replicate k (pos 0) → lower_half i values ≡ upper_half i values
    halves c =
        ext_get_or (pos 0) (take (2 ^ i) values) (drop (2 ^ i) values) lengths
        (λ x below.
        let inside : x < 2 ^ i = omega (arith, length-take (2 ^ i) values) in
        get_or-take (2 ^ i) values x (pos 0) inside
        ∙ one_value values k c x (omega (arith, two-pow-succ i))
        ∙ sym (one_value values k c (2 ^ i + x) (omega (arith, two-pow-succ i)))
        ∙ sym (get_or-drop (2 ^ i) values x (pos 0)))
      where
        lengths : length (take (2 ^ i) values) ≡ length (drop (2 ^ i) values)
        lengths = omega (arith, length-take (2 ^ i) values, length-drop (2 ^ i) values, two-pow-succ i)

-- ---- kinds with a jump, and without

-- A block of height i has a jump inside.
has_jump : ℕ → ℕ → List ℤ → Bool
has_jump i p values = ltb 0 (jumps i values p)

-- The differences of a branching block have a jump, or are a rising list that is not constant.
kind_covered : (i p : ℕ) (values : List ℤ) → length values ≡ 2 ^ suc i → branches i values ≡ true → (has_jump (suc i) p (differences values) || is_among (changing p (2 ^ suc i - 1)) (differences values)) ≡ true
unfolding has_jump
kind_covered i p values e b =
    yes_or_no (has_jump (suc i) p (differences values))
    (λ jumping. rw jumping)
    (λ calm.
    let none : jumps (suc i) (differences values) p ≡ 0 = omega (arith, ltb-false 0 (jumps (suc i) (differences values) p) calm) in
    ap (λ b. b || is_among (changing p (2 ^ suc i - 1)) (differences values)) calm
    ∙ changing_complete p (2 ^ suc i - 1) (differences values)
    (length_differences values ∙ e ∙ sym (suc_ones (suc i)))
    (first_differences values)
    (no_jumps (suc i) (differences values) p none)
    (branching_changes i values (suc (2 ^ suc i - 1)) e b))

module _ (n : ℕ) (table : List ℤ) (i : ℕ) (inside : i ≤ n) (whole : length table ≡ 2 ^ n) where
  -- No more blocks of a height have a jump inside than the table has jumps.
  jumping_blocks : (p : ℕ) → tally (λ values. has_jump i p (differences values)) (blocks n table i) ≤ jumps n table p
  unfolding blocks has_jump
  jumping_blocks p =
      let mapped = tally_map (λ values. has_jump i p (differences values)) (block table i) (numbers_from 0 (2 ^ (n - i))) in
      let summed = tally_le_sum (λ j. jumps i (block table i j) p) (numbers_from 0 (2 ^ (n - i))) in
      omega (arith, alike, jumps_in_blocks n table i p inside)
    where
      alike : tally (λ j. has_jump i p (differences (block table i j))) (numbers_from 0 (2 ^ (n - i))) ≡ tally (λ j. ltb 0 (jumps i (block table i j) p)) (numbers_from 0 (2 ^ (n - i)))
      alike =
          tally_runs (λ j. has_jump i p (differences (block table i j))) (λ j. ltb 0 (jumps i (block table i j) p)) 0 0 (2 ^ (n - i))
          (λ j below. ap (ltb 0) (jumps_of_differences i (block table i (0 + j)) p (whole_length n table whole i (0 + j) inside (omega arith))))

-- A variable has no more kinds than there are rising lists, but for the constant one, and jumps.
pub kinds_le_rising : (n : ℕ) (table : List ℤ) (i p : ℕ) → suc i ≤ n → length table ≡ 2 ^ n → length (kinds n table i) + 1 ≤ (p + 1) ^ (2 ^ suc i - 1) + jumps n table p
unfolding kinds
kinds_le_rising n table i p inside whole =
    let different = distinct_le (has_jump (suc i) p) (changing p (2 ^ suc i - 1)) (map differences branching) covered in
    let mapped = tally_map (has_jump (suc i) p) differences branching in
    let kept = tally_keep_le (λ values. has_jump (suc i) p (differences values)) (branches i) (blocks n table (suc i)) in
    omega (arith, changing_count p (2 ^ suc i - 1), jumping_blocks n table (suc i) inside whole p)
  where
    branching : List (List ℤ)
    branching = keep (branches i) (blocks n table (suc i))

    -- The values of a block whose kind is counted.
    Covered : List ℤ → Type 0
    Covered values = (has_jump (suc i) p (differences values) || is_among (changing p (2 ^ suc i - 1)) (differences values)) ≡ true

    of_block : (k : ℕ) → k < length (blocks n table (suc i)) → branches i (get_or (blocks n table (suc i)) k []) ≡ true → Covered (get_or (blocks n table (suc i)) k [])
    of_block k below =
        let inner : k < 2 ^ (n - suc i) = rw blocks_count at below in
        rw (blocks_at n table (suc i) k inner)
        (kind_covered i p (block table (suc i) k) (whole_length n table whole (suc i) k inside inner))

    covered : (j : ℕ) → j < length (map differences branching) → (has_jump (suc i) p (get_or (map differences branching) j []) || is_among (changing p (2 ^ suc i - 1)) (get_or (map differences branching) j [])) ≡ true
    covered j below =
        let met : j < length branching = rw length-map at below in
        rw (get_d_map differences branching j [] [] met) (kept_all (branches i) Covered [] (blocks n table (suc i)) of_block j met)
