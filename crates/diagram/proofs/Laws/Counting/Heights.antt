-- The records of all heights, counted: up to height l by rising lists and jumps, above it by blocks.
use Rattle.std.specs.Prelude.{ℕ, zero, suc, ◌+◌, ◌-◌, ◌*◌, ◌^◌, ◌≤◌, ◌≡◌, List, length, ℤ}
use Rattle.std.proofs.Common.{◌∙◌, ap, add-zero, add-suc, arith}
use Rattle.std.proofs.Math.Nat.{sub_self, pow-zero}
use Rattle.numbers.proofs.Laws.Tallies.{sum_run_suc}
use Rattle.diagram.specs.Records.{records_below}
use Rattle.diagram.specs.Bound.{jumps, rising_kinds}
use Rattle.diagram.proofs.Laws.Counting.Kinds.{kinds_le_rising}
use Rattle.diagram.proofs.Laws.Alike.{twice_blocks}
use Rattle.diagram.proofs.Laws.Nodes.{kinds_le}

-- The sum of the bound with one height more.
pub rising_kinds_suc : (p l : ℕ) → rising_kinds p (suc l) ≡ rising_kinds p l + (p + 1) ^ (2 ^ suc l - 1)
unfolding rising_kinds
rising_kinds_suc p l =
    sum_run_suc (λ i. (p + 1) ^ (2 ^ i - 1)) 1 l
    ∙ ap (λ i. rising_kinds p l + (p + 1) ^ (2 ^ i - 1)) (let e : 1 + l ≡ suc l = omega arith in e)

-- ---- low heights

-- Each height up to l has at least one record fewer than rising lists and jumps.
pub low_heights : (n : ℕ) (table : List ℤ) (p : ℕ) → length table ≡ 2 ^ n → (l : ℕ) → l ≤ n → records_below n table l + l ≤ rising_kinds p l + jumps n table p * l
unfolding records_below
low_heights n table p whole zero h = omega arith
low_heights n table p whole (suc l) h =
    let below = low_heights n table p whole l (omega arith) in
    omega (arith, kinds_le_rising n table l p h whole, rising_kinds_suc p l)

-- ---- high heights

-- A height above l has no more records than blocks: half as many as the height below it has.
high_heights : (n : ℕ) (table : List ℤ) (l m : ℕ) → l + m ≤ n → records_below n table (l + m) + 2 ^ (n - (l + m)) ≤ records_below n table l + 2 ^ (n - l)
unfolding records_below
high_heights n table l zero h = rw (add-zero l) (omega arith)
high_heights n table l (suc m) h =
    let below = high_heights n table l m (omega arith) in
    rw (add-suc l m) (omega (arith, kinds_le n table (l + m), twice_blocks n (l + m) (omega arith)))

-- The heights above l have fewer records than there are blocks of height l.
pub above_height : (n : ℕ) (table : List ℤ) (l : ℕ) → l ≤ n → records_below n table n + 1 ≤ records_below n table l + 2 ^ (n - l)
above_height n table l h = let high = high_heights n table l (n - l) (omega arith) in rw (let e : l + (n - l) ≡ n = omega arith in e, sub_self, pow-zero) at high
