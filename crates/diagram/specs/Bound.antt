-- The node bound of the demands: k, and the bound for every p and every l.
use Rattle.std.specs.Prelude.{ℕ, ◌+◌, ◌-◌, ◌^◌, Bool, ◌||◌, List, map, get_or, ℤ, pos, ◌+ℤ◌, ◌-ℤ◌, ◌*ℤ◌}
use Rattle.std.specs.Int.Signed.{lt_z}
use Rattle.numbers.specs.Lists.{numbers_from, tally, sum_of}

-- f(X+1) - f(X).
unfoldable pub step_at : List ℤ → ℕ → ℤ
step_at table x = get_or table (x + 1) (pos 0) -ℤ get_or table x (pos 0)

-- A step that is under 0 or over p.
unfoldable pub is_jump : ℕ → ℤ → Bool
is_jump p step = lt_z step (pos 0) || lt_z (pos p) step

-- k of the node bound: how many X below 2^n - 1 have a jump to X + 1. Every adjacent pair counts.
unfoldable pub jumps : ℕ → List ℤ → ℕ → ℕ
jumps n table p = tally (λ x. is_jump p (step_at table x)) (numbers_from 0 (2 ^ n - 1))

-- The sum over i = 1..l of (p + 1)^(2^i - 1).
unfoldable pub rising_kinds : ℕ → ℕ → ℕ
rising_kinds p l = sum_of (map (λ i. (p + 1) ^ (2 ^ i - 1)) (numbers_from 1 l))

-- 2^(n-l) + (sum over i = 1..l of (p+1)^(2^i - 1)) + (k-1)·l.
unfoldable pub node_bound : ℕ → List ℤ → ℕ → ℕ → ℤ
node_bound n table p l = pos (2 ^ (n - l) + rising_kinds p l) +ℤ (pos (jumps n table p) -ℤ pos 1) *ℤ pos l
