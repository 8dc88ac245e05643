-- The node bound of the demands, for every table, every p and every l from 1 to n.
use Rattle.std.specs.Prelude.{ℕ, ◌+◌, ◌-◌, ◌*◌, ◌^◌, ◌≤◌, ◌≡◌, List, length, ℤ, pos, ◌≤ℤ◌}
use Rattle.numbers.specs.Answers.{accepted}
use Rattle.diagram.specs.Records.{node_count}
use Rattle.diagram.specs.Build.{Summary, build_answer}
use Rattle.diagram.specs.Bound.{jumps, rising_kinds, node_bound}
use Rattle.diagram.proofs.Laws.NodeBound as proved

module _ (n : ℕ) (table : List ℤ) (whole : length table ≡ 2 ^ n) where
  -- Over the natural numbers, without subtraction: the node count and l are at most
  -- 2^(n-l) + (sum over i = 1..l of (p+1)^(2^i - 1)) + k·l.
  pub node_bound_natural : (p l : ℕ) → 1 ≤ l → l ≤ n
      → node_count n table + l ≤ 2 ^ (n - l) + rising_kinds p l + jumps n table p * l
  node_bound_natural = proved.node_bound_natural n table whole

  -- The node count is at most 2^(n-l) + (sum over i = 1..l of (p+1)^(2^i - 1)) + (k-1)·l.
  -- Where k is 0, the last part is -l.
  pub node_bound_lem : (p l : ℕ) → 1 ≤ l → l ≤ n → pos (node_count n table) ≤ℤ node_bound n table p l
  node_bound_lem = proved.node_bound_lem n table whole

-- So is the node count that Build answers.
pub build_bound : (n : ℕ) (table : List ℤ) (room : ℕ) (s : Summary) → build_answer n table room ≡ accepted s
    → (p l : ℕ) → 1 ≤ l → l ≤ n → pos s.nodes ≤ℤ node_bound n table p l
build_bound = proved.build_bound
