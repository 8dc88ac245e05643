-- The node bound, from the kinds of blocks at each height.
use Rattle.std.specs.Prelude.{ℕ, ◌+◌, ◌-◌, ◌*◌, ◌^◌, ◌≤◌, ◌≡◌, List, length, ℤ, pos, ◌≤ℤ◌}
use Rattle.std.proofs.Common.{ap, arith}
use Rattle.numbers.proofs.Laws.Order.{le_less_one_times}
use Rattle.numbers.specs.Answers.{accepted}
use Rattle.diagram.specs.Records.{node_count}
use Rattle.diagram.specs.Build.{Summary, build_answer}
use Rattle.diagram.specs.Bound.{jumps, rising_kinds, node_bound}
use Rattle.diagram.proofs.Laws.Counting.Heights.{low_heights, above_height}
use Rattle.diagram.proofs.Laws.Builds.{build_admits, build_summary}
use Rattle.diagram.proofs.Laws.NodeCount.{node_count_lem}

module _ (n : ℕ) (table : List ℤ) (whole : length table ≡ 2 ^ n) (p l : ℕ) (from_one : 1 ≤ l) (to_n : l ≤ n) where
  -- Without subtraction.
  pub node_bound_natural : node_count n table + l ≤ 2 ^ (n - l) + rising_kinds p l + jumps n table p * l
  node_bound_natural = omega (arith, node_count_lem n table, low_heights n table p whole l to_n, above_height n table l to_n)

  pub node_bound_lem : pos (node_count n table) ≤ℤ node_bound n table p l
  unfolding node_bound
  node_bound_lem = le_less_one_times (node_count n table) (2 ^ (n - l) + rising_kinds p l) (jumps n table p) l node_bound_natural

-- Of Build's node count.
pub build_bound : (n : ℕ) (table : List ℤ) (room : ℕ) (s : Summary) → build_answer n table room ≡ accepted s → (p l : ℕ) → 1 ≤ l → l ≤ n → pos s.nodes ≤ℤ node_bound n table p l
build_bound n table room s e p l from_one to_n =
    rw (ap (λ t. t.nodes) (build_summary n table room s e)) (node_bound_lem n table (build_admits n table room s e).0.size p l from_one to_n)
