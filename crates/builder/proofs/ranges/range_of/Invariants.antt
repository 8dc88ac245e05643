use Rattle.std.specs.Prelude.{ℕ, ◌≤◌, ◌≡◌, List, take, ℤ}
use Rattle.numbers.specs.Extremes.{least_of, greatest_of}
use Rattle.blocks.specs.Blocks.{differences}
use Rattle.builder.proofs.ranges.range_of.Given as goal

-- The extremes of the differences before place x.
pub record Gathered (values : List ℤ) (x : ℕ) (low high : ℤ) : Type 0 where
  pub some : 1 ≤ x
  pub lows : low ≡ least_of (take x (differences values))
  pub highs : high ≡ greatest_of (take x (differences values))

abbrev pub invariant-loop-x : goal.invariant-loop-x
invariant-loop-x l = Gathered l.values l.x l.least l.greatest
