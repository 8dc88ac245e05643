use Rattle.std.proofs.Common.{ℕ, ◌≡◌, List, ℤ}
use Rattle.numbers.specs.Extremes.{least_of, greatest_of}
use Rattle.numbers.specs.Lists.{exact_sum}
use Rattle.diagram.specs.declared.Waypoint.{Waypoint}
use Rattle.report.specs.Report.{values_from}
use Rattle.report.specs.Inner.Tops.{top_at}
use Rattle.report.proofs.figures.Given as goal

-- The figures of the values from a to x, and the path to x.
pub record Gathered (n : ℕ) (offset : ℤ) (list : List ℤ) (a x : ℕ) (top : Waypoint) (low high sum : ℤ) : Type 0 where
  pub reaches : top ≡ top_at n offset list x
  pub lows : low ≡ least_of (values_from n offset list a x)
  pub highs : high ≡ greatest_of (values_from n offset list a x)
  pub sums : sum ≡ exact_sum (values_from n offset list a x)

abbrev pub invariant-loop-x : goal.invariant-loop-x
invariant-loop-x l = Gathered l.list.n l.list.offset l.list.records.now l.a l.x l.top l.least l.greatest l.sum
