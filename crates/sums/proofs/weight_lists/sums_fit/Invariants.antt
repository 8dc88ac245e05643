use Rattle.std.proofs.Common.{ℕ, ◌≡◌, List, ℤ, take}
use Rattle.sums.specs.Sums.{least_sum, greatest_sum}
use Rattle.sums.proofs.weight_lists.sums_fit.Given as goal

pub record Sums (weights : List ℤ) (least greatest : ℤ) (j : ℕ) : Type 0 where
  pub low : least ≡ least_sum (take j weights)
  pub high : greatest ≡ greatest_sum (take j weights)

abbrev pub invariant-loop-weight : goal.invariant-loop-weight
invariant-loop-weight l = Sums l.weights l.least l.greatest l.weight-index
