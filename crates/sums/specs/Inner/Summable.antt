-- Weights whose sums can be formed.
use Rattle.std.specs.Prelude.{◌≤◌, ◌≡◌, true, List, length, ℤ}
use Rattle.numbers.specs.Lists.{every}
use Rattle.numbers.specs.Ranges.{is_value}

-- Their sums, at any X and of any of the weights, fit the machine's numbers.
pub record Summable (weights : List ℤ) : Type 0 where
  pub few : length weights ≤ 12
  pub values : every is_value weights ≡ true
