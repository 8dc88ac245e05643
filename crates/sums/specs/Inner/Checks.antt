-- The checks on a weight list alone.
use Rattle.std.specs.Prelude.{ℕ, List, ℤ}
use Rattle.numbers.specs.Answers.{Answer, accepted}
use Rattle.sums.specs.Sums.{of_weights}

-- What those checks alone answer.
unfoldable pub weight_checks : ℕ → List ℤ → Answer Unit
weight_checks n weights = of_weights n weights (accepted tt)
