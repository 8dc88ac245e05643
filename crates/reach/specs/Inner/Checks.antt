-- Reach's checks.
use Rattle.std.specs.Prelude.{ℕ, List, ℤ}
use Rattle.numbers.specs.Answers.{Answer, accepted, unless}
use Rattle.numbers.specs.Ranges.{is_limit}
use Rattle.diagram.specs.Build.{of_table}

-- What the checks alone answer, which are Plan's.
unfoldable pub call_checks : ℕ → List ℤ → ℕ → Answer Unit
call_checks n table limit = of_table n table (unless (is_limit limit) 8 (accepted tt))
