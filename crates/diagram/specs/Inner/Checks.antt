-- The checks on a table alone and on a record list alone.
use Rattle.std.specs.Prelude.{ℕ, List, ℤ}
use Rattle.numbers.specs.Answers.{Answer, accepted}
use Rattle.diagram.specs.Build.{of_table}
use Rattle.diagram.specs.Walk.{of_list}

-- What those checks alone answer.
unfoldable pub table_checks : ℕ → List ℤ → Answer Unit
table_checks n table = of_table n table (accepted tt)

-- What the checks on an offset and a record list alone answer.
unfoldable pub list_checks : ℕ → ℤ → List ℤ → Answer Unit
list_checks n offset list = of_list n offset list (accepted tt)
