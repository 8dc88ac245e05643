-- When a case passes, by the number of its operation and its three rows.
use Rattle.std.specs.Prelude.{ℕ, ◌+◌, Bool, false, ◌&&◌, List, [], ◌∷◌, length, get_or, take, drop, eqb, ℤ}
use Rattle.cases.specs.Rows.{size_at}
use Rattle.cases.specs.Text.{line_numbers}
use Rattle.cases.specs.DiagramCases.{build_passes, walk_passes}
use Rattle.cases.specs.ImageCases.{run_passes, expand_passes}
use Rattle.cases.specs.CascadeCases.{plan_passes, compile_passes}
use Rattle.cases.specs.ReportCases.{report_passes}
use Rattle.cases.specs.PairCases.{pair_run_passes}
use Rattle.cases.specs.ReachCases.{reach_passes}
use Rattle.cases.specs.SumCases.{sum_passes, remainder_passes}

-- Whether a case passes as one of each operation, by its number; there is none with the number 0.
unfoldable pub operations_pass : List ℤ → List ℤ → List ℤ → List ℤ → List Bool
operations_pass numbers first second third =
    false
    ∷ build_passes numbers first second
    ∷ walk_passes numbers first
    ∷ plan_passes numbers first second third
    ∷ compile_passes numbers first second third
    ∷ run_passes numbers first
    ∷ expand_passes numbers first second
    ∷ report_passes numbers first second
    ∷ pair_run_passes numbers first
    ∷ reach_passes numbers first second
    ∷ sum_passes numbers first second
    ∷ remainder_passes numbers first second
    ∷ []

-- The first number is that of the operation; no case of another passes.
unfoldable pub rows_pass : List ℤ → List ℤ → List ℤ → List ℤ → Bool
rows_pass numbers first second third = get_or (operations_pass numbers first second third) (size_at numbers 0) false

-- The case of numbers one behind the other: twelve, of which three are counts, and as many in three rows.
unfoldable pub case_passes : List ℤ → Bool
case_passes row =
    let first = 12 + size_at row 9 in
    let second = first + size_at row 10 in
    eqb (length row) (second + size_at row 11)
    && rows_pass row (take (size_at row 9) (drop 12 row)) (take (size_at row 10) (drop first row)) (drop second row)

-- The case of a line.
unfoldable pub line_passes : List ℕ → Bool
line_passes line = case_passes (line_numbers 8448 line)
