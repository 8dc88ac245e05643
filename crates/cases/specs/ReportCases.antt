-- When a case of the report passes, by the definition of the operation. What the numbers of a case are stands in the crate checks.
use Rattle.std.specs.Prelude.{Bool, ◌&&◌, List, ℤ, pos, ◌+ℤ◌, ◌*ℤ◌, ◌==◌, slice_index_or}
use Rattle.numbers.specs.Answers.{Answer}
use Rattle.numbers.specs.Ranges.{eq_z}
use Rattle.report.specs.Report.{Figures, report}
use Rattle.cases.specs.Rows.{size_at, answer_is}

-- The sum that the first two numbers of a row stand for: thousands of millions, and the rest. Both may be below 0.
unfoldable pub sum_of : List ℤ → ℤ
sum_of row = slice_index_or row 0 (pos 0) *ℤ pos 1000000000 +ℤ slice_index_or row 1 (pos 0)

-- The figures are the expected ones: the count, the least, the greatest and the sum.
unfoldable pub figures_are : List ℤ → List ℤ → Figures → Bool
figures_are numbers expected f =
    (size_at numbers 6 == f.count)
    && (eq_z f.least (slice_index_or numbers 7 (pos 0))
    && (eq_z f.greatest (slice_index_or numbers 8 (pos 0))
    && eq_z f.sum (sum_of expected)))

-- The report's answer is the expected one: its refusal or its figures.
unfoldable pub reported_is : List ℤ → List ℤ → Answer Figures → Bool
reported_is numbers expected answer = answer_is (size_at numbers 5) (figures_are numbers expected) answer

-- The report answers so.
unfoldable pub report_passes : List ℤ → List ℤ → List ℤ → Bool
report_passes numbers records sum =
    reported_is numbers sum (report (size_at numbers 1) (slice_index_or numbers 2 (pos 0)) records (size_at numbers 3) (size_at numbers 4))
