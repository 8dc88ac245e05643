-- How the report's answer comes back through C: a number as the result, its four figures behind references.
use Rattle.std.specs.Prelude.{ℕ, ◌≡◌, List, ℤ}
use Rattle.report.specs.Report.{report}
use Rattle.exports.specs.Results.{result_of, left_behind}

-- What the report answers and leaves behind its references.
pub record ReportGiven (n : ℕ) (offset : ℤ) (records : List ℤ) (a b count : ℕ) (least greatest sum : ℤ) (result count' : ℕ) (least' greatest' sum' : ℤ) : Type 0 where
  pub answered : result ≡ result_of (report n offset records a b)
  pub counted : count' ≡ left_behind (report n offset records a b) (λ f. f.count) count
  pub lowest : least' ≡ left_behind (report n offset records a b) (λ f. f.least) least
  pub highest : greatest' ≡ left_behind (report n offset records a b) (λ f. f.greatest) greatest
  pub summed : sum' ≡ left_behind (report n offset records a b) (λ f. f.sum) sum
