-- The report's answer, known by cases, is what comes back through C.
use Rattle.std.specs.Prelude.{ℕ, ◌≡◌, List, ℤ, Result, Ok, Err}
use Rattle.std.proofs.Common.{sym, ◌∙◌, ap}
use Rattle.numbers.specs.Answers.{Answer}
use Rattle.numbers.specs.Refusals.{number, answer_of}
use Rattle.numbers.specs.declared.Refusal.{Refusal}
use Rattle.report.specs.Report.{Figures, report, figures_in, reported}
use Rattle.report.specs.declared.Reported.{Reported}
use Rattle.exports.specs.Results.{result_of, left_behind}
use Rattle.exports.specs.ReportGiven.{ReportGiven}

pub report_given : (n : ℕ) (offset : ℤ) (records : List ℤ) (a b count : ℕ) (least greatest sum : ℤ) (answer : Answer Figures) → report n offset records a b ≡ answer
    → ReportGiven n offset records a b count least greatest sum (result_of answer) (left_behind answer (λ f. f.count) count) (left_behind answer (λ f. f.least) least) (left_behind answer (λ f. f.greatest) greatest) (left_behind answer (λ f. f.sum) sum)
report_given n offset records a b count least greatest sum answer e = record {
  answered = ap result_of (sym e);
  counted = ap (λ r. left_behind r (λ f. f.count) count) (sym e);
  lowest = ap (λ r. left_behind r (λ f. f.least) least) (sym e);
  highest = ap (λ r. left_behind r (λ f. f.greatest) greatest) (sym e);
  summed = ap (λ r. left_behind r (λ f. f.sum) sum) (sym e);
}

-- The figures come back.
pub report_accepted : {n a b count : ℕ} {offset least least' greatest greatest' sum sum' : ℤ} {records : List ℤ} {figures : Reported} {r : Result Reported Refusal}
    → reported r ≡ report n offset records a b → r ≡ Ok figures → least' ≡ figures.least → greatest' ≡ figures.greatest → sum' ≡ figures.sum
    → ReportGiven n offset records a b count least greatest sum 0 figures.count least' greatest' sum'
unfolding reported answer_of figures_in
report_accepted {figures} e is low high all = rw (low, high, all) (report_given _ _ _ _ _ _ _ _ _ (reported (Ok figures)) (sym e ∙ ap reported is))

-- A refusal leaves all as it was.
pub report_refused : {n a b count result : ℕ} {offset least greatest sum : ℤ} {records : List ℤ} {refusal : Refusal} {r : Result Reported Refusal}
    → reported r ≡ report n offset records a b → r ≡ Err refusal → result ≡ number refusal
    → ReportGiven n offset records a b count least greatest sum result count least greatest sum
unfolding reported answer_of
report_refused {refusal} e is number_is = rw number_is (report_given _ _ _ _ _ _ _ _ _ (reported (Err refusal)) (sym e ∙ ap reported is))
