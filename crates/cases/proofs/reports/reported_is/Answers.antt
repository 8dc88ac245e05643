-- `reports::reported_is` meets its contract.
use borrow.Author.Tests.{tests}
use Rattle.std.proofs.Common.{rules, ◌∙◌}
use Rattle.numbers.proofs.Laws.Machine.{bits_equal}
use Rattle.report.specs.Report.{figures_in, reported}
use Rattle.cases.specs.ReportCases.{figures_are, reported_is}
use Rattle.cases.proofs.Laws.Rows.{answer_mapped}
use Rattle.cases.proofs.reports.reported_is.Goals as goal

pub returns : goal.returns
unfolding reported_is reported figures_in figures_are
returns c = c.answer_is.ensures _ (λ found told e q. search (rules, tests, bits_equal)) ∙ answer_mapped _ _ _ c.size_at.ensures.value
