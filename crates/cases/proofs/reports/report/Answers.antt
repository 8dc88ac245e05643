-- `reports::report` meets its contract.
use Rattle.std.proofs.Common.{◌≡◌, rules, slice_index_or, pos, ap, ap₂, ◌∙◌, w32, to_z, of_z}
use Rattle.report.specs.Report.{report}
use Rattle.cases.specs.ReportCases.{reported_is, report_passes}
use Rattle.cases.proofs.reports.report.Goals as goal

pub returns : goal.returns
unfolding report_passes
returns c =
    let s = c.args in
    let offset : to_z w32 (of_z w32 c.number_at-offset.result) ≡ slice_index_or s.numbers.now 2 (pos 0) = search rules in
    c.reported_is.ensures
    ∙ ap (reported_is s.numbers.now s.sum.now)
    (c.report-answer.ensures
    ∙ ap₂ (λ k z. report k z s.records.now c.size_at-a.result c.size_at-b.result) c.size_at-n.ensures.value offset
    ∙ ap₂ (report _ _ s.records.now) c.size_at-a.ensures.value c.size_at-b.ensures.value)
