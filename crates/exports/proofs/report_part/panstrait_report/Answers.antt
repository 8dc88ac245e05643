-- `report_part::panstrait_report` meets its contract.
use Rattle.std.specs.Int.{w32}
use Rattle.std.proofs.Common.{rules, to_z-of_z}
use Rattle.exports.proofs.Laws.ReportGiven.{report_accepted, report_refused}
use Rattle.exports.proofs.report_part.panstrait_report.Goals as goal

pub returns-in-Ok : goal.returns-in-Ok
returns-in-Ok c =
    let told = rw (to_z-of_z {w = w32} c.ranges.offset) at c.report.ensures in
    search (rules, report_accepted)

pub returns-in-Err : goal.returns-in-Err
returns-in-Err c =
    let told = rw (to_z-of_z {w = w32} c.ranges.offset) at c.report.ensures in
    search (rules, report_refused)
