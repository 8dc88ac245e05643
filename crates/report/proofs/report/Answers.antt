-- `report::report` meets its contract: its checks, then 15, or the figures.
use Rattle.std.proofs.Common.{rules, ◌≡◌, Err, true, sym, ◌∙◌, ap, arith, w32, to_z-of_z}
use Rattle.numbers.specs.Answers.{accepted}
use Rattle.numbers.specs.Refusals.{number, answer_of}
use Rattle.diagram.specs.Inner.Checks.{list_checks}
use Rattle.diagram.specs.Inner.Edges.{Passing}
use Rattle.diagram.proofs.Laws.Checks.{variables_range}
use Rattle.diagram.proofs.Laws.Lists.{list_passed, list_unfit}
use Rattle.report.specs.Report.{values_from, figures_of, is_part, report, reported}
use Rattle.report.proofs.Laws.Answers.{report_outside, report_inside}
use Rattle.report.proofs.report.Goals as goal
use Rattle.report.proofs.report.Goals.{After-check_list, In_ok-check_list, Else-not-is_part}

-- What the checks answered.
answered : (c : After-check_list) → answer_of c.check_list.result ≡ list_checks c.args.n c.args.offset c.args.records.now
answered c = c.check_list.ensures ∙ ap (λ z. list_checks c.args.n z c.args.records.now) (to_z-of_z {w = w32} c.ranges.offset)

passing : (c : In_ok-check_list) → Passing c.args.n c.args.offset c.args.records.now
unfolding answer_of
passing c =
    let a = c.args in
    list_passed a.n a.offset a.records.now (sym (answered (goal.at.is_part-requires c).After-check_list) ∙ ap answer_of c.in_ok-check_list.was)

-- X from a to b is a part of the domain.
part : (c : Else-not-is_part) → is_part c.args.n c.args.a c.args.b ≡ true
part c = sym c.is_part.ensures ∙ c.if-not-is_part.false

pub returns-in_err-check_list : goal.returns-in_err-check_list
unfolding report reported answer_of
returns-in_err-check_list c =
    let a = c.args in
    let refusal = c.in_err-check_list.field-0.0 in
    let handed : c.from_residual.result ≡ Err refusal = search rules in
    ap reported handed
    ∙ sym (list_unfit a.n a.offset a.records.now _ (number refusal) (sym (answered (goal.at.returns-in_err-check_list c).After-check_list) ∙ ap answer_of c.in_err-check_list.was))

pub is_part-requires : goal.is_part-requires
is_part-requires c = let v = (variables_range _ (passing c).variables).1 in omega arith

pub returns-then-not-is_part : goal.returns-then-not-is_part
unfolding reported number answer_of
returns-then-not-is_part c =
    let a = c.args in
    sym (report_outside a.n a.offset a.records.now a.a a.b (passing (goal.at.returns-then-not-is_part c).In_ok-check_list) (sym c.is_part.ensures ∙ c.if-not-is_part.true))

pub invariant_of-list : goal.invariant_of-list
invariant_of-list c = record { passing = rw (to_z-of_z {w = w32} c.ranges.offset) (passing (goal.at.invariant_of-list c).In_ok-check_list) }

pub figures-requires : goal.figures-requires
figures-requires c = part (goal.at.figures-requires c).Else-not-is_part

pub returns : goal.returns
unfolding reported answer_of
returns c =
    let a = c.args in
    let d = goal.at.returns c in
    ap accepted (c.figures.ensures ∙ ap (λ z. figures_of (values_from a.n z a.records.now a.a a.b)) (to_z-of_z {w = w32} c.ranges.offset))
    ∙ sym (report_inside a.n a.offset a.records.now a.a a.b (passing d.In_ok-check_list) (part d.Else-not-is_part))
