-- `walker::walk` meets its contract: its checks, then 7, or the value.
use Rattle.std.proofs.Common.{rules, ◌≡◌, Err, sym, ◌∙◌, ap, arith, w32, to_z-of_z}
use borrow.Author.Rules.{sfits_of}
use Rattle.numbers.specs.Answers.{accepted}
use Rattle.numbers.specs.Refusals.{number, answer_of}
use Rattle.diagram.specs.Walk.{walk, walk_value}
use Rattle.diagram.specs.Inner.Checks.{list_checks}
use Rattle.diagram.specs.Inner.Edges.{Passing}
use Rattle.diagram.proofs.Laws.Checks.{variables_range}
use Rattle.diagram.proofs.Laws.Lists.{list_passed, list_unfit, walk_outside, walk_inside}
use Rattle.walker.proofs.walk.Goals as goal
use Rattle.walker.proofs.walk.Goals.{After-check_list, In_ok-check_list}

-- What the checks answered.
answered : (c : After-check_list) → answer_of c.check_list.result ≡ list_checks c.args.n c.args.offset c.args.records.now
answered c = c.check_list.ensures ∙ ap (λ z. list_checks c.args.n z c.args.records.now) (to_z-of_z {w = w32} c.ranges.offset)

passing : (c : In_ok-check_list) → Passing c.args.n c.args.offset c.args.records.now
unfolding answer_of
passing c =
    let a = c.args in
    list_passed a.n a.offset a.records.now (sym (answered (goal.at.power-requires c).After-check_list) ∙ ap answer_of c.in_ok-check_list.was)

pub returns-in_err-check_list : goal.returns-in_err-check_list
unfolding walk answer_of
returns-in_err-check_list c =
    let a = c.args in
    let refusal = c.in_err-check_list.field-0.0 in
    let handed : c.from_residual.result ≡ Err refusal = search rules in
    ap answer_of handed
    ∙ sym (list_unfit a.n a.offset a.records.now _ (number refusal) (sym (answered (goal.at.returns-in_err-check_list c).After-check_list) ∙ ap answer_of c.in_err-check_list.was))

pub power-requires : goal.power-requires
power-requires c = let v = (variables_range _ (passing c).variables).1 in omega arith

pub returns-then-x-power : goal.returns-then-x-power
unfolding number answer_of
returns-then-x-power c =
    let a = c.args in
    sym (walk_outside a.n a.offset a.records.now a.x (passing (goal.at.returns-then-x-power c).In_ok-check_list) (rw c.power.ensures at c.if-x-power.true))

pub invariant_of-list : goal.invariant_of-list
invariant_of-list c = record { passing = rw (to_z-of_z {w = w32} c.ranges.offset) (passing (goal.at.invariant_of-list c).In_ok-check_list) }

pub returns : goal.returns
unfolding answer_of
returns c =
    let a = c.args in
    ap accepted (to_z-of_z {w = w32} (sfits_of c.value_at.type_inv) ∙ c.value_at.ensures ∙ ap (λ z. walk_value a.n z a.records.now a.x) (to_z-of_z {w = w32} c.ranges.offset))
    ∙ sym (walk_inside a.n a.offset a.records.now a.x (passing (goal.at.returns c).In_ok-check_list) (rw c.power.ensures at c.if-x-power.false))
