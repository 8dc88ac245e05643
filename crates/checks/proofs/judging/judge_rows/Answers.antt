-- `judging::judge_rows` meets its contract, operation by operation.
use Rattle.std.proofs.Common.{sym, ◌∙◌, ap, false, get_or, arith}
use Rattle.checks.specs.Cases.{operations_pass, rows_pass}
use Rattle.checks.proofs.Laws.Cases.{own_operation, other_operation}
use Rattle.checks.proofs.judging.judge_rows.Goals as goal

pub returns-in-1 : goal.returns-in-1
unfolding operations_pass
returns-in-1 c =
    let a = c.args in
    c.build.ensures ∙ own_operation a.numbers.now a.first.now a.second.now a.third.now c.size_at.ensures.value c.in-1.is

pub returns-in-2 : goal.returns-in-2
unfolding operations_pass
returns-in-2 c =
    let a = c.args in
    c.walk.ensures ∙ own_operation a.numbers.now a.first.now a.second.now a.third.now c.size_at.ensures.value c.in-2.is

pub returns-in-3 : goal.returns-in-3
unfolding operations_pass
returns-in-3 c =
    let a = c.args in
    c.plan.ensures ∙ own_operation a.numbers.now a.first.now a.second.now a.third.now c.size_at.ensures.value c.in-3.is

pub returns-in-4 : goal.returns-in-4
unfolding operations_pass
returns-in-4 c =
    let a = c.args in
    c.compile.ensures ∙ own_operation a.numbers.now a.first.now a.second.now a.third.now c.size_at.ensures.value c.in-4.is

pub returns-in-5 : goal.returns-in-5
unfolding operations_pass
returns-in-5 c =
    let a = c.args in
    c.run.ensures ∙ own_operation a.numbers.now a.first.now a.second.now a.third.now c.size_at.ensures.value c.in-5.is

pub returns-in-6 : goal.returns-in-6
unfolding operations_pass
returns-in-6 c =
    let a = c.args in
    c.expand.ensures ∙ own_operation a.numbers.now a.first.now a.second.now a.third.now c.size_at.ensures.value c.in-6.is

pub returns-in-7 : goal.returns-in-7
unfolding operations_pass
returns-in-7 c =
    let a = c.args in
    c.report.ensures ∙ own_operation a.numbers.now a.first.now a.second.now a.third.now c.size_at.ensures.value c.in-7.is

pub returns-in-8 : goal.returns-in-8
unfolding operations_pass
returns-in-8 c =
    let a = c.args in
    c.pair_run.ensures ∙ own_operation a.numbers.now a.first.now a.second.now a.third.now c.size_at.ensures.value c.in-8.is

pub returns-in-9 : goal.returns-in-9
unfolding operations_pass
returns-in-9 c =
    let a = c.args in
    c.reach.ensures ∙ own_operation a.numbers.now a.first.now a.second.now a.third.now c.size_at.ensures.value c.in-9.is

pub returns-in-10 : goal.returns-in-10
unfolding operations_pass
returns-in-10 c =
    let a = c.args in
    c.sum.ensures ∙ own_operation a.numbers.now a.first.now a.second.now a.third.now c.size_at.ensures.value c.in-10.is

pub returns-in-11 : goal.returns-in-11
unfolding operations_pass
returns-in-11 c =
    let a = c.args in
    c.remainder.ensures ∙ own_operation a.numbers.now a.first.now a.second.now a.third.now c.size_at.ensures.value c.in-11.is

pub returns-in_default : goal.returns-in_default
unfolding rows_pass
returns-in_default c =
    let a = c.args in
    sym
    (ap (λ k. get_or (operations_pass a.numbers.now a.first.now a.second.now a.third.now) k false) (sym c.size_at.ensures.value)
    ∙ other_operation a.numbers.now a.first.now a.second.now a.third.now c.size_at.result (λ e. omega arith) (λ e. omega arith) (λ e. omega arith) (λ e. omega arith) (λ e. omega arith) (λ e. omega arith) (λ e. omega arith) (λ e. omega arith) (λ e. omega arith) (λ e. omega arith) (λ e. omega arith))
