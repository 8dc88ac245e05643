-- `rows::answer_is` meets its contract: where the test is asked, it tells what any function tells that it agrees with.
use Rattle.std.proofs.Common.{◌==◌, sym, ap, ◌∙◌, eq-eqb, ne_eqb}
use Rattle.numbers.specs.Refusals.{answer_of}
use Rattle.cases.specs.Rows.{answer_is}
use Rattle.cases.proofs.Laws.Tests.{passed, failed}
use Rattle.cases.proofs.rows.answer_is.Goals as goal

pub returns-then-refusal-eq0 : goal.returns-then-refusal-eq0
unfolding answer_is answer_of
returns-then-refusal-eq0 g c = λ passes agrees.
    agrees _ _ c.in-Ok.is c.test.ensures
    ∙ sym
    (ap (λ answer. answer_is c.args.refusal passes (answer_of answer)) c.in-Ok.is
    ∙ passed _ (eq-eqb c.args.refusal 0 c.if-refusal-eq0.true))

pub returns-else-refusal-eq0 : goal.returns-else-refusal-eq0
unfolding answer_is answer_of
returns-else-refusal-eq0 g c = λ passes agrees.
    ne_eqb _ _ c.if-refusal-eq0.false
    ∙ sym
    (ap (λ answer. answer_is c.args.refusal passes (answer_of answer)) c.in-Ok.is
    ∙ failed _ (ne_eqb c.args.refusal 0 c.if-refusal-eq0.false))

pub returns-in-Err : goal.returns-in-Err
unfolding answer_is answer_of
returns-in-Err g c = λ passes agrees.
    ap (λ number. c.args.refusal == number) (c.from-in-Err.ensures ∙ c.from.ensures)
    ∙ sym (ap (λ answer. answer_is c.args.refusal passes (answer_of answer)) c.in-Err.is)
