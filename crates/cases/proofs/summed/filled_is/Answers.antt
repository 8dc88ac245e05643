-- `summed::filled_is` meets its contract.
use Rattle.std.proofs.Common.{◌≡◌, rules, sym, ap, ◌∙◌, true}
use Rattle.numbers.specs.Refusals.{answer_of}
use Rattle.cases.specs.Rows.{size_at, answer_is}
use Rattle.cases.specs.SumCases.{filled_is}
use Rattle.cases.proofs.Laws.Tests.{passed, failed}
use Rattle.cases.proofs.summed.filled_is.Goals as goal
use Rattle.cases.proofs.summed.filled_is.Goals.{After-answer_is}

-- What is told of the answer.
told : (c : After-answer_is) → c.answer_is.result ≡ answer_is (size_at c.args.numbers.now 3) (λ a. true) (answer_of c.args.answer)
told c = c.answer_is.ensures (λ a. true) (λ found told e q. search rules) ∙ ap (λ k. answer_is k (λ a. true) (answer_of c.args.answer)) c.size_at.ensures.value

pub returns-then-answer_is : goal.returns-then-answer_is
unfolding filled_is
returns-then-answer_is c = c.numbers_hold.ensures ∙ sym (passed _ (sym (told (goal.at.returns-then-answer_is c).After-answer_is) ∙ c.if-answer_is.true))

pub returns-else-answer_is : goal.returns-else-answer_is
unfolding filled_is
returns-else-answer_is c = c.if-answer_is.false ∙ sym (failed _ (sym (told (goal.at.returns-else-answer_is c).After-answer_is) ∙ c.if-answer_is.false))
