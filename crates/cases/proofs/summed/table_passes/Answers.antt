-- `summed::table_passes` meets its contract: what was answered and left decides.
use Rattle.std.proofs.Common.{◌≡◌, ◌≤◌, length, take, replicate, sym, ap, ◌∙◌, length-take-le, take_at, rules}
use Rattle.numbers.specs.Refusals.{answer_of}
use Rattle.cases.specs.Rows.{number_lent}
use Rattle.cases.specs.SumCases.{filled_is}
use Rattle.cases.proofs.Laws.Tests.{lent_front}
use Rattle.cases.proofs.Laws.SumCases.{too_many, judged}
use Rattle.cases.proofs.summed.table_passes.Goals as goal

pub returns-then-places-gt-MOST_VALUES : goal.returns-then-places-gt-MOST_VALUES
returns-then-places-gt-MOST_VALUES g c = λ answers fills. sym (too_many c.args.numbers.now c.args.front.now c.size_at-places.ensures.value answers c.if-places-gt-MOST_VALUES.true)

pub returns : goal.returns
returns g c = λ answers fills.
    let numbers = c.args.numbers.now in
    let front = c.args.front.now in
    let places = c.size_at-places.result in
    let few : places ≤ 4096 = c.if-places-gt-MOST_VALUES.false in
    let lent = take places (replicate 4096 number_lent) in
    let left = c.operation-answer.new.arg2 in
    let answer = c.operation-answer.result in
    let kept : length left ≡ places = c.operation-answer.auto.arg2 ∙ length-take-le _ _ few in
    sym
    (judged numbers front c.size_at-places.ensures.value answers lent answer left few (lent_front number_lent places 4096 few) (fills lent left answer (search rules))
    ∙ sym (c.filled_is.ensures ∙ ap (λ row. filled_is numbers (answer_of answer) row front) (take_at left _ places kept)))
