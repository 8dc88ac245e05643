-- `diagrams::build` meets its contract: what Build answered and left decides.
use Rattle.std.proofs.Common.{◌≡◌, ◌≤◌, ◌&&◌, List, length, take, replicate, ℤ, sym, refl, ap, ◌∙◌, length-take-le, take_at}
use Rattle.diagram.specs.Build.{built}
use Rattle.cases.specs.Rows.{number_lent, front_holds}
use Rattle.cases.proofs.Laws.Tests.{passed, failed, lent_front}
use Rattle.cases.specs.DiagramCases.{built_is, build_passes}
use Rattle.cases.proofs.Laws.DiagramCases.{build_too_many, build_judged}
use Rattle.cases.proofs.diagrams.build.Goals as goal
use Rattle.cases.proofs.diagrams.build.Goals.{After-build-answer}

pub returns-then-places-gt-MOST_NUMBERS : goal.returns-then-places-gt-MOST_NUMBERS
returns-then-places-gt-MOST_NUMBERS c =
    let a = c.args in
    sym (build_too_many a.numbers.now a.table.now a.front.now refl c.size_at-places.ensures.value c.if-places-gt-MOST_NUMBERS.true)

-- What Build left, and what decides.
module _ (c : After-build-answer) where
  abbrev left : List ℤ
  left = c.build-answer.new.nodes

  few : c.size_at-places.result ≤ 24570
  few = c.if-places-gt-MOST_NUMBERS.false

  kept : length left ≡ c.size_at-places.result
  kept = c.build-answer.auto.nodes ∙ length-take-le _ _ few

  judged : build_passes c.args.numbers.now c.args.table.now c.args.front.now ≡ (built_is c.args.numbers.now (built c.build-answer.result) && front_holds number_lent left c.args.front.now)
  judged =
      build_judged c.args.numbers.now c.args.table.now c.args.front.now c.size_at-n.ensures.value c.size_at-places.ensures.value
      (take c.size_at-places.result (replicate 24570 number_lent)) c.build-answer.result left few (lent_front number_lent c.size_at-places.result 24570 few) c.build-answer.ensures

pub returns-else-built_is : goal.returns-else-built_is
returns-else-built_is c =
    let b = (goal.at.returns-else-built_is c).After-build-answer in
    c.if-built_is.false ∙ sym (judged b ∙ failed _ (sym c.built_is.ensures ∙ c.if-built_is.false))

pub returns-then-built_is : goal.returns-then-built_is
returns-then-built_is c =
    let b = (goal.at.returns-then-built_is c).After-build-answer in
    sym
    (judged b
    ∙ passed _ (sym c.built_is.ensures ∙ c.if-built_is.true)
    ∙ sym (c.numbers_hold.ensures ∙ ap (λ row. front_holds number_lent row c.args.front.now) (take_at (left b) _ c.size_at-places.result (kept b))))
