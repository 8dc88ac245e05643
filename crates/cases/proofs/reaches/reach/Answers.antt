-- `reaches::reach` meets its contract: what Reach answered decides.
use Rattle.std.proofs.Common.{◌≡◌, ◌&&◌, sym, ap, ap₂, ◌∙◌}
use Rattle.numbers.specs.Ranges.{most_variables}
use Rattle.reach.specs.Reach.{reach_judgement, cuts_of}
use Rattle.cases.specs.Rows.{sizes_are}
use Rattle.cases.specs.ReachCases.{verdict_is, reach_passes}
use Rattle.cases.proofs.Laws.Tests.{passed, failed}
use Rattle.cases.proofs.Laws.ReachCases.{reach_judged}
use Rattle.cases.proofs.reaches.reach.Goals as goal
use Rattle.cases.proofs.reaches.reach.Goals.{Joined-answer, in-Ok, in-Err}

-- The answer and the cuts that it lists, and that they decide.
module _ (c : Joined-answer) where
  same : c.reach-answer.result ≡ c.match-answer.answer
  same =
      elim c.match-answer.branch [
        | in-Ok w ↦ w.in-Ok.is ∙ sym w.answer-is
        | in-Err w ↦ sym w.answer-is
      ]

  listed : c.match-answer.list ≡ cuts_of c.reach-answer.result
  unfolding cuts_of most_variables
  listed =
      elim c.match-answer.branch [
        | in-Ok w ↦ w.list-is ∙ sym (ap cuts_of w.in-Ok.is)
        | in-Err w ↦ w.list-is ∙ sym (ap cuts_of w.in-Err.is)
      ]

  judged : reach_passes c.args.numbers.now c.args.table.now c.args.cuts.now ≡ (verdict_is c.args.numbers.now (reach_judgement c.match-answer.answer) && sizes_are c.match-answer.list c.args.cuts.now)
  judged =
      reach_judged c.args.numbers.now c.args.table.now c.size_at-n.ensures.value c.size_at-limit.ensures.value c.args.cuts.now c.reach-answer.result c.reach-answer.ensures
      ∙ ap₂ (λ answer list. verdict_is c.args.numbers.now (reach_judgement answer) && sizes_are list c.args.cuts.now) same (sym listed)

pub returns-else-verdict_is : goal.returns-else-verdict_is
returns-else-verdict_is c =
    c.if-verdict_is.false ∙ sym (judged (goal.at.returns-else-verdict_is c).Joined-answer ∙ failed _ (sym c.verdict_is.ensures ∙ c.if-verdict_is.false))

pub returns-then-verdict_is : goal.returns-then-verdict_is
returns-then-verdict_is c =
    c.sizes_are.ensures
    ∙ sym (judged (goal.at.returns-then-verdict_is c).Joined-answer ∙ passed _ (sym c.verdict_is.ensures ∙ c.if-verdict_is.true))
