-- `reaches::verdict_is` meets its contract.
use borrow.Author.Tests.{tests}
use Rattle.std.proofs.Common.{rules, ◌∙◌}
use Rattle.reach.specs.Reach.{reach_judgement}
use Rattle.cases.specs.ReachCases.{verdict_is}
use Rattle.cases.proofs.Laws.Rows.{answer_mapped}
use Rattle.cases.proofs.reaches.verdict_is.Goals as goal

pub returns : goal.returns
unfolding verdict_is reach_judgement
returns c = c.answer_is.ensures _ (λ found told e q. search (rules, tests)) ∙ answer_mapped _ _ _ c.size_at.ensures.value
