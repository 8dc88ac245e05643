-- `cascades::outcome_is` meets its contract.
use borrow.Author.Tests.{tests}
use Rattle.std.proofs.Common.{rules, ◌∙◌}
use Rattle.cascade.specs.Compile.{outcome}
use Rattle.cases.specs.CascadeCases.{outcome_is}
use Rattle.cases.proofs.Laws.Rows.{answer_mapped}
use Rattle.cases.proofs.cascades.outcome_is.Goals as goal

pub returns : goal.returns
unfolding outcome_is outcome
returns c = c.answer_is.ensures _ (λ found told e q. search (rules, tests)) ∙ answer_mapped _ _ _ c.size_at.ensures.value
