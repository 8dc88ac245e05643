-- `diagrams::built_is` meets its contract.
use borrow.Author.Tests.{tests}
use Rattle.std.proofs.Common.{rules, ◌∙◌}
use Rattle.diagram.specs.Build.{built}
use Rattle.cases.specs.DiagramCases.{built_is}
use Rattle.cases.proofs.Laws.Rows.{answer_mapped}
use Rattle.cases.proofs.diagrams.built_is.Goals as goal

pub returns : goal.returns
unfolding built_is built
returns c = c.answer_is.ensures _ (λ found told e q. search (rules, tests)) ∙ answer_mapped _ _ _ c.size_at.ensures.value
