-- `images::expanded_is` meets its contract.
use Rattle.std.proofs.Common.{rules, ap, ◌∙◌, true}
use Rattle.numbers.specs.Refusals.{answer_of}
use Rattle.cases.specs.Rows.{answer_is}
use Rattle.cases.specs.ImageCases.{expanded_is}
use Rattle.cases.proofs.images.expanded_is.Goals as goal

pub returns : goal.returns
unfolding expanded_is
returns c = c.answer_is.ensures (λ a. true) (λ found told e q. search rules) ∙ ap (λ k. answer_is k (λ a. true) (answer_of c.args.answer)) c.size_at.ensures.value
