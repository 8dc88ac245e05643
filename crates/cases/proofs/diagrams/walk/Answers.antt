-- `diagrams::walk` meets its contract.
use borrow.Author.Tests.{tests}
use Rattle.std.proofs.Common.{◌≡◌, rules, slice_index_or, pos, ap, ap₂, ◌∙◌, w32, to_z, of_z}
use Rattle.numbers.specs.Ranges.{eq_z}
use Rattle.diagram.specs.Walk.{walk}
use Rattle.cases.specs.Rows.{answer_is}
use Rattle.cases.specs.DiagramCases.{walk_passes}
use Rattle.cases.proofs.diagrams.walk.Goals as goal

pub returns : goal.returns
unfolding walk_passes
returns c =
    let numbers = c.args.numbers.now in
    let records = c.args.records.now in
    let offset : to_z w32 (of_z w32 c.number_at-offset.result) ≡ slice_index_or numbers 2 (pos 0) = search rules in
    c.answer_is.ensures (λ value. eq_z value (slice_index_or numbers 5 (pos 0))) (λ found told e q. search (rules, tests))
    ∙ ap₂ (λ k answer. answer_is k (λ value. eq_z value (slice_index_or numbers 5 (pos 0))) answer) c.size_at-refusal.ensures.value
    (c.walk-answer.ensures ∙ ap₂ (λ k z. walk k z records c.size_at-x.result) c.size_at-n.ensures.value offset ∙ ap (walk _ _ records) c.size_at-x.ensures.value)
