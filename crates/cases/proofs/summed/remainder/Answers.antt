-- `summed::remainder` meets its contract.
use borrow.Author.Tests.{tests}
use Rattle.std.proofs.Common.{rules, ap₂, ◌∙◌}
use Rattle.sums.specs.Sums.{reduced_sum}
use Rattle.cases.specs.SumCases.{table_passes, remainder_passes}
use Rattle.cases.proofs.summed.remainder.Goals as goal

pub returns : goal.returns
unfolding remainder_passes
returns c =
    let a = c.args in
    c.table_passes.ensures (reduced_sum c.size_at-n.result a.weights.now c.size_at-q.result) (λ lent left answer q. search (rules, tests))
    ∙ ap₂ (λ k q. table_passes a.numbers.now (reduced_sum k a.weights.now q) a.front.now) c.size_at-n.ensures.value c.size_at-q.ensures.value
