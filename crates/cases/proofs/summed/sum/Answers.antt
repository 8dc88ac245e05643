-- `summed::sum` meets its contract.
use borrow.Author.Tests.{tests}
use Rattle.std.proofs.Common.{rules, ap, ◌∙◌}
use Rattle.sums.specs.Sums.{plain_sum}
use Rattle.cases.specs.SumCases.{table_passes, sum_passes}
use Rattle.cases.proofs.summed.sum.Goals as goal

pub returns : goal.returns
unfolding sum_passes
returns c =
    let a = c.args in
    c.table_passes.ensures (plain_sum c.size_at-n.result a.weights.now) (λ lent left answer q. search (rules, tests))
    ∙ ap (λ k. table_passes a.numbers.now (plain_sum k a.weights.now) a.front.now) c.size_at-n.ensures.value
