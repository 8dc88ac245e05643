-- `nodes::count_nodes` meets its contract.
use Rattle.std.specs.Prelude.{◌+◌, ◌≡◌}
use Rattle.std.specs.List.{sum_by, range_with_len}
use Rattle.std.proofs.Common.{rules, ◌∙◌, ap, arith, tests}
use Rattle.std.proofs.lemmas.Iterator.{YieldsList-from_range, YieldsList-from_map}
use Rattle.std.proofs.lemmas.Iterator.Consumers.{sum_by_from_yields_List, fits_by_from_yields_list}
use mir.Facts.{Fits-of_lt}
use Rattle.compiler.specs.Inner.Counted.{branching_at}
use Rattle.compiler.proofs.Laws.Counting.{nodes_few, nodes_counted}
use Rattle.compiler.proofs.nodes.count_nodes.Goals as goal
use Rattle.compiler.proofs.nodes.count_nodes.Goals.{After-sum}

pub sum-requires-clause-fits : goal.sum-requires-clause-fits
sum-requires-clause-fits c =
    fits_by_from_yields_list (branching_at c.args.cuts.now.n c.args.cuts.now.table.now) (range_with_len 0 c.args.cuts.now.n) c.map.result _
    (YieldsList-from_map _ (branching_at c.args.cuts.now.n c.args.cuts.now.table.now) (YieldsList-from_range 0 c.args.cuts.now.n c.args.cuts.now.n (cc) (omega arith)) c.map.ensures.closure (λ x r q k. search (rules, tests)))
    (let f = nodes_few c.args.cuts.now.admitted in omega arith)

-- The sum.
is_sum : (c : After-sum) → c.sum.result ≡ sum_by (branching_at c.args.cuts.now.n c.args.cuts.now.table.now) (range_with_len 0 c.args.cuts.now.n)
is_sum c =
    sum_by_from_yields_List (branching_at c.args.cuts.now.n c.args.cuts.now.table.now) (range_with_len 0 c.args.cuts.now.n) c.map.result _ c.sum.ensures.ran
    (YieldsList-from_map _ (branching_at c.args.cuts.now.n c.args.cuts.now.table.now) (YieldsList-from_range 0 c.args.cuts.now.n c.args.cuts.now.n (cc) (omega arith)) c.map.ensures.closure (λ x r q k. search (rules, tests)))

pub overflow_add-result : goal.overflow_add-result
overflow_add-result c = let s = is_sum (goal.at.overflow_add-result c).After-sum in let f = nodes_few c.args.cuts.now.admitted in Fits-of_lt (omega arith)

pub returns : goal.returns
returns c = ap (λ sum. 1 + sum) (is_sum (goal.at.returns c).After-sum) ∙ nodes_counted c.args.cuts.now.n c.args.cuts.now.table.now
