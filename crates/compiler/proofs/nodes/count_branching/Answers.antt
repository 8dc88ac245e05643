-- `nodes::count_branching` meets its contract.
use Rattle.std.specs.Prelude.{ℕ, suc, ◌-◌, Bool, length, filter}
use Rattle.std.specs.List.{range_with_len}
use Rattle.std.proofs.Common.{rules, ap, ◌∙◌, arith, tests}
use Rattle.std.proofs.lemmas.Iterator.{YieldsList-from_range}
use Rattle.std.proofs.lemmas.Iterator.Consumers.{YieldsList-from_filter, count_from_yields_List}
use Rattle.blocks.specs.Inner.Layout.{class_at}
use Rattle.diagram.specs.Records.{branches}
use Rattle.compiler.proofs.Laws.Counting.{branching_places}
use Rattle.compiler.proofs.nodes.count_branching.Goals as goal
use Rattle.compiler.proofs.nodes.count_branching.Goals.{After-count}

-- Whether a class of the cut branches.
abbrev branching : After-count → ℕ → Bool
branching c class = branches (c.args.cuts.now.n - suc c.args.h) (class_at c.args.cuts.now.n c.args.cuts.now.table.now c.args.h class)

pub returns : goal.returns
returns c =
    count_from_yields_List c.filter.result c.count.result c.count.ensures.ran
    (YieldsList-from_filter _ (branching c) (YieldsList-from_range 0 c.class_count.result c.class_count.result (cc) (omega arith)) c.filter.ensures.closure (λ x r q k. search (rules, tests)))
    ∙ ap (λ count. length (filter (branching c) (range_with_len 0 count))) c.class_count.ensures
    ∙ branching_places c.args.cuts.now.n c.args.cuts.now.table.now c.args.h
