-- `lists::record_fits` meets its contract: its edges are looked at, then its range.
use Rattle.std.proofs.Common.{◌≡◌, true, sym, ◌∙◌, arith, nat_abs}
use Rattle.diagram.specs.Walk.{edges_fit, high_at}
use Rattle.diagram.proofs.Laws.Checks.{variables_range, child_node, parts_of_edges, edges_unfit, range_left}
use Rattle.diagram.proofs.Laws.NodeRanges.{range_small, range_judged}
use Rattle.walker.proofs.lists.record_fits.Goals as goal
use Rattle.walker.proofs.lists.record_fits.Goals.{Then-edges_fit}

pub edges_fit-requires : goal.edges_fit-requires
edges_fit-requires c = ((variables_range c.args.n c.requires.0).0, c.requires.1)

-- Its edges fit.
fits : (c : Then-edges_fit) → edges_fit c.args.n c.args.records.now c.args.k ≡ true
fits c = sym c.edges_fit.ensures ∙ c.if-edges_fit.true

pub range_follows-requires : goal.range_follows-requires
range_follows-requires c =
    let a = c.args in
    let p = parts_of_edges a.n a.records.now a.k (fits c) in
    let here = c.requires.1 in
    let one = here.from_one in
    let small = range_small a.n a.records.now a.k c.requires.2 (let l = here.among in omega arith) (variables_range a.n c.requires.0).1 (nat_abs (high_at a.records.now a.k)) (let l = (child_node a.records.now a.k (high_at a.records.now a.k) p.high).1 in omega arith) in
    record { here = here; low = p.low; high = p.high; weight = p.weight; least_small = small.0; greatest_small = small.1 }

pub returns-then-edges_fit : goal.returns-then-edges_fit
returns-then-edges_fit c =
    let a = c.args in
    let f = fits (goal.at.returns-then-edges_fit c).Then-edges_fit in
    c.range_follows.ensures
    ∙ range_judged a.n a.records.now a.k c.requires.2 c.requires.1.from_one f (variables_range a.n c.requires.0).0
    ∙ sym (range_left a.n a.records.now a.k f)

pub returns-else-edges_fit : goal.returns-else-edges_fit
returns-else-edges_fit c =
    c.if-edges_fit.false ∙ sym (edges_unfit c.args.n c.args.records.now c.args.k (sym c.edges_fit.ensures ∙ c.if-edges_fit.false))
