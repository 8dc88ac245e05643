-- `tops::top_at` meets its contract.
use Rattle.std.proofs.Common.{◌-◌, ◌≡◌, sym, ◌∙◌, ap, ap₂, subst, arith}
use Rattle.diagram.specs.Inner.Edges.{descend, root_of, PathReady}
use Rattle.report.specs.Inner.Tops.{lowest_of, top_at}
use Rattle.report.proofs.Laws.Tops.{lowest_within, root_ready, offset_told}
use Rattle.report.proofs.tops.top_at.Goals as goal
use Rattle.report.proofs.tops.top_at.Goals.{After-root_of-root}

-- Where the path starts.
root_is : (c : After-root_of-root) → c.root_of-root.result ≡ root_of c.args.list.now.offset c.args.list.now.records.now
root_is c =
    let l = c.args.list.now in
    c.root_of-root.ensures ∙ ap (λ z. root_of z l.records.now) (offset_told l.n l.offset l.records.now l.passing)

pub overflow_sub-list : goal.overflow_sub-list
overflow_sub-list c = let e = c.lowest-low.ensures in let l = lowest_within c.args.list.now.n in omega arith

pub walk_on-requires : goal.walk_on-requires
walk_on-requires c =
    let a = c.args.list.now in
    subst (λ low. PathReady a.records.now low (a.n - low) c.root_of-root.result) (sym c.lowest-low.ensures)
    (subst (PathReady a.records.now (lowest_of a.n) (a.n - lowest_of a.n)) (sym (root_is (goal.at.walk_on-requires c).After-root_of-root)) (root_ready a.n a.offset a.records.now a.passing))

pub returns : goal.returns
unfolding top_at
returns c =
    let r = (goal.at.returns c).After-root_of-root in
    let a = r.args.list.now in
    c.walk_on.ensures ∙ ap₂ (λ low root. descend a.records.now low (a.n - low) r.args.x root) r.lowest-low.ensures (root_is r)
