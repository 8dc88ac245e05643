-- `lists::RecordList::value_at` meets its contract: the path from the root is followed to its end.
use Rattle.std.proofs.Common.{arith, ◌≡◌, sym, ◌∙◌, ap, subst, w32, of_z, to_z, to_z-of_z}
use native.Mathlib.Nat.{zero-add}
use borrow.Author.Rules.{sfits_of}
use Rattle.numbers.proofs.Laws.Bounds.{value_mag}
use Rattle.diagram.specs.Inner.Edges.{descend, root_of, PathReady}
use Rattle.diagram.proofs.Laws.Checks.{variables_range}
use Rattle.diagram.proofs.Laws.Edges.{descend_all, ready_root}
use Rattle.walker.proofs.lists.RecordList.value_at.Goals as goal
use Rattle.walker.proofs.lists.RecordList.value_at.Goals.{After-root_of-root}

-- Where the path starts.
root_is : (c : After-root_of-root) → c.root_of-root.result ≡ root_of c.args.self.now.offset c.args.self.now.records.now
root_is c =
    let a = c.args.self.now in
    let small = value_mag a.offset a.passing.start in
    c.root_of-root.ensures ∙ ap (λ z. root_of z a.records.now) (to_z-of_z {w = w32} (sfits_of (omega arith)))

pub walk_on-requires : goal.walk_on-requires
walk_on-requires c =
    let a = c.args.self.now in
    subst (PathReady a.records.now 0 a.n) (sym (root_is (goal.at.walk_on-requires c).After-root_of-root)) (ready_root a.n a.offset a.records.now (variables_range a.n a.passing.variables).1 a.passing 0 a.n (zero-add a.n))

pub returns : goal.returns
returns c =
    let r = (goal.at.returns c).After-root_of-root in
    let a = r.args.self.now in
    let told : to_z w32 (of_z w32 c.walk_on.result.value) ≡ c.walk_on.result.value = to_z-of_z {w = w32} (record { sfits = omega arith }) in
    told
    ∙ ap (λ s. s.value) (c.walk_on.ensures ∙ ap (descend a.records.now 0 a.n r.args.x) (root_is r))
    ∙ descend_all a.n a.offset a.records.now r.args.x
