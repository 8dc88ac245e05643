-- `tops::value_below` meets its contract.
use Rattle.std.proofs.Common.{◌≡◌, sym, ◌∙◌, ap, subst, arith, w32, of_z, to_z, to_z-of_z}
use Rattle.diagram.specs.Inner.Edges.{descend, PathReady}
use Rattle.report.proofs.tops.value_below.Goals as goal

pub walk_on-requires : goal.walk_on-requires
walk_on-requires c = subst (λ low. PathReady c.args.list.now.records.now 0 low c.args.top) (sym c.lowest.ensures) c.requires

pub returns : goal.returns
returns c =
    let a = c.args in
    let list = a.list.now.records.now in
    let told : to_z w32 (of_z w32 c.walk_on.result.value) ≡ c.walk_on.result.value = to_z-of_z {w = w32} (record { sfits = omega arith }) in
    told ∙ ap (λ r. r.value) (c.walk_on.ensures ∙ ap (λ low. descend list 0 low a.x a.top) c.lowest.ensures)
