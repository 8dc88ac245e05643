-- `paths::walk_on` meets its contract. The loop's invariant: what is left to read leads to the same end.
use Rattle.std.proofs.Common.{ℕ, ◌<◌, suc, ◌+◌, ◌-◌, ◌≡◌, refl, sym, ◌∙◌, ap, ap₂, subst, List, arith, ℤ, ◌+ℤ◌, w32, SFits, of_z, to_z, to_z-of_z}
use Rattle.std.specs.Int.Signed.{mag}
use Rattle.std.proofs.Common.{}
use borrow.Author.Rules.{sfits_of}
use Rattle.diagram.specs.Inner.Edges.{edge_at, descend, PathReady}
use Rattle.diagram.specs.declared.Waypoint.{Waypoint}
use Rattle.diagram.proofs.Laws.Edges.{further, descend_more, descend_none, ready_further}
use Rattle.walker.proofs.paths.walk_on.Goals as goal
use Rattle.walker.proofs.paths.walk_on.Goals.{After-edge_at-edge}

-- The value that the path starts with.
entered : (value : ℤ) → mag value < 2147483648 → to_z w32 (of_z w32 value) ≡ value
entered value fits = to_z-of_z {w = w32} (sfits_of fits)

pub loop-left-init : goal.loop-left-init
loop-left-init c = record { ready = subst (λ z. PathReady c.args.records.now c.args.low c.args.count (record { value = z; node = c.args.reached.node })) (sym (entered c.args.reached.value (omega arith))) c.requires; leads = refl }

pub edge_at-edge-requires : goal.edge_at-edge-requires
edge_at-edge-requires c =
    let r = c.loop-left.invariant.ready in
    (let h = r.height in let l = c.loop-left-test.true in omega arith, r.nodes c.loop-left.node r.known)

-- One variable further, and what was added.
module _ (c : After-edge_at-edge) (fits : mag c.edge_at-edge.result.weight < 2147483648) where
  abbrev at : Waypoint
  at = record { value = to_z w32 c.loop-left.value-bits; node = c.loop-left.node }

  abbrev left : ℕ
  left = c.loop-left.left - 1

  abbrev list : List ℤ
  list = c.args.records.now

  abbrev low : ℕ
  low = c.args.low

  one_less : c.loop-left.left ≡ suc left
  one_less = let l = c.loop-left-test.true in omega arith

  edge_is : c.edge_at-edge.result ≡ edge_at list (low + left) at.node c.args.x
  edge_is = c.edge_at-edge.ensures

  weight_is : to_z w32 (of_z w32 c.edge_at-edge.result.weight) ≡ (edge_at list (low + left) at.node c.args.x).weight
  weight_is =
      let told : to_z w32 (of_z w32 c.edge_at-edge.result.weight) ≡ c.edge_at-edge.result.weight = to_z-of_z {w = w32} (sfits_of fits) in
      told ∙ ap (λ e. e.weight) edge_is

  -- What is reached then.
  next : PathReady list low left (further list (low + left) c.args.x at)
  next = ready_further list low left c.args.x at (subst (λ k. PathReady list low k at) one_less c.loop-left.invariant.ready)

  sum_is : to_z w32 c.loop-left.value-bits +ℤ to_z w32 (of_z w32 c.edge_at-edge.result.weight) ≡ (further list (low + left) c.args.x at).value
  sum_is = ap (λ w. to_z w32 c.loop-left.value-bits +ℤ w) weight_is

  sum_fits : SFits w32 (further list (low + left) c.args.x at).value
  sum_fits = let b = next.bounded in sfits_of (omega arith)

pub overflow_add-value : goal.overflow_add-value
overflow_add-value c =
    let e = (goal.at.overflow_add-value c).After-edge_at-edge in
    let fits : mag c.edge_at-edge.result.weight < 2147483648 = omega arith in
    subst (SFits w32) (sym (sum_is e fits)) (sum_fits e fits)

pub loop-left-preserved : goal.loop-left-preserved
loop-left-preserved c =
    let x = c.args.x in
    let e = (goal.at.loop-left-preserved c).After-edge_at-edge in
    let fits : mag c.edge_at-edge.result.weight < 2147483648 = omega arith in
    let reached : ◌≡◌ {A = Waypoint} (record { value = to_z w32 (of_z w32 (to_z w32 c.loop-left.value-bits +ℤ to_z w32 (of_z w32 c.edge_at-edge.result.weight))); node = c.edge_at-edge.result.node }) (further (list e fits) (low e fits + left e fits) x (at e fits))
    = ap₂ (λ v k. record { value = v; node = k }) (ap (λ z. to_z w32 (of_z w32 z)) (sum_is e fits) ∙ to_z-of_z {w = w32} (sum_fits e fits)) (ap (λ e. e.node) (edge_is e fits)) in
    record {
      ready = subst (PathReady (list e fits) (low e fits) (left e fits)) (sym reached) (next e fits);
      leads =
          ap (descend (list e fits) (low e fits) (left e fits) x) reached
          ∙ sym (descend_more (list e fits) (low e fits) (left e fits) x (at e fits))
          ∙ ap (λ k. descend (list e fits) (low e fits) k x (at e fits)) (sym (one_less e fits))
          ∙ c.loop-left.invariant.leads;
    }

pub returns : goal.returns
returns c =
    let a = c.args in
    let l = c.loop-left in
    let here : Waypoint = record { value = to_z w32 l.value-bits; node = l.node } in
    sym (descend_none a.records.now a.low a.x here)
    ∙ ap (λ k. descend a.records.now a.low k a.x here) (let h = c.loop-left-test.false in let z : 0 ≡ l.left = omega arith in z)
    ∙ l.invariant.leads
    ∙ ap (λ z. descend a.records.now a.low a.count a.x (record { value = z; node = a.reached.node })) (entered a.reached.value (omega arith))
