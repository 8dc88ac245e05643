use Rattle.std.specs.Prelude.{ℕ, ◌≡◌, List, ℤ}
use Rattle.diagram.specs.Inner.Edges.{descend, PathReady}
use Rattle.diagram.specs.declared.Waypoint.{Waypoint}
use Rattle.walker.proofs.paths.walk_on.Given as goal

-- On the way: what is reached leads to the end that is due.
pub record OnTheWay (list : List ℤ) (low left x : ℕ) (reached due : Waypoint) : Type 0 where
  pub ready : PathReady list low left reached
  pub leads : descend list low left x reached ≡ due

abbrev pub invariant-loop-left : goal.invariant-loop-left
invariant-loop-left l = OnTheWay l.records l.low l.left l.x (record { value = l.value; node = l.node }) (descend l.records l.low l.count l.x (record { value = l.initial.value; node = l.initial.node }))
