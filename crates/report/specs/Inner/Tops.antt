-- The lowest variables, and what the path of X reaches above them.
use Rattle.std.specs.Prelude.{ℕ, ◌-◌, min, List, ℤ}
use Rattle.diagram.specs.Inner.Edges.{descend, root_of}
use Rattle.diagram.specs.declared.Waypoint.{Waypoint}

-- How many variables are the lowest: three, or all of fewer.
unfoldable pub lowest_of : ℕ → ℕ
lowest_of n = min n 3

-- What the path of X reaches from the root with these still to be read.
unfoldable pub top_at : ℕ → ℤ → List ℤ → ℕ → Waypoint
top_at n offset list x = descend list (lowest_of n) (n - lowest_of n) x (root_of offset list)
