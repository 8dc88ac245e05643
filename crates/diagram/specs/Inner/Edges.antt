-- One variable of a walk and several: a record that a list has, the edge that X takes from a node, what a path reaches, and the range of a
-- node by those of its children.
use Rattle.std.specs.Prelude.{ℕ, zero, suc, ◌+◌, ◌-◌, ◌*◌, ◌≤◌, ◌<◌, ◌≡◌, Bool, true, false, ◌&&◌, List, ℤ, pos, nat_abs, ◌+ℤ◌}
use Rattle.std.specs.Int.Signed.{mag}
use Rattle.numbers.specs.Ranges.{is_variables, is_value, is_weight, eq_z, lesser, greater}
use Rattle.diagram.specs.Walk.{variable_at, low_at, high_at, weight_at, least_at, greatest_at, record_count, child_fits, record_fits, list_fits, bit_set}
use Rattle.diagram.specs.declared.Edge.{Edge}
use Rattle.diagram.specs.declared.Range.{Range}
use Rattle.diagram.specs.declared.Waypoint.{Waypoint}

-- A list has record k, from 1.
pub record Recorded (list : List ℤ) (k : ℕ) : Type 0 where
  pub from_one : 1 ≤ k
  pub among : k ≤ record_count list

-- Node 0, or a record whose edges passed Walk's check.
pub record Walkable (list : List ℤ) (k : ℕ) : Type 0 where
  pub known : k ≤ record_count list
  pub low : 1 ≤ k → child_fits list k (low_at list k) ≡ true
  pub high : 1 ≤ k → child_fits list k (high_at list k) ≡ true
  pub weight : 1 ≤ k → is_weight (weight_at list k) ≡ true

-- The edge that X takes from node k at variable i; none where k is node 0 or a record of another variable.
unfoldable pub edge_at : List ℤ → ℕ → ℕ → ℕ → Edge
edge_at list i zero x = record { weight = pos 0; node = 0 }
edge_at list i (suc k) x =
    elim (eq_z (variable_at list (suc k)) (pos i)) [
      | true ↦ elim (bit_set x i) [
        | true ↦ record { weight = weight_at list (suc k); node = nat_abs (high_at list (suc k)) }
        | false ↦ record { weight = pos 0; node = nat_abs (low_at list (suc k)) }
      ]
      | false ↦ record { weight = pos 0; node = suc k }
    ]

-- What the path of X reaches from a value and a node, once so many variables from low on are read, the highest first.
unfoldable pub descend : List ℤ → ℕ → ℕ → ℕ → Waypoint → Waypoint
descend list low zero x reached = reached
descend list low (suc count) x reached =
    let edge = edge_at list (low + count) reached.node x in
    descend list low count x (record { value = reached.value +ℤ edge.weight; node = edge.node })

-- Where every path starts: the offset, and the root.
unfoldable pub root_of : ℤ → List ℤ → Waypoint
root_of offset list = record { value = offset; node = record_count list }

-- A path that may be followed: every node of the list may be walked from, and the value is one that the variables read so far give.
pub record PathReady (list : List ℤ) (low count : ℕ) (reached : Waypoint) : Type 0 where
  pub nodes : (k : ℕ) → k ≤ record_count list → Walkable list k
  pub height : low + count ≤ 12
  pub known : reached.node ≤ record_count list
  pub bounded : mag reached.value ≤ 8388607 + (12 - (low + count)) * 16777216

-- What passed the checks of Walk before that of X.
pub record Passing (n : ℕ) (offset : ℤ) (list : List ℤ) : Type 0 where
  pub variables : is_variables n ≡ true
  pub start : is_value offset ≡ true
  pub records : list_fits n list ≡ true

-- The least and the greatest that a list gives for node k: those of its record, 0 and 0 for node 0.
unfoldable pub range_at : List ℤ → ℕ → Range
range_at list zero = record { least = pos 0; greatest = pos 0 }
range_at list (suc k) = record { least = least_at list (suc k); greatest = greatest_at list (suc k) }

-- The range of a node, from those of its children and its weight.
unfoldable pub range_by : ℤ → Range → Range → Range
range_by weight low high = record {
  least = lesser low.least (weight +ℤ high.least);
  greatest = greater low.greatest (weight +ℤ high.greatest);
}

-- That of record k, from what the list gives for its children.
unfoldable pub range_from : List ℤ → ℕ → Range
range_from list k = range_by (weight_at list k) (range_at list (nat_abs (low_at list k))) (range_at list (nat_abs (high_at list k)))

-- Whether record k has the range that its children and its weight give.
unfoldable pub range_follows : List ℤ → ℕ → Bool
range_follows list k =
    eq_z (least_at list k) (range_from list k).least && eq_z (greatest_at list k) (range_from list k).greatest

-- The records before record k passed Walk's check.
pub record EarlierPass (n : ℕ) (list : List ℤ) (k : ℕ) : Type 0 where
  pub pass : (m : ℕ) → 1 ≤ m → m < k → record_fits n list m ≡ true

-- A record whose children and weight fit, with room in 32 bits for its weight and its upper child's range.
pub record RangeReady (list : List ℤ) (k : ℕ) : Type 0 where
  pub here : Recorded list k
  pub low : child_fits list k (low_at list k) ≡ true
  pub high : child_fits list k (high_at list k) ≡ true
  pub weight : is_weight (weight_at list k) ≡ true
  pub least_small : mag (range_at list (nat_abs (high_at list k))).least ≤ 201326592
  pub greatest_small : mag (range_at list (nat_abs (high_at list k))).greatest ≤ 201326592
