-- What Build works with: the classes of all cuts, the node of each class, and the fork of a class, from which its record is made.
use Rattle.std.specs.Prelude.{ℕ, suc, ◌+◌, ◌-◌, ◌*◌, ◌≤◌, ◌<◌, ◌≡◌, true, cond, length, get_or, set, ℤ, ◌-ℤ◌}
use mathlib.Core.List.{List, map, flat_map}
use Rattle.numbers.specs.Extremes.{least_of, greatest_of}
use Rattle.numbers.specs.Lists.{overwritten}
use Rattle.blocks.specs.Blocks.{first, lower_half, upper_half, differences}
use Rattle.blocks.specs.Rows.{all_firsts, cut_place}
use Rattle.blocks.specs.Inner.Layout.{class_at}
use Rattle.blocks.specs.Classes.{classes, class_count}
use Rattle.diagram.specs.Accepted.{Accepted}
use Rattle.diagram.specs.Build.{node_room}
use Rattle.diagram.specs.Records.{branches, node, record_of, records_at, records_below, records, record_numbers, record_size}
use Rattle.diagram.specs.declared.Fork.{Fork}
use Rattle.diagram.specs.declared.Range.{Range}

-- The nodes of a block's halves, its weight, and whether it branches.
unfoldable pub fork_of : ℕ → List ℤ → ℕ → List ℤ → Fork
fork_of n table i values = record {
  low = node n table i (lower_half i values);
  high = node n table i (upper_half i values);
  weight = first (upper_half i values) -ℤ first (lower_half i values);
  branching = branches i values;
}

-- The least and the greatest of a block's differences.
unfoldable pub range_of : List ℤ → Range
range_of values = record { least = least_of (differences values); greatest = greatest_of (differences values) }

-- A row of all cuts that holds the node of each class of cut h.
pub record NodesKnown (n : ℕ) (table : List ℤ) (h : ℕ) (row : List ℕ) : Type 0 where
  pub places : cut_place (suc n) ≤ length row
  pub known : (c : ℕ) → c < class_count n table h → get_or row (cut_place h + c) 0 ≡ node n table (n - h) (class_at n table h c)

-- Class c of cut h, which lies above a variable, of an accepted table; the row has the first block of each class of all cuts.
pub record ClassOfCut (n h c : ℕ) (table : List ℤ) (first_row : List ℕ) : Type 0 where
  pub admitted : Accepted n table
  pub cut : h < n
  pub known : c < class_count n table h
  pub placed : first_row ≡ all_firsts n table

-- Where the fork of class c of cut h, which lies above a variable, can be read: the row has the nodes of the next cut.
pub record Forking (n h c : ℕ) (table : List ℤ) (row : List ℕ) : Type 0 where
  pub cut : h < n
  pub known : c < class_count n table h
  pub below : NodesKnown n table (suc h) row

-- Room for one record more, where class c of cut h branches.
pub record RecordRoom (n h c made : ℕ) (table nodes : List ℤ) : Type 0 where
  pub few : made < 4096
  pub room : branches (n - suc h) (class_at n table h c) ≡ true → record_size * made + record_size ≤ length nodes

-- What class c of cut h leaves: the count of records made, its node in the row, and its record in the buffer.
pub record ClassPlaced (n h c made : ℕ) (table : List ℤ) (row : List ℕ) (nodes : List ℤ) (made' : ℕ) (row' : List ℕ) (nodes' : List ℤ) : Type 0 where
  pub counted : made' ≡ cond (branches (n - suc h) (class_at n table h c)) (made + 1) made
  pub noted : row' ≡ set row (cut_place h + c) (cond (branches (n - suc h) (class_at n table h c)) (made + 1) (node n table (n - suc h) (lower_half (n - suc h) (class_at n table h c))))
  pub recorded : nodes' ≡ cond (branches (n - suc h) (class_at n table h c)) (overwritten nodes (record_size * made) (record_numbers (record_of n table (n - suc h) (class_at n table h c)))) nodes

-- What the classes of cut h start from: the nodes of the next cut, and the records of the variables below.
pub record CutReady (n h made : ℕ) (table : List ℤ) (row : List ℕ) (nodes : List ℤ) : Type 0 where
  pub cut : h < n
  pub below : NodesKnown n table (suc h) row
  pub counted : made ≡ records_below n table (n - suc h)
  pub room : node_room n ≤ length nodes

-- What they leave: the records of one variable more, and the nodes of the cut.
pub record CutRecorded (n h made : ℕ) (table : List ℤ) (row : List ℕ) (nodes : List ℤ) (made' : ℕ) (row' : List ℕ) (nodes' : List ℤ) : Type 0 where
  pub counted : made' ≡ records_below n table (n - h)
  pub noted : row' ≡ overwritten row (cut_place h) (map (node n table (n - h)) (classes n table h))
  pub recorded : nodes' ≡ overwritten nodes (record_size * made) (flat_map record_numbers (records_at n table (n - suc h)))

-- What Build leaves: how many records there are, and their numbers in front.
pub record AllRecorded (n : ℕ) (table nodes : List ℤ) (made : ℕ) (nodes' : List ℤ) : Type 0 where
  pub counted : made ≡ length (records n table)
  pub recorded : nodes' ≡ overwritten nodes 0 (flat_map record_numbers (records n table))
