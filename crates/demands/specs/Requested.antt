-- What the requests of document 02 admit, those that stand: for each operation its conditions in the request's order,
-- each with its own number, and what its answers are to be.
use Rattle.std.specs.Prelude.{ℕ, ◌+◌, ◌-◌, ◌*◌, ◌^◌, ◌≤◌, ◌<◌, ◌≡◌, ◌↔◌, length, get_or, ℤ, pos}
use mathlib.Core.List.{List, [], ◌∷◌, ◌++◌, map, Memᴰ}
use Rattle.numbers.specs.Conditions.{Variables, Limit, TableValue, Part, LeastOver, GreatestOver}
use Rattle.numbers.specs.Lists.{numbers_from, exact_sum}
use Rattle.operands.specs.Bytes.{unsigned_at}
use Rattle.blocks.specs.Classes.{class_count}
use Rattle.blocks.specs.Uses.{use_count, classes_at}
use Rattle.diagram.specs.Walk.{walk_value}
use Rattle.image.specs.Cells.{Card}
use Rattle.image.specs.Reader.{start}
use Rattle.report.specs.Report.{Figures}
use Rattle.reach.specs.Reach.{Reachable}
use Rattle.sums.specs.Sums.{sum_at}
use Rattle.demands.specs.Checks.{Check, ◌otherwise◌, AllHold}
use Rattle.demands.specs.Admitted.{table_checks, RecordList, FittingCells, FittingGrouping, place_checks, ImageFault, ImageOf}

-- ---- W-201: the report

-- Walk's checks but that of X; then a above b, or b outside the domain, is 15.
unfoldable pub report_checks : ℕ → ℤ → List ℤ → ℕ → ℕ → List Check
report_checks n offset list a b =
    Variables n otherwise 1
    ∷ TableValue offset otherwise 5
    ∷ RecordList n list otherwise 6
    ∷ ((a ≤ b) × (b < 2 ^ n)) otherwise 15
    ∷ []

-- The figures over the X from a to b, both included: how many X there are, and the least, the greatest and the exact
-- sum of Walk's values there.
pub record FiguresOver (n : ℕ) (offset : ℤ) (list : List ℤ) (a b : ℕ) (f : Figures) : Type 0 where
  pub counted : f.count ≡ b - a + 1
  pub least : LeastOver (Part a b) (walk_value n offset list) f.least
  pub greatest : GreatestOver (Part a b) (walk_value n offset list) f.greatest
  pub summed : f.sum ≡ exact_sum (map (walk_value n offset list) (numbers_from a (b - a + 1)))

-- ---- W-204: the pair run

-- The n that an image's first command carries.
unfoldable pub first_n : List ℕ → ℕ
first_n image = unsigned_at image 1 1

-- Checking an image for a given n finds a fault: 13 where its 0x56 keeps to its checks and carries another n, before
-- any later byte is looked at; else what checking finds as ever.
pub data FaultFor (n : ℕ) (image : List ℕ) : ℕ → Type 0 where
  another : AllHold (place_checks image start) → ¬ (first_n image ≡ n) → FaultFor n image 13
  as_ever : {k : ℕ} → (AllHold (place_checks image start) → first_n image ≡ n) → ImageFault image k → FaultFor n image k

-- The image is that of some card of n variables; else checking it finds the number.
unfoldable pub image_check_for : ℕ → List ℕ → Check
image_check_for n image = record { holds = (card : Card) × (ImageOf image card × (card.n ≡ n)); gives = FaultFor n image }

-- m outside 1..6 is 16; the image for n = 2m; X or Y not below 2^m is 17, in 7's place.
unfoldable pub pair_checks : ℕ → List ℕ → ℕ → ℕ → List Check
pair_checks m image x y =
    ((1 ≤ m) × (m ≤ 6)) otherwise 16
    ∷ image_check_for (2 * m) image
    ∷ ((x < 2 ^ m) × (y < 2 ^ m)) otherwise 17
    ∷ []

-- ---- W-205: Reach

-- 1, 2, 3 and 8 as by Plan, and no 9.
unfoldable pub reach_checks : ℕ → List ℤ → ℕ → List Check
reach_checks n table limit = table_checks n table ++ Limit limit otherwise 8 ∷ []

-- All cuts that some list of fitting cells from cut 0 arrives at and no others, in rising order, and the least limit:
-- it fits, and none smaller does.
pub record ReachOf (n : ℕ) (table : List ℤ) (limit : ℕ) (f : Reachable) : Type 0 where
  pub listed : (h : ℕ) → ((h ≤ n) × ((sizes : List ℕ) × FittingCells n table limit h sizes)) ↔ Memᴰ h f.cuts
  pub rising : (j k : ℕ) → j < k → k < length f.cuts → get_or f.cuts j 0 < get_or f.cuts k 0
  pub fitting : (sizes : List ℕ) × FittingGrouping n table f.limit sizes
  pub smaller : (less : ℕ) → less < f.limit → (sizes : List ℕ) → ¬ FittingGrouping n table less sizes

-- ---- W-206: Sum and Remainder

-- 1 and 2 check n and the list's length, 3 each weight as a value.
unfoldable pub weight_checks : ℕ → List ℤ → List Check
weight_checks n weights =
    Variables n otherwise 1
    ∷ (length weights ≡ n) otherwise 2
    ∷ ((j : ℕ) → j < length weights → TableValue (get_or weights j (pos 0))) otherwise 3
    ∷ []

-- A table buffer not of 2^n numbers is 2, last.
unfoldable pub room_check : ℕ → ℕ → List Check
room_check n room = (room ≡ 2 ^ n) otherwise 2 ∷ []

-- Sum: some sum out of the value range is 18.
unfoldable pub sum_checks : ℕ → List ℤ → ℕ → List Check
sum_checks n weights room =
    weight_checks n weights
    ++ ((x : ℕ) → x < 2 ^ length weights → TableValue (sum_at weights x)) otherwise 18
    ∷ room_check n room

-- Remainder: q outside 1..11 is 19.
unfoldable pub remainder_checks : ℕ → List ℤ → ℕ → ℕ → List Check
remainder_checks n weights q room = weight_checks n weights ++ ((1 ≤ q) × (q ≤ 11)) otherwise 19 ∷ room_check n room

-- ---- W-207: use counts

-- The commonest class of cut h and its use count: no class of the cut is used more, and of those used as much it has
-- the smallest number.
pub record Commonest (n : ℕ) (table : List ℤ) (h class uses : ℕ) : Type 0 where
  pub known : class < class_count n table h
  pub used : uses ≡ use_count (classes_at n table h) class
  pub most : (other : ℕ) → other < class_count n table h → use_count (classes_at n table h) other ≤ uses
  pub smallest : (other : ℕ) → other < class_count n table h → use_count (classes_at n table h) other ≡ uses
      → class ≤ other
