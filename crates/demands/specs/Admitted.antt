-- What the paper admits: for each operation its conditions in its order, each with its own number.
use Rattle.std.specs.Prelude.{ℕ, ◌+◌, ◌-◌, ◌*◌, ◌/◌, ◌%◌, ◌^◌, ◌≤◌, ◌<◌, ◌≡◌, List, [], ◌∷◌, ◌++◌, length, get_or, take, ℤ, pos, neg_ℤ, nat_abs, ◌<ℤ◌}
use Rattle.numbers.specs.Conditions.{Between, Variables, Limit, TableValue, Domain, LeastOver, GreatestOver}
use Rattle.numbers.specs.Answers.{accepted}
use Rattle.numbers.specs.Lists.{sum_of}
use Rattle.numbers.specs.Widths.{weight_width}
use Rattle.blocks.specs.Classes.{rail_at}
use Rattle.diagram.specs.Walk.{variable_at, low_at, high_at, weight_at, least_at, greatest_at, path_weight}
use Rattle.image.specs.Cells.{Card}
use Rattle.image.specs.Commands.{end_size, image_of}
use Rattle.image.specs.Reader.{end, due, due_byte, due_size, command_at, place_after, start}
use Rattle.image.specs.WellFormed.{KeepsShape, KeepsWord, WellFormed}
use Rattle.image.specs.declared.Command.{Command}
use Rattle.image.specs.declared.Command.TheVariants.{Table, Cell, Word, End}
use Rattle.image.specs.declared.Place.{Place}
use Rattle.cascade.specs.Compile.{image_for, ImageSummary, compile_answer, compile_buffer, compiled_image}
use Rattle.cascade.specs.Groupings.{BestGrouping, cost}
use Rattle.demands.specs.Checks.{Check, ◌otherwise◌, AllHold, FirstFails}

-- ---- Build

-- The checks on a table: n outside 1..12 is 1; table length not 2^n is 2; a value out of range is 3.
unfoldable pub table_checks : ℕ → List ℤ → List Check
table_checks n table =
    Variables n otherwise 1
    ∷ (length table ≡ 2 ^ n) otherwise 2
    ∷ ((x : ℕ) → x < length table → TableValue (get_or table x (pos 0))) otherwise 3
    ∷ []

-- Build: these, then node buffer shorter than 6·(2^n - 1) numbers is 4.
unfoldable pub build_checks : ℕ → List ℤ → ℕ → List Check
build_checks n table room = table_checks n table ++ (6 * (2 ^ n - 1) ≤ room) otherwise 4 ∷ []

-- ---- Walk

-- A child of record k: from 0 to its own number less 1, and where it is not node 0 its variable is below that of
-- record k.
pub record ListedChild (list : List ℤ) (k : ℕ) (child : ℤ) : Type 0 where
  pub earlier : Between (pos 0) (pos (k - 1)) child
  pub lower : ¬ (child ≡ pos 0) → variable_at list (nat_abs child) <ℤ variable_at list k

-- Record k of a list for n variables. Its function is the sum of the weights of the 1-edges on the path from it.
pub record ListedRecord (n : ℕ) (list : List ℤ) (k : ℕ) : Type 0 where
  pub variable : Between (pos 0) (pos (n - 1)) (variable_at list k)
  pub low : ListedChild list k (low_at list k)
  pub high : ListedChild list k (high_at list k)
  pub weight : Between (neg_ℤ (pos 16777215)) (pos 16777215) (weight_at list k)
  pub least : LeastOver (Domain n) (path_weight list n k) (least_at list k)
  pub greatest : GreatestOver (Domain n) (path_weight list n k) (greatest_at list k)

-- A record list: a multiple of 6 numbers, at most 6·(2^n - 1), and each of its records keeps the rules.
pub record RecordList (n : ℕ) (list : List ℤ) : Type 0 where
  pub whole : length list % 6 ≡ 0
  pub most : length list ≤ 6 * (2 ^ n - 1)
  pub records : (k : ℕ) → 1 ≤ k → k ≤ length list / 6 → ListedRecord n list k

-- Walk: 1; offset out of the table's range is 5; the record list 6; X not below 2^n is 7.
unfoldable pub walk_checks : ℕ → ℤ → List ℤ → ℕ → List Check
walk_checks n offset list x =
    Variables n otherwise 1
    ∷ TableValue offset otherwise 5
    ∷ RecordList n list otherwise 6
    ∷ (x < 2 ^ n) otherwise 7
    ∷ []

-- ---- Plan and Compile

-- A list of cells from cut 0 that arrives at cut h and fits: sizes, each at least 1, with sum h, and the cell of each
-- size keeps to the address limit: the rail width at its cut, which lies below the variables of the sizes before it,
-- and its size.
pub record FittingCells (n : ℕ) (table : List ℤ) (limit h : ℕ) (sizes : List ℕ) : Type 0 where
  pub some : (j : ℕ) → j < length sizes → 1 ≤ get_or sizes j 0
  pub sum : sum_of sizes ≡ h
  pub keeps : (j : ℕ) → j < length sizes → rail_at n table (sum_of (take j sizes)) + get_or sizes j 0 ≤ limit

-- A grouping that fits is such a list that arrives at the bottom cut n.
abbrev pub FittingGrouping : ℕ → List ℤ → ℕ → List ℕ → Type 0
FittingGrouping n table limit sizes = FittingCells n table limit n sizes

-- Plan: 1, 2, 3 as above; A outside 1..12 is 8; no grouping within A is 9.
unfoldable pub plan_checks : ℕ → List ℤ → ℕ → List Check
plan_checks n table limit =
    table_checks n table
    ++ Limit limit otherwise 8
    ∷ ((sizes : List ℕ) × FittingGrouping n table limit sizes) otherwise 9
    ∷ []

-- Compile: 1, 2, 3, 8, 9, then image buffer shorter than the image, that of the chosen grouping, is 10.
unfoldable pub compile_checks : ℕ → List ℤ → ℕ → ℕ → List Check
compile_checks n table limit room =
    plan_checks n table limit
    ++ ((best : List ℕ) → BestGrouping n table limit best → length (image_for n table best) ≤ room) otherwise 10
    ∷ []

-- Compile gives the image of a grouping into a buffer: it is accepted, and what it leaves is that image, with the
-- number of its cells and its cost.
pub record GivesImage (n : ℕ) (table : List ℤ) (limit : ℕ) (best buffer : List ℕ) : Type 0 where
  pub summary : ImageSummary
  pub answered : compile_answer n table limit (length buffer) ≡ accepted summary
  pub written : compiled_image summary (compile_buffer n table limit buffer) ≡ image_for n table best
  pub cells : summary.planned.cells ≡ length best
  pub bits : summary.planned.bits ≡ cost n table best

-- ---- Run and Expand

-- The operand rules of a command at a place.
unfoldable pub OperandRules : Place → Command → Type 0
OperandRules p (Table n offset) = Variables n × TableValue offset
OperandRules p (Cell group incoming outgoing width) = KeepsShape p.left p.classes group incoming outgoing
OperandRules p (Word class weight) =
    KeepsWord p.classes (p.words % 2 ^ p.group) (record { class = class; weight = weight })
OperandRules p (End bits) = bits ≡ p.bits

-- The command at a place, with its operands.
unfoldable pub command_here : List ℕ → Place → Command
command_here image p = command_at (due p) image p.at

-- At each place: a width that is not least is 13, before the next command byte is read; no byte there is 11; a
-- command byte not allowed there is 12; operands cut off is 11; an operand rule broken is 13; bytes after 0x45 are
-- 14.
unfoldable pub place_checks : List ℕ → Place → List Check
place_checks image p =
    (p.words ≡ 0 → p.width ≡ weight_width (p.least ∷ p.greatest ∷ [])) otherwise 13
    ∷ (p.at < length image) otherwise 11
    ∷ (get_or image p.at 0 ≡ due_byte (due p)) otherwise 12
    ∷ (p.at + due_size (due p) ≤ length image) otherwise 11
    ∷ OperandRules p (command_here image p) otherwise 13
    ∷ (due p ≡ end → length image ≡ p.at + end_size) otherwise 14
    ∷ []

-- The places that checking from the left comes to: the start, and after each command but 0x45 that keeps to its
-- checks the place behind it.
pub data ComesTo (image : List ℕ) : Place → Type 0 where
  first : ComesTo image start
  next : (p : Place) → ComesTo image p → AllHold (place_checks image p) → ¬ (due p ≡ end)
      → ComesTo image (place_after p (command_here image p))

-- Checking from the left finds a fault of this number: that of the first check which fails at a place that is
-- reached.
unfoldable pub ImageFault : List ℕ → ℕ → Type 0
ImageFault image k = (p : Place) × (ComesTo image p × FirstFails (place_checks image p) k)

-- The image is that of a card which keeps every rule.
unfoldable pub ImageOf : List ℕ → Card → Type 0
ImageOf image card = WellFormed card × (image ≡ image_of card)

-- The image is that of some card; else checking it finds the number.
unfoldable pub image_check : List ℕ → Check
image_check image = record { holds = (card : Card) × ImageOf image card; gives = ImageFault image }

-- Run: the image, then X not below 2^n is 7.
unfoldable pub run_checks : List ℕ → ℕ → List Check
run_checks image x = image_check image ∷ ((card : Card) → ImageOf image card → x < 2 ^ card.n) otherwise 7 ∷ []

-- Expand: the image, then table buffer length not 2^n is 2.
unfoldable pub expand_checks : List ℕ → ℕ → List Check
expand_checks image room = image_check image ∷ ((card : Card) → ImageOf image card → room ≡ 2 ^ card.n) otherwise 2 ∷ []
