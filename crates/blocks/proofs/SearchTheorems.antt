-- The search for a block's class (W-203): the order in which the known classes are looked at, that the order changes no
-- class, how many are tried, and what stands for each block and each class in the rows of all cuts. It holds of every
-- cut of every table.
use Rattle.std.specs.Prelude.{ℕ, suc, ◌+◌, ◌-◌, ◌^◌, ◌≤◌, ◌<◌, ◌≡◌, ◌↔◌, List, [], map, length, get_or, take, ℤ}
use Rattle.blocks.specs.Blocks.{block, blocks, differences}
use Rattle.blocks.specs.Classes.{number_in, distinct, class_count, class_of}
use Rattle.blocks.specs.Rows.{in_row, cut_numbers, FirstOf, all_numbers, all_firsts, all_counts, all_tries}
use Rattle.blocks.specs.Searching.{found_in, compared_in, OrderOf}
use Rattle.blocks.specs.Tries.{look_order, number_tried, block_class, known_before, tried_at, cut_tries}
use Rattle.blocks.proofs.Laws.Order.{order_length, first_turn}
use Rattle.blocks.proofs.Laws.Places.{class_at_lem, count_at, first_of, no_first}
use Rattle.blocks.proofs.Laws.Tries as proved

-- ---- the order of looking

module _ (known latest : ℕ) (is_known : latest < known) where
  -- The class that is looked at in a turn, from turn 0 on.
  abbrev looked : ℕ → ℕ
  looked turn = get_or (look_order known latest) turn 0

  -- The class of the block just before comes first.
  pub latest_first : looked 0 ≡ latest
  latest_first = first_turn known latest is_known

  -- The others come from class 0 up.
  pub others_rise : (left right : ℕ) → 0 < left → left < right → right < known → looked left < looked right
  others_rise = proved.others_rise known latest is_known

  -- Each known class is looked at in one turn and in no other.
  pub each_once : (class : ℕ) → class < known
      → (turn : ℕ) × (turn < known) × (looked turn ≡ class)
      × ((other : ℕ) → other < known → looked other ≡ class → other ≡ turn)
  each_once = proved.each_once known latest is_known

  pub as_many_as_known : length (look_order known latest) ≡ known
  as_many_as_known = order_length known latest is_known

  -- ---- the number tried, by the class that is found

  -- Of the class of the block just before 1;
  pub tried_latest : number_tried known latest latest ≡ 1
  tried_latest = proved.tried_latest known latest is_known

  -- of a class below it that one and the classes from 0 to its own;
  pub tried_before_latest : (class : ℕ) → class < latest → number_tried known latest class ≡ class + 2
  tried_before_latest = proved.tried_before_latest known latest is_known

  -- of a class above it the classes from 0 to its own, that one among them.
  pub tried_behind_latest : (class : ℕ) → latest < class → class < known → number_tried known latest class ≡ class + 1
  tried_behind_latest = proved.tried_behind_latest known latest is_known

-- It is an order of the known classes, and holds no others, also where none is known.
pub is_order : (known latest : ℕ) → (0 < known → latest < known) → OrderOf known (look_order known latest)
is_order = proved.is_order

-- ---- the order of trying does not change the numbers

-- Whatever the order in which the different lists are looked at, the number found is that by first appearance.
pub order_changes_no_number : (ds : List (List ℤ)) (order : List ℕ) → OrderOf (length (distinct ds)) order
    → (d : List ℤ) → found_in (distinct ds) order d ≡ number_in (distinct ds) d
order_changes_no_number = proved.order_changes_no_number

-- ---- the blocks of a cut, given by their differences

-- None is tried at the first.
pub first_block : (ds : List (List ℤ)) → tried_at ds 0 ≡ 0
first_block = proved.first_block

-- One is tried at a block of the class of the block just before.
pub same_as_before : (ds : List (List ℤ)) (before : ℕ) → suc before < length ds
    → block_class ds (suc before) ≡ block_class ds before → tried_at ds (suc before) ≡ 1
same_as_before = proved.same_as_before

module _ (ds : List (List ℤ)) (j : ℕ) (below : j < length ds) where
  -- The order in which the classes that are known before block j are looked at.
  abbrev order : List ℕ
  order = look_order (known_before ds j) (block_class ds (j - 1))

  -- A block that is equal to none before it has a new class, which is the next number.
  pub new_class_is_next : ((before : ℕ) → before < j → ¬ (get_or ds before [] ≡ get_or ds j []))
      → block_class ds j ≡ known_before ds j
  new_class_is_next = proved.new_class_is_next ds j below

  -- All known ones are tried at a new class.
  pub new_class_takes_all : block_class ds j ≡ known_before ds j → tried_at ds j ≡ known_before ds j
  new_class_takes_all = proved.new_class_takes_all ds j below

  -- The found class is counted, and is the last one tried.
  pub found_class_is_last : block_class ds j < known_before ds j
      → (0 < tried_at ds j) × (get_or order (tried_at ds j - 1) 0 ≡ block_class ds j)
  found_class_is_last = proved.found_class_is_last ds j below

  -- No more are tried than are known.
  pub never_more_than_known : tried_at ds j ≤ known_before ds j
  never_more_than_known = proved.never_more_than_known ds j below

  -- The search in this order among the known lists finds the block's class; the number tried is how many it compares.
  pub search_finds_the_class : found_in (distinct (take j ds)) order (get_or ds j []) ≡ block_class ds j
  search_finds_the_class = proved.search_finds_the_class ds j below

  pub search_compares : compared_in (distinct (take j ds)) order (get_or ds j []) ≡ tried_at ds j
  search_compares = proved.search_compares ds j below

-- ---- the rows of a cut, and of all cuts

module _ (n : ℕ) (table : List ℤ) (h : ℕ) (cut : h ≤ n) where
  -- The differences of the blocks of cut h, left to right.
  abbrev lists : List (List ℤ)
  lists = map differences (blocks n table (n - h))

  -- What stands in the rows of all cuts for block j of cut h: its class, and the number tried.
  abbrev class : ℕ → ℕ
  class j = in_row (all_numbers n table) h j

  abbrev tried : ℕ → ℕ
  tried j = in_row (all_tries n table) h j

  -- The rows of the cut alone.
  pub row_of_classes : (j : ℕ) → j < 2 ^ h → get_or (cut_numbers n table h) j 0 ≡ block_class lists j
  row_of_classes = proved.row_of_classes n table h cut

  pub row_of_tries : (j : ℕ) → j < 2 ^ h → get_or (cut_tries n table h) j 0 ≡ tried_at lists j
  row_of_tries = proved.row_of_tries n table h cut

  pub cut_begins_with_none : get_or (cut_tries n table h) 0 0 ≡ 0
  cut_begins_with_none = proved.cut_begins_with_none n table h cut

  -- ---- classes

  -- The class of each block;
  pub row_of_all_classes : (j : ℕ) → j < 2 ^ h → class j ≡ class_of n table h (block table (n - h) j)
  row_of_all_classes = class_at_lem n table h cut

  -- two blocks have one number exactly where their differences are equal.
  pub same_differences_same_class : (j k : ℕ) → j < 2 ^ h → k < 2 ^ h
      → (differences (block table (n - h) j) ≡ differences (block table (n - h) k)) ↔ (class j ≡ class k)
  same_differences_same_class = proved.same_in_row n table h cut

  -- The number of classes of each cut.
  pub row_of_all_counts : get_or (all_counts n table) h 0 ≡ class_count n table h
  row_of_all_counts = count_at n table h cut

  -- The first block of each class, and 0 past the last class.
  pub row_of_all_firsts : (c : ℕ) → c < class_count n table h → FirstOf n table h c (in_row (all_firsts n table) h c)
  row_of_all_firsts = first_of n table h cut

  pub no_first_past_the_last : (c : ℕ) → class_count n table h ≤ c → c < 2 ^ h → in_row (all_firsts n table) h c ≡ 0
  no_first_past_the_last = no_first n table h cut

  -- ---- numbers tried

  -- The number tried for each block,
  pub row_of_all_tries : (j : ℕ) → j < 2 ^ h → tried j ≡ tried_at lists j
  row_of_all_tries = proved.row_of_all_tries n table h cut

  -- which the classes tell: none at the first block;
  pub first_tries_none : tried 0 ≡ 0
  first_tries_none = proved.first_tries_none n table h cut

  -- at a new class all that are known, as many as its own number says;
  pub new_tries_all : (j : ℕ) → j < 2 ^ h → ((before : ℕ) → before < j → ¬ (class before ≡ class j))
      → (class j ≡ known_before lists j) × (tried j ≡ known_before lists j)
  new_tries_all = proved.new_tries_all n table h cut

  -- at the class of the block just before 1,
  pub same_tries_one : (j : ℕ) → suc j < 2 ^ h → class (suc j) ≡ class j → tried (suc j) ≡ 1
  same_tries_one = proved.same_tries_one n table h cut

  -- at a class below it 2 more than the class's number, at a known one above it 1 more.
  pub lower_tries : (j : ℕ) → suc j < 2 ^ h → class (suc j) < class j → tried (suc j) ≡ class (suc j) + 2
  lower_tries = proved.lower_tries n table h cut

  pub higher_tries : (j : ℕ) → suc j < 2 ^ h → (before : ℕ) → before < j → class before ≡ class (suc j)
      → class j < class (suc j) → tried (suc j) ≡ class (suc j) + 1
  higher_tries = proved.higher_tries n table h cut
