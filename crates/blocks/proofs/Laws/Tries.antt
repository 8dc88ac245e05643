-- The number tried: by the class that is found, by the blocks of a cut, and as it stands in the rows of all cuts.
use Prim.Native.Nat.{ℕ, zero, suc, ◌+◌, ◌-◌, ◌^◌, ◌≤◌, ◌<◌}
use Rattle.std.specs.Prelude.{◌≡◌, ◌↔◌, take, ℤ}
use Rattle.std.proofs.Math.Path.{sym, ap}
use Rattle.std.proofs.Common.{◌∙◌, ap₂, get_or-take, pow_pos}
use mathlib.Core.List.{List, [], map}
use Rattle.std.proofs.Math.Decide.{dec_lt}
use native.Mathlib.Omega.{arith}
use Rattle.std.proofs.Math.ListN.{length, get_or}
use Rattle.std.proofs.Math.Seq.{length-take-le}
use Rattle.numbers.proofs.Laws.Lists.{get_d_map}
use Rattle.blocks.specs.Blocks.{block, blocks, differences}
use Rattle.blocks.specs.Classes.{number_in, distinct}
use Rattle.blocks.specs.Rows.{in_row, numbers_of, cut_numbers, all_numbers, all_tries}
use Rattle.blocks.proofs.Laws.Classes.{same_class}
use Rattle.blocks.proofs.Laws.Cuts.{lists_length, length_cut_numbers}
use Rattle.blocks.proofs.Laws.Known.{number_at, own_distinct, Among, distinct_seen}
use Rattle.blocks.proofs.Laws.Places.{row_at, class_at_lem}
use Rattle.blocks.specs.Searching.{found_in, compared_in, OrderOf}
use Rattle.blocks.specs.Tries.{look_order, looked_until, number_tried, block_class, known_before, tried_at, cut_tries}
use Rattle.blocks.proofs.Laws.Latest.{none_before, class_met, class_most, known_since, latest_before_lem, latest_known}
use Rattle.blocks.proofs.Laws.Order.{order_length, first_turn, turn_below, turn_above, turn_cases, looked_known, turn_of, one_turn, tried_none, tried_in, tried_new}
use Rattle.blocks.proofs.Laws.TryRows.{tries_at, length_cut_tries}
use Rattle.blocks.proofs.Laws.Searching.{found_in_lem, compared_in_lem}

-- ---- the order of looking

module _ (known latest : ℕ) (is_known : latest < known) where
  -- The others come from class 0 up.
  pub others_rise : (left right : ℕ) → 0 < left → left < right → right < known → get_or (look_order known latest) left 0 < get_or (look_order known latest) right 0
  others_rise left right some l r =
      turn_cases known latest is_known left (omega arith)
      (λ z p. absurd (omega arith))
      (λ c m s p. turn_cases known latest is_known right r (λ y q. absurd (omega arith)) (λ d n t q. omega arith) (λ n q. omega arith))
      (λ m p. turn_cases known latest is_known right r (λ y q. absurd (omega arith)) (λ d n t q. absurd (omega arith)) (λ n q. omega arith))

  -- Each known class is looked at in one turn and in no other.
  pub each_once : (class : ℕ) → class < known
      → (turn : ℕ) × (turn < known) × (get_or (look_order known latest) turn 0 ≡ class) × ((other : ℕ) → other < known → get_or (look_order known latest) other 0 ≡ class → other ≡ turn)
  each_once class below =
      let t = turn_of known latest is_known class below in
      (t.0, t.1.0, t.1.1, λ other l e. one_turn known latest is_known other t.0 l t.1.0 (e ∙ sym t.1.1))

  -- ---- the number tried, by the class that is found

  pub tried_latest : number_tried known latest latest ≡ 1
  tried_latest = tried_in known latest is_known latest 0 (omega arith) (first_turn known latest is_known)

  pub tried_before_latest : (class : ℕ) → class < latest → number_tried known latest class ≡ class + 2
  tried_before_latest class l =
      tried_in known latest is_known class (suc class) (omega arith) (turn_below known latest is_known class l)
      ∙ (let e : suc class + 1 ≡ class + 2 = omega arith in e)

  pub tried_behind_latest : (class : ℕ) → latest < class → class < known → number_tried known latest class ≡ class + 1
  tried_behind_latest class l below = tried_in known latest is_known class class below (turn_above known latest is_known class l below)

-- It is an order of the known classes, and holds no others, also where none is known.
pub is_order : (known latest : ℕ) → (0 < known → latest < known) → OrderOf known (look_order known latest)
unfolding look_order
is_order zero latest among = record { only = λ place l. absurd (omega arith); each = λ class l. absurd (omega arith) }
is_order (suc more) latest among =
    let l = among (omega arith) in
    record {
      only = λ place below. looked_known (suc more) latest l place (rw (order_length (suc more) latest l) at below);
      each = λ class below. let t = turn_of (suc more) latest l class below in (t.0, (rw (order_length (suc more) latest l) t.1.0, t.1.1));
    }

-- ---- the order of trying does not change the numbers

-- Whatever the order in which the different lists are looked at, the number found is that by first appearance.
pub order_changes_no_number : (ds : List (List ℤ)) (order : List ℕ) → OrderOf (length (distinct ds)) order → (d : List ℤ) → found_in (distinct ds) order d ≡ number_in (distinct ds) d
order_changes_no_number ds order o d = found_in_lem (distinct ds) (own_distinct ds) d order o

-- ---- the blocks of a cut, given by their differences

-- None is tried at the first.
pub first_block : (ds : List (List ℤ)) → tried_at ds 0 ≡ 0
unfolding tried_at
first_block ds = ap (λ k. number_tried k (block_class ds (0 - 1)) (block_class ds 0)) (none_before ds) ∙ tried_none (block_class ds (0 - 1)) (block_class ds 0)

-- One is tried at a block of the class of the block just before.
pub same_as_before : (ds : List (List ℤ)) (before : ℕ) → suc before < length ds → block_class ds (suc before) ≡ block_class ds before → tried_at ds (suc before) ≡ 1
unfolding tried_at
same_as_before ds before below e =
    ap₂ (number_tried (known_before ds (suc before))) (ap (block_class ds) (let q : suc before - 1 ≡ before = omega arith in q)) e
    ∙ tried_latest (known_before ds (suc before)) (block_class ds before) (latest_before_lem ds before (omega arith))

-- A class below that of the block just before is known; one above it is, where some block has it.
module _ (ds : List (List ℤ)) (j : ℕ) (below : suc j < length ds) where
  just_before : tried_at ds (suc j) ≡ number_tried (known_before ds (suc j)) (block_class ds j) (block_class ds (suc j))
  unfolding tried_at
  just_before = ap (λ k. number_tried (known_before ds (suc j)) (block_class ds k) (block_class ds (suc j))) (let q : suc j - 1 ≡ j = omega arith in q)

  lower_class : block_class ds (suc j) < block_class ds j → tried_at ds (suc j) ≡ block_class ds (suc j) + 2
  lower_class l = just_before ∙ tried_before_latest (known_before ds (suc j)) (block_class ds j) (latest_before_lem ds j (omega arith)) (block_class ds (suc j)) l

  higher_class : (before : ℕ) → before < j → block_class ds before ≡ block_class ds (suc j) → block_class ds j < block_class ds (suc j) → tried_at ds (suc j) ≡ block_class ds (suc j) + 1
  higher_class before earlier e l =
      let known = known_since ds before (suc j) (omega arith) (omega arith) in
      just_before ∙ tried_behind_latest (known_before ds (suc j)) (block_class ds j) (latest_before_lem ds j (omega arith)) (block_class ds (suc j)) l (omega arith)

module _ (ds : List (List ℤ)) (j : ℕ) (below : j < length ds) where
  abbrev order : List ℕ
  order = look_order (known_before ds j) (block_class ds (j - 1))

  -- A block that is equal to none before it has a new class, which is the next number.
  pub new_class_is_next : ((before : ℕ) → before < j → ¬ (get_or ds before [] ≡ get_or ds j [])) → block_class ds j ≡ known_before ds j
  unfolding known_before Among
  new_class_is_next unseen = known_or_next (dec_lt (block_class ds j) (known_before ds j))
    where
      known_or_next : Dec (block_class ds j < length (distinct (take j ds))) → block_class ds j ≡ length (distinct (take j ds))
      known_or_next (yes l) =
          let met = class_met ds j below in
          let seen = distinct_seen (take j ds) (number_in (distinct (take j ds)) (get_or ds j [])) (omega arith) in
          let early : seen.0 < j = (let m = seen.1.0 in let t = length-take-le j ds (omega arith) in omega arith) in
          absurd (unseen seen.0 early (sym (get_or-take j ds seen.0 [] early) ∙ seen.1.1 ∙ number_at (distinct (take j ds)) (get_or ds j []) (omega arith)))
      known_or_next (no l) = let m = class_most ds j below in omega arith

  -- All known ones are tried at a new class.
  pub new_class_takes_all : block_class ds j ≡ known_before ds j → tried_at ds j ≡ known_before ds j
  unfolding tried_at
  new_class_takes_all new = tried_new (known_before ds j) (block_class ds (j - 1)) (latest_known ds j below) (block_class ds j) (omega arith)

  -- The found class is counted, and is the last one tried.
  pub found_class_is_last : block_class ds j < known_before ds j → (0 < tried_at ds j) × (get_or order (tried_at ds j - 1) 0 ≡ block_class ds j)
  unfolding tried_at
  found_class_is_last old =
      let l = latest_known ds j below (omega arith) in
      let t = turn_of (known_before ds j) (block_class ds (j - 1)) l (block_class ds j) old in
      let e = tried_in (known_before ds j) (block_class ds (j - 1)) l (block_class ds j) t.0 t.1.0 t.1.1 in
      (omega arith, ap (λ k. get_or order k 0) (let q : number_tried (known_before ds j) (block_class ds (j - 1)) (block_class ds j) - 1 ≡ t.0 = omega arith in q) ∙ t.1.1)

  -- No more are tried than are known.
  pub never_more_than_known : tried_at ds j ≤ known_before ds j
  unfolding tried_at
  never_more_than_known = known_or_new (dec_lt (block_class ds j) (known_before ds j))
    where
      known_or_new : Dec (block_class ds j < known_before ds j) → number_tried (known_before ds j) (block_class ds (j - 1)) (block_class ds j) ≤ known_before ds j
      known_or_new (yes old) =
          let l = latest_known ds j below (omega arith) in
          let t = turn_of (known_before ds j) (block_class ds (j - 1)) l (block_class ds j) old in
          let e = tried_in (known_before ds j) (block_class ds (j - 1)) l (block_class ds j) t.0 t.1.0 t.1.1 in
          let m = t.1.0 in
          omega arith
      known_or_new (no new) = let e = new_class_takes_all (let m = class_most ds j below in omega arith) in omega arith

  -- The search in this order among the known lists finds the block's class, and the number tried is how many it compares.
  pub search_finds_the_class : found_in (distinct (take j ds)) order (get_or ds j []) ≡ block_class ds j
  unfolding known_before
  search_finds_the_class =
      order_changes_no_number (take j ds) order (is_order (length (distinct (take j ds))) (block_class ds (j - 1)) (latest_known ds j below)) (get_or ds j [])
      ∙ sym (class_met ds j below)

  pub search_compares : compared_in (distinct (take j ds)) order (get_or ds j []) ≡ tried_at ds j
  unfolding tried_at number_tried known_before
  search_compares =
      compared_in_lem (distinct (take j ds)) (own_distinct (take j ds)) (get_or ds j []) order (is_order (length (distinct (take j ds))) (block_class ds (j - 1)) (latest_known ds j below)).only
      ∙ ap (λ class. looked_until class order) (sym (class_met ds j below))

-- ---- the rows of a cut

module _ (n : ℕ) (table : List ℤ) (h : ℕ) (cut : h ≤ n) where
  -- The differences of its blocks, left to right.
  abbrev lists : List (List ℤ)
  lists = map differences (blocks n table (n - h))

  pub row_of_classes : (j : ℕ) → j < 2 ^ h → get_or (cut_numbers n table h) j 0 ≡ block_class lists j
  unfolding cut_numbers numbers_of block_class
  row_of_classes j l = get_d_map (number_in (distinct lists)) lists j [] 0 (rw (lists_length n h cut table) l)

  pub row_of_tries : (j : ℕ) → j < 2 ^ h → get_or (cut_tries n table h) j 0 ≡ tried_at lists j
  unfolding cut_tries
  row_of_tries j l = tries_at lists j (rw (lists_length n h cut table) l)

  -- None is tried at a cut's first block.
  pub cut_begins_with_none : get_or (cut_tries n table h) 0 0 ≡ 0
  cut_begins_with_none = row_of_tries 0 (pow_pos h) ∙ first_block lists

  -- ---- the rows of all cuts

  abbrev class : ℕ → ℕ
  class j = in_row (all_numbers n table) h j

  abbrev tried : ℕ → ℕ
  tried j = in_row (all_tries n table) h j

  -- What stands there is what the blocks of the cut have.
  pub row_of_all_tries : (j : ℕ) → j < 2 ^ h → tried j ≡ tried_at lists j
  unfolding all_tries
  row_of_all_tries j l = row_at (cut_tries n table) n (λ k m. length_cut_tries n k m table) h j cut l ∙ row_of_tries j l

  class_stands : (j : ℕ) → j < 2 ^ h → class j ≡ block_class lists j
  unfolding all_numbers
  class_stands j l = row_at (cut_numbers n table) n (λ k m. length_cut_numbers n k m table) h j cut l ∙ row_of_classes j l

  inside : (j : ℕ) → j < 2 ^ h → j < length lists
  inside j l = rw (lists_length n h cut table) l

  -- Equal numbers stand exactly for equal differences.
  pub same_in_row : (j k : ℕ) → j < 2 ^ h → k < 2 ^ h → (differences (block table (n - h) j) ≡ differences (block table (n - h) k)) ↔ (class j ≡ class k)
  same_in_row j k lj lk =
      let left = class_at_lem n table h cut j lj in
      let right = class_at_lem n table h cut k lk in
      let exactly = same_class n table h cut j k lj lk in (
        (λ e. left ∙ exactly.1 e ∙ sym right),
        (λ e. exactly.0 (sym left ∙ e ∙ right)),
      )

  -- The number tried, told by the classes.
  pub first_tries_none : tried 0 ≡ 0
  first_tries_none = row_of_all_tries 0 (pow_pos h) ∙ first_block lists

  pub new_tries_all : (j : ℕ) → j < 2 ^ h → ((before : ℕ) → before < j → ¬ (class before ≡ class j)) → (class j ≡ known_before lists j) × (tried j ≡ known_before lists j)
  unfolding block_class
  new_tries_all j l new =
      let next = new_class_is_next lists j (inside j l)
      (λ before b e. new before b (class_stands before (omega arith) ∙ ap (number_in (distinct lists)) e ∙ sym (class_stands j l))) in
      (class_stands j l ∙ next, row_of_all_tries j l ∙ new_class_takes_all lists j (inside j l) next)

  module _ (j : ℕ) (next : suc j < 2 ^ h) where
    here : class j ≡ block_class lists j
    here = class_stands j (omega arith)

    there : class (suc j) ≡ block_class lists (suc j)
    there = class_stands (suc j) next

    pub same_tries_one : class (suc j) ≡ class j → tried (suc j) ≡ 1
    same_tries_one e = row_of_all_tries (suc j) next ∙ same_as_before lists j (inside (suc j) next) (sym there ∙ e ∙ here)

    pub lower_tries : class (suc j) < class j → tried (suc j) ≡ class (suc j) + 2
    lower_tries l = row_of_all_tries (suc j) next ∙ lower_class lists j (inside (suc j) next) (let a = here in let b = there in omega arith) ∙ ap (λ c. c + 2) (sym there)

    pub higher_tries : (before : ℕ) → before < j → class before ≡ class (suc j) → class j < class (suc j) → tried (suc j) ≡ class (suc j) + 1
    higher_tries before earlier e l =
        row_of_all_tries (suc j) next
        ∙ higher_class lists j (inside (suc j) next) before earlier (sym (class_stands before (omega arith)) ∙ e ∙ there) (let a = here in let b = there in omega arith)
        ∙ ap (λ c. c + 1) (sym there)
