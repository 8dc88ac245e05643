-- The order of looking: each known class stands in it once, and how many are looked at until one is met.
use Prim.Native.Nat.{ℕ, zero, suc, ◌+◌, ◌-◌, ◌≤◌, ◌<◌}
use Rattle.std.specs.Prelude.{◌≡◌, length, get_or, eqb}
use Rattle.std.proofs.Math.Path.{refl, sym, ap, ap₂}
use Rattle.std.proofs.Common.{◌∙◌, zero-add, length-append, get_or-append-add, eq-eqb, ne_eqb}
use Rattle.std.proofs.Math.Bool.{not}
use mathlib.Core.List.{List, [], ◌∷◌, ◌++◌}
use Rattle.std.proofs.Math.Decide.{dec_lt}
use native.Mathlib.Omega.{arith}
use Rattle.std.proofs.Math.ListN.{get_or-append}
use Rattle.numbers.specs.Lists.{numbers_from, keep}
use Rattle.numbers.proofs.Laws.Lists.{length_range, get_d_range}
use Rattle.numbers.proofs.Laws.Selections.{keep_passed, keep_failed, keep_append, range_add}
use Rattle.blocks.specs.Tries.{look_order, looked_until, number_tried}

-- ---- the others, from class 0 up

-- All numbers of a run that does not hold the latest are others.
others_of_run : (latest start count : ℕ) → ((j : ℕ) → j < count → start + j ≡ latest → ⊥) → keep (λ class. not (eqb class latest)) (numbers_from start count) ≡ numbers_from start count
unfolding numbers_from keep
others_of_run latest start zero h = refl
others_of_run latest start (suc count) h =
    keep_passed (λ class. not (eqb class latest)) start (numbers_from (suc start) count) (ap not (ne_eqb start latest (λ e. h 0 (omega arith) (omega arith))))
    ∙ ap (λ l. start ∷ l) (others_of_run latest (suc start) count (λ j l e. h (suc j) (omega arith) (omega arith)))

module _ (known latest : ℕ) (is_known : latest < known) where
  abbrev rest : ℕ
  rest = known - suc latest

  -- The others are those before the latest and those behind it.
  others : keep (λ class. not (eqb class latest)) (numbers_from 0 known) ≡ numbers_from 0 latest ++ numbers_from (suc latest) rest
  unfolding numbers_from
  others =
      ap (λ n. keep (λ class. not (eqb class latest)) (numbers_from 0 n)) (let e : known ≡ latest + suc rest = omega arith in e)
      ∙ ap (keep (λ class. not (eqb class latest))) (range_add 0 latest (suc rest) ∙ ap (λ s. numbers_from 0 latest ++ numbers_from s (suc rest)) (zero-add latest))
      ∙ keep_append (λ class. not (eqb class latest)) (numbers_from 0 latest) (latest ∷ numbers_from (suc latest) rest)
      ∙ ap₂ ◌++◌
      (others_of_run latest 0 latest (λ j l e. omega arith))
      (keep_failed (λ class. not (eqb class latest)) latest (numbers_from (suc latest) rest) (ap not (eq-eqb latest latest refl)) ∙ others_of_run latest (suc latest) rest (λ j l e. omega arith))

  pub order_is : look_order known latest ≡ latest ∷ (numbers_from 0 latest ++ numbers_from (suc latest) rest)
  unfolding look_order
  order_is = by_count known refl
    where
      by_count : (k : ℕ) → known ≡ k → look_order known latest ≡ latest ∷ (numbers_from 0 latest ++ numbers_from (suc latest) rest)
      by_count zero e = absurd (let l = is_known in omega arith)
      by_count (suc k) e = ap (λ n. look_order n latest) e ∙ ap (λ l. latest ∷ l) (ap (λ n. keep (λ class. not (eqb class latest)) (numbers_from 0 n)) (sym e) ∙ others)

  -- As many are looked at as are known, at most.
  pub order_length : length (look_order known latest) ≡ known
  order_length =
      ap length order_is
      ∙ ap suc (length-append (numbers_from 0 latest) (numbers_from (suc latest) rest) ∙ ap₂ ◌+◌ (length_range 0 latest) (length_range (suc latest) rest))
      ∙ (let e : suc (latest + rest) ≡ known = omega arith in e)

  -- ---- the class in each turn

  pub first_turn : get_or (look_order known latest) 0 0 ≡ latest
  first_turn = ap (λ l. get_or l 0 0) order_is

  pub turn_below : (class : ℕ) → class < latest → get_or (look_order known latest) (suc class) 0 ≡ class
  turn_below class below =
      ap (λ l. get_or l (suc class) 0) order_is
      ∙ get_or-append (numbers_from 0 latest) (numbers_from (suc latest) rest) 0 class (rw length_range below)
      ∙ get_d_range 0 latest class 0 below
      ∙ zero-add class

  pub turn_above : (class : ℕ) → latest < class → class < known → get_or (look_order known latest) class 0 ≡ class
  turn_above class above below =
      ap (λ l. get_or l class 0) order_is
      ∙ ap (λ k. get_or (latest ∷ (numbers_from 0 latest ++ numbers_from (suc latest) rest)) k 0) (let e : class ≡ suc (latest + (class - suc latest)) = omega arith in e)
      ∙ ap (λ k. get_or (numbers_from 0 latest ++ numbers_from (suc latest) rest) (k + (class - suc latest)) 0) (sym (length_range 0 latest))
      ∙ get_or-append-add (numbers_from 0 latest) (numbers_from (suc latest) rest) (class - suc latest) 0
      ∙ get_d_range (suc latest) rest (class - suc latest) 0 (omega arith)
      ∙ (let e : suc latest + (class - suc latest) ≡ class = omega arith in e)

  -- Where the class of a turn stands: first, or behind the latest by one turn if it is before it, or else in the turn of its number.
  pub turn_cases : {X : Type 0} (turn : ℕ) → turn < known → (turn ≡ 0 → get_or (look_order known latest) turn 0 ≡ latest → X) → ((class : ℕ) → class < latest → turn ≡ suc class → get_or (look_order known latest) turn 0 ≡ class → X) → (latest < turn → get_or (look_order known latest) turn 0 ≡ turn → X) → X
  turn_cases zero below first early late = first refl first_turn
  turn_cases {X = X} (suc class) below first early late = before_or_behind (dec_lt class latest)
    where
      before_or_behind : Dec (class < latest) → X
      before_or_behind (yes l) = early class l refl (turn_below class l)
      before_or_behind (no l) = late (omega arith) (turn_above (suc class) (omega arith) below)

  -- Only known classes are looked at.
  pub looked_known : (turn : ℕ) → turn < known → get_or (look_order known latest) turn 0 < known
  looked_known turn below =
      turn_cases turn below
      (λ z e. rw e is_known)
      (λ class l s e. rw e (let k = is_known in omega arith))
      (λ l e. rw e below)

  -- Each of them in one turn,
  pub turn_of : (class : ℕ) → class < known → (turn : ℕ) × ((turn < known) × (get_or (look_order known latest) turn 0 ≡ class))
  turn_of class below = before_or_not (dec_lt class latest) (dec_lt latest class)
    where
      before_or_not : Dec (class < latest) → Dec (latest < class) → (turn : ℕ) × ((turn < known) × (get_or (look_order known latest) turn 0 ≡ class))
      before_or_not (yes l) late = (suc class, (let k = is_known in omega arith, turn_below class l))
      before_or_not (no l) (yes m) = (class, (below, turn_above class m below))
      before_or_not (no l) (no m) = (0, (omega arith, first_turn ∙ (let e : latest ≡ class = omega arith in e)))

  -- and in no second.
  pub one_turn : (left right : ℕ) → left < known → right < known → get_or (look_order known latest) left 0 ≡ get_or (look_order known latest) right 0 → left ≡ right
  one_turn left right l r e =
      turn_cases left l
      (λ z p. turn_cases right r (λ y q. omega arith) (λ c m s q. absurd (omega arith)) (λ m q. absurd (omega arith)))
      (λ c m s p. turn_cases right r (λ y q. absurd (omega arith)) (λ d n t q. omega arith) (λ n q. absurd (omega arith)))
      (λ m p. turn_cases right r (λ y q. absurd (omega arith)) (λ c n s q. absurd (omega arith)) (λ n q. omega arith))

-- ---- looking until a class is met

pub until_here : (class looked : ℕ) (order : List ℕ) → looked ≡ class → looked_until class (looked ∷ order) ≡ 1
unfolding looked_until
until_here class looked order e = rw (eq-eqb looked class e, looked_until)

pub until_later : (class looked : ℕ) (order : List ℕ) → (looked ≡ class → ⊥) → looked_until class (looked ∷ order) ≡ suc (looked_until class order)
unfolding looked_until
until_later class looked order h = rw (ne_eqb looked class h, looked_until)

-- The class is not met in the turns before this one.
unfoldable Unmet : ℕ → List ℕ → ℕ → Type 0
Unmet class order turn = (before : ℕ) → before < turn → get_or order before 0 ≡ class → ⊥

until_met : (class : ℕ) (order : List ℕ) (turn : ℕ) → turn < length order → Unmet class order turn → get_or order turn 0 ≡ class → looked_until class order ≡ turn + 1
unfolding Unmet
until_met class [] turn l u e = absurd (omega arith)
until_met class (looked ∷ order) zero l u e = until_here class looked order e
until_met class (looked ∷ order) (suc turn) l u e =
    until_later class looked order (u 0 (omega arith))
    ∙ ap suc (until_met class order turn (omega arith) (λ before m. u (suc before) (omega arith)) e)
    ∙ (let q : suc (turn + 1) ≡ suc turn + 1 = omega arith in q)

until_none : (class : ℕ) (order : List ℕ) → Unmet class order (length order) → looked_until class order ≡ length order
unfolding Unmet looked_until
until_none class [] u = refl
until_none class (looked ∷ order) u =
    until_later class looked order (u 0 (omega arith))
    ∙ ap suc (until_none class order (λ before m. u (suc before) (omega arith)))

-- ---- the number tried

-- Where no class is known, none is tried.
pub tried_none : (latest class : ℕ) → number_tried 0 latest class ≡ 0
unfolding number_tried look_order looked_until
tried_none latest class = refl

module _ (known latest : ℕ) (is_known : latest < known) where
  -- A class that is met in a turn is met in no turn before.
  met_in : (class turn : ℕ) → turn < known → get_or (look_order known latest) turn 0 ≡ class → Unmet class (look_order known latest) turn
  unfolding Unmet
  met_in class turn below e before l q = let s = one_turn known latest is_known before turn (omega arith) below (q ∙ sym e) in omega arith

  pub tried_in : (class turn : ℕ) → turn < known → get_or (look_order known latest) turn 0 ≡ class → number_tried known latest class ≡ turn + 1
  unfolding number_tried
  tried_in class turn below e = until_met class (look_order known latest) turn (rw (order_length known latest is_known) below) (met_in class turn below e) e

  -- A class that is not known takes all.
  pub tried_all : (class : ℕ) → known ≤ class → number_tried known latest class ≡ known
  unfolding number_tried Unmet
  tried_all class new =
      until_none class (look_order known latest) (λ before l e. let b = looked_known known latest is_known before (rw (order_length known latest is_known) at l) in omega arith)
      ∙ order_length known latest is_known

-- So does every class that is new, also where none is known.
pub tried_new : (known latest : ℕ) → (0 < known → latest < known) → (class : ℕ) → known ≤ class → number_tried known latest class ≡ known
tried_new zero latest among class new = tried_none latest class
tried_new (suc known) latest among class new = tried_all (suc known) latest (among (omega arith)) class new
