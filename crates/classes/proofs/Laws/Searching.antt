-- Searching the known classes: each is passed over, or found, or none is left; and what that says of the block's number.
use Prim.Native.Nat.{ℕ, suc, ◌+◌, ◌-◌, ◌≤◌, ◌<◌}
use Rattle.std.specs.Prelude.{◌≡◌, true, false, length, take, drop, ℤ}
use Rattle.std.proofs.Math.Path.{sym, ap, ap₂}
use Rattle.std.proofs.Common.{◌∙◌, true≢false, drop-cons}
use mathlib.Core.List.{List, [], ◌∷◌}
use Rattle.std.proofs.Math.Nat.{add-zero}
use Rattle.std.proofs.Math.Decide.{dec_lt}
use native.Mathlib.Omega.{arith}
use Rattle.std.proofs.Math.ListN.{get_or, length-drop}
use Rattle.std.proofs.lemmas.List.{length-map}
use Rattle.std.proofs.Math.Seq.{get_or-take, get_or-drop, length-take-le}
use Rattle.numbers.proofs.Laws.Lists.{get_d_map}
use Rattle.blocks.specs.Blocks.{differences}
use Rattle.blocks.specs.Classes.{same, number_in}
use Rattle.blocks.specs.Inner.Layout.{part}
use Rattle.blocks.proofs.Laws.Known.{number_here, number_later, number_le, number_at, number_by}
use Rattle.blocks.proofs.Laws.Same.{same_true, equal_same}
use Rattle.blocks.specs.Tries.{number_tried}
use Rattle.blocks.proofs.SearchTheorems.{tried_latest, tried_before_latest, tried_behind_latest}
use Rattle.blocks.proofs.Laws.Order.{tried_none, tried_new}
use Rattle.classes.specs.Inner.Searching.{part_differences, first_between, KnownClasses, found_between, looked_up}
use Rattle.std.proofs.lemmas.Option.{cond_some, none-some}
use Rattle.std.proofs.Common.{Some, None, Bool, ltb, cond, ltb-true, ltb-false, lt-ltb, le-ltb}
use Rattle.numbers.proofs.Laws.Bools.{yes_or_no}

-- ---- the differences of a list of parts, and of one of them

pub length_parts : (table : List ℤ) (size : ℕ) (parts : List ℕ) → length (part_differences table size parts) ≡ length parts
unfolding part_differences
length_parts table size parts = length-map parts (λ j. differences (part table size j))

pub part_at : (table : List ℤ) (size : ℕ) (parts : List ℕ) (k : ℕ) → k < length parts → get_or (part_differences table size parts) k [] ≡ differences (part table size (get_or parts k 0))
unfolding part_differences
part_at table size parts k h = get_d_map (λ j. differences (part table size j)) parts k 0 [] h

-- ---- from one number on and before another

module _ (known : List (List ℤ)) (d : List ℤ) where
  -- Where no list is left, it is the end.
  pub between_none : (to : ℕ) → first_between known to to d ≡ to
  unfolding first_between number_in
  between_none to = ap (λ n. to + number_in (take n (drop to known)) d) (let e : to - to ≡ 0 = omega arith in e) ∙ add-zero to

  module _ (class to : ℕ) (below : class < to) (inside : to ≤ length known) where
    -- The list that comes next, and those behind it.
    next_list : take (to - class) (drop class known) ≡ get_or known class [] ∷ take (to - suc class) (drop (suc class) known)
    next_list =
        ap (λ n. take n (drop class known)) (let e : to - class ≡ suc (to - suc class) = omega arith in e)
        ∙ ap (take (suc (to - suc class))) (drop-cons known class [] (omega arith))

    pub between_here : same (get_or known class []) d ≡ true → first_between known class to d ≡ class
    unfolding first_between
    between_here e = ap (λ l. class + number_in l d) next_list ∙ ap (λ n. class + n) (number_here (get_or known class []) (take (to - suc class) (drop (suc class) known)) d e) ∙ add-zero class

    pub between_later : same (get_or known class []) d ≡ false → first_between known class to d ≡ first_between known (class + 1) to d
    unfolding first_between
    between_later e =
        ap (λ l. class + number_in l d) next_list
        ∙ ap (λ n. class + n) (number_later (get_or known class []) (take (to - suc class) (drop (suc class) known)) d e)
        ∙ (let q : class + suc (number_in (take (to - suc class) (drop (suc class) known)) d) ≡ class + 1 + number_in (take (to - suc class) (drop (suc class) known)) d = omega arith in q)
        ∙ ap (λ n. class + 1 + number_in (take (to - n) (drop n known)) d) (let q : suc class ≡ class + 1 = omega arith in q)

  module _ (from to : ℕ) (some : from ≤ to) (inside : to ≤ length known) where
    looked : List (List ℤ)
    looked = take (to - from) (drop from known)

    looked_length : length looked ≡ to - from
    unfolding looked
    looked_length = length-take-le (to - from) (drop from known) (rw length-drop (omega arith))

    looked_at : (k : ℕ) → k < to - from → get_or looked k [] ≡ get_or known (from + k) []
    unfolding looked
    looked_at k l = get_or-take (to - from) (drop from known) k [] l ∙ get_or-drop from known k []

    pub between_from : from ≤ first_between known from to d
    unfolding first_between
    between_from = omega arith

    pub between_most : first_between known from to d ≤ to
    unfolding first_between looked
    between_most = let m = number_le looked d in let l = looked_length in omega arith

    -- What is found is equal,
    pub between_at : first_between known from to d < to → get_or known (first_between known from to d) [] ≡ d
    unfolding first_between looked
    between_at l = sym (looked_at (number_in looked d) (omega arith)) ∙ number_at looked d (rw looked_length (omega arith))

    -- and nothing before it is.
    pub between_by : (k : ℕ) → from ≤ k → k < to → get_or known k [] ≡ d → first_between known from to d ≤ k
    unfolding first_between looked
    between_by k l m e =
        let n = number_by looked d (k - from) (looked_at (k - from) (omega arith) ∙ ap (λ j. get_or known j []) (let q : from + (k - from) ≡ k = omega arith in q) ∙ e) in
        omega arith

  -- What is found, and that nothing is.
  module _ (from to : ℕ) where
    pub found_some : (class : ℕ) → found_between known from to d ≡ Some class → (class ≡ first_between known from to d) × (class < to)
    unfolding found_between
    found_some class e =
        let f = cond_some (ltb (first_between known from to d) to) (first_between known from to d) class e in
        (sym f.1, rw (← f.1) (ltb-true (first_between known from to d) to f.0))

    pub found_none : found_between known from to d ≡ None → to ≤ first_between known from to d
    unfolding found_between
    found_none e =
        yes_or_no (ltb (first_between known from to d) to)
        (λ l. absurd (none-some (first_between known from to d) (sym e ∙ ap (λ b. cond b (Some (first_between known from to d)) None) l)))
        (λ l. ltb-false (first_between known from to d) to l)

-- The search among first blocks, in turns: no class is left, the next one's first block is equal, or that class is passed over.
module _ (table : List ℤ) (size : ℕ) (firsts : List ℕ) (d : List ℤ) where
  abbrev parts : List (List ℤ)
  parts = part_differences table size firsts

  pub found_nothing : (to : ℕ) → found_between parts to to d ≡ None
  unfolding found_between
  found_nothing to = rw (between_none parts d to, le-ltb to to (omega arith))

  module _ (class to : ℕ) (below : class < to) (inside : to ≤ length firsts) where
    reach : to ≤ length parts
    reach = rw length_parts inside

    at : {b : Bool} → same (differences (part table size (get_or firsts class 0))) d ≡ b → same (get_or parts class []) d ≡ b
    at e = ap (λ l. same l d) (part_at table size firsts class (omega arith)) ∙ e

    pub found_here : same (differences (part table size (get_or firsts class 0))) d ≡ true → found_between parts class to d ≡ Some class
    unfolding found_between
    found_here e = rw (between_here parts d class to below reach (at e), lt-ltb class to below)

    pub found_later : same (differences (part table size (get_or firsts class 0))) d ≡ false → found_between parts class to d ≡ found_between parts (class + 1) to d
    unfolding found_between
    found_later e = rw (between_later parts d class to below reach (at e))

-- ---- the latest class, those before it, those behind it

module _ {table : List ℤ} {size : ℕ} {firsts : List ℕ} {latest : ℕ} (k : KnownClasses table size firsts latest) (values : List ℤ) where
  abbrev known : List (List ℤ)
  known = part_differences table size firsts

  abbrev d : List ℤ
  d = differences values

  -- The block's number among the known lists.
  abbrev number : ℕ
  number = number_in (part_differences table size firsts) (differences values)

  -- An equal list has it.
  has_number : (class : ℕ) → class < length firsts → get_or known class [] ≡ d → class ≡ number
  has_number class l e = sym (k.apart class l) ∙ ap (number_in known) e

  -- Where the number and the number tried are known, so is the answer.
  answer : (class tries : ℕ) → class ≡ number → number_tried (length firsts) latest number ≡ tries → record { class = class; tried = tries } ≡ looked_up known latest d
  unfolding looked_up
  answer class tries e t = ap₂ (λ c m. record { class = c; tried = m }) e (sym (rw length_parts t))

  -- Where no class is known, the block's is the first.
  pub first_class : length firsts ≡ 0 → record { class = 0; tried = 0 } ≡ looked_up known latest d
  first_class none = answer 0 0 (let m : number ≤ length firsts = rw length_parts at (number_le known d) in omega arith) (rw none (tried_none latest number))

  module _ (some : length firsts ≡ 0 → ⊥) where
    pub latest_known : latest < length firsts
    latest_known = k.among (omega arith)

    -- The latest class is the block's,
    pub latest_found : same (differences (part table size (get_or firsts latest 0))) d ≡ true → record { class = latest; tried = 1 } ≡ looked_up known latest d
    latest_found e =
        let is = has_number latest latest_known (part_at table size firsts latest latest_known ∙ same_true (differences (part table size (get_or firsts latest 0))) d e) in
        answer latest 1 is (ap (number_tried (length firsts) latest) (sym is) ∙ tried_latest (length firsts) latest latest_known)

    -- or one before it,
    pub before_found : (class : ℕ) → class ≡ first_between known 0 latest d → class < latest → record { class = class; tried = class + 2 } ≡ looked_up known latest d
    before_found class found l =
        let few : latest ≤ length known = rw length_parts (let m = latest_known in omega arith) in
        let is = has_number class (let m = latest_known in omega arith) (ap (λ c. get_or known c []) found ∙ between_at known d 0 latest (omega arith) few (omega arith)) in
        answer class (class + 2) is (ap (number_tried (length firsts) latest) (sym is) ∙ tried_before_latest (length firsts) latest latest_known class l)

    -- or one behind it,
    pub behind_found : (class : ℕ) → class ≡ first_between known (latest + 1) (length firsts) d → class < length firsts → record { class = class; tried = class + 1 } ≡ looked_up known latest d
    behind_found class found l =
        let all : length firsts ≤ length known = rw length_parts (omega arith) in
        let from = between_from known d (latest + 1) (length firsts) (let m = latest_known in omega arith) all in
        let is = has_number class l (ap (λ c. get_or known c []) found ∙ between_at known d (latest + 1) (length firsts) (let m = latest_known in omega arith) all (omega arith)) in
        answer class (class + 1) is (ap (number_tried (length firsts) latest) (sym is) ∙ tried_behind_latest (length firsts) latest latest_known class (omega arith) l)

    -- or else it is new.
    pub none_found : same (differences (part table size (get_or firsts latest 0))) d ≡ false → latest ≤ first_between known 0 latest d → (class : ℕ) → class ≡ first_between known (latest + 1) (length firsts) d → length firsts ≤ class → record { class = class; tried = class } ≡ looked_up known latest d
    none_found other none_before class found none_behind =
        let is : class ≡ number = all ∙ sym new in
        answer class class is (ap (number_tried (length firsts) latest) (sym is) ∙ tried_new (length firsts) latest k.among class none_behind ∙ sym all)
      where
        reach : length firsts ≤ length known
        reach = rw length_parts (omega arith)

        all : class ≡ length firsts
        all = let m = between_most known d (latest + 1) (length firsts) (let m = latest_known in omega arith) reach in omega arith

        -- A known number would be met before, at or behind the latest.
        unknown : number < length firsts → ⊥
        unknown l = met (dec_lt number latest) (dec_lt latest number)
          where
            stands : get_or known number [] ≡ d
            stands = number_at known d (rw length_parts l)

            met : Dec (number < latest) → Dec (latest < number) → ⊥
            met (yes early) late = let m = between_by known d 0 latest (omega arith) (let m = latest_known in let r = reach in omega arith) number (omega arith) early stands in omega arith
            met (no early) (yes late) = let m = between_by known d (latest + 1) (length firsts) (let m = latest_known in omega arith) reach number (omega arith) l stands in omega arith
            met (no early) (no late) =
                let e : latest ≡ number = omega arith in
                true≢false (sym (equal_same (differences (part table size (get_or firsts latest 0))) d (sym (part_at table size firsts latest latest_known) ∙ ap (λ c. get_or known c []) e ∙ stands)) ∙ other)

        new : number ≡ length firsts
        new = known_or_new (dec_lt number (length firsts))
          where
            known_or_new : Dec (number < length firsts) → number ≡ length firsts
            known_or_new (yes l) = absurd (unknown l)
            known_or_new (no l) = let m : number ≤ length firsts = rw length_parts at (number_le known d) in omega arith

    -- The same, by what is found.
    pub some_before : (class : ℕ) → found_between known 0 latest d ≡ Some class → record { class = class; tried = class + 2 } ≡ looked_up known latest d
    some_before class e = let f = found_some known d 0 latest class e in before_found class f.0 f.1

    pub some_behind : (class : ℕ) → found_between known (latest + 1) (length firsts) d ≡ Some class → record { class = class; tried = class + 1 } ≡ looked_up known latest d
    some_behind class e = let f = found_some known d (latest + 1) (length firsts) class e in behind_found class f.0 f.1

    pub none_known : same (differences (part table size (get_or firsts latest 0))) d ≡ false → found_between known 0 latest d ≡ None → found_between known (latest + 1) (length firsts) d ≡ None → record { class = length firsts; tried = length firsts } ≡ looked_up known latest d
    none_known other before behind =
        let most = between_most known d (latest + 1) (length firsts) (let m = latest_known in omega arith) (rw length_parts (omega arith)) in
        let least = found_none known d (latest + 1) (length firsts) behind in
        none_found other (found_none known d 0 latest before) (length firsts) (omega arith) (omega arith)
