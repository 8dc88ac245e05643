-- Classing lists one by one, left to right: what is known after each, in the row of numbers and in the row of first places.
use Prim.Native.Nat.{ℕ, zero, suc, ◌+◌, ◌-◌, ◌≤◌, ◌<◌}
use Rattle.std.specs.Prelude.{◌≡◌, refl, get_or, drop, ℤ}
use Rattle.std.proofs.Math.Path.{sym, ap}
use Rattle.std.proofs.Common.{◌∙◌, ap₂, arith, take-suc, get_or-take, length-take-le, take-take, eq-eqb, ne_eqb}
use mathlib.Core.List.{List, [], ◌∷◌, ◌++◌, map, map-append, append_assoc}
use Rattle.std.proofs.Math.Decide.{dec_lt}
use Rattle.std.proofs.Math.ListN.{length, take, set, length-append, length-map}
use Rattle.std.proofs.Math.Seq.{take-suc-set, take-set-lt, split_at, take-length}
use Rattle.numbers.specs.Lists.{padded}
use Rattle.numbers.proofs.Laws.Lists.{get_d_map}
use Rattle.numbers.proofs.Laws.Padding.{take_padded, padded_suc, set_padded}
use Rattle.blocks.specs.Classes.{number_in, learn, learn_all, distinct}
use Rattle.blocks.specs.Rows.{numbers_of, firsts_of}
use Rattle.blocks.specs.Tries.{block_class, known_before}
use Rattle.blocks.proofs.Laws.Latest.{none_before, class_most}
use Rattle.classes.specs.Inner.Finding.{firsts_before}
use Rattle.classes.specs.Inner.Noting.{latest_class, count_noted, firsts_noted}
use Rattle.classes.proofs.Laws.Uses.{known_few}
use Rattle.blocks.proofs.Laws.Known.{number_le, number_at, number_append, number_new, learn_known, learn_new, known_or_new, learn_all_append, number_when_met, distinct_known}

-- What the rows of numbers and of first places hold after the first j lists.
pub record Classed (ds : List (List ℤ)) (j count : ℕ) (numbers firsts : List ℕ) : Type 0 where
  pub known : count ≡ known_before ds j
  pub numbered : take j numbers ≡ map (number_in (distinct ds)) (take j ds)
  pub placed : take j firsts ≡ padded j 0 (firsts_before ds j)

pub none_classed : (ds : List (List ℤ)) (numbers firsts : List ℕ) → Classed ds 0 0 numbers firsts
unfolding known_before firsts_before distinct learn_all padded
none_classed ds numbers firsts = record { known = refl; numbered = refl; placed = refl }

module _ (ds : List (List ℤ)) (j : ℕ) (below : j < length ds) where
  abbrev next : List ℤ
  next = get_or ds j []

  abbrev before : List (List ℤ)
  before = distinct (take j ds)

  -- The list before and the next are the lists so far.
  learn_next : distinct (take (suc j) ds) ≡ learn before next
  unfolding distinct learn_all
  learn_next = ap (learn_all []) (take-suc ds j [] below) ∙ learn_all_append [] (take j ds) (get_or ds j [] ∷ [])

  take_length_j : length (take j ds) ≡ j
  take_length_j = length-take-le j ds (omega arith)

  -- A list that is new among the known appears first at its own place.
  new_place : length before ≤ number_in before next → number_in ds next ≡ j
  new_place new =
      ap (λ l. number_in l d) (split_at ds j [] below ∙ sym (append_assoc (take j ds) (d ∷ []) (drop (suc j) ds)))
      ∙ number_append (take j ds ++ d ∷ []) (drop (suc j) ds) d (rw (fresh, length-append, take_length_j) (omega arith))
      ∙ fresh
    where
      d : List ℤ
      d = get_or ds j []

      unseen : length (take j ds) ≤ number_in (take j ds) d
      unseen = at_most (dec_lt (number_in (take j ds) d) (length (take j ds)))
        where
          at_most : Dec (number_in (take j ds) d < length (take j ds)) → length (take j ds) ≤ number_in (take j ds) d
          at_most (yes l) =
              absurd
              (let m = distinct_known (take j ds) (number_in (take j ds) d) l in
              let k : number_in (distinct (take j ds)) d < length (distinct (take j ds)) = rw (number_at (take j ds) d l) at m in
              omega arith)
          at_most (no l) = omega arith

      fresh : number_in (take j ds ++ d ∷ []) d ≡ j
      fresh = number_new (take j ds) d unseen ∙ take_length_j

  module _ (count : ℕ) (numbers firsts : List ℕ) (class : ℕ) (c : Classed ds j count numbers firsts) (is : class ≡ number_in before next) (room_n : j < length numbers) (room_f : j < length firsts) where
    -- The row of numbers with the class at its end.
    numbered_next : take (suc j) (set numbers j class) ≡ map (number_in (distinct ds)) (take (suc j) ds)
    numbered_next =
        take-suc-set numbers j class room_n
        ∙ ap₂ (λ l k. l ++ k ∷ []) c.numbered (is ∙ sym (number_when_met ds j below))
        ∙ sym (map-append (number_in (distinct ds)) (take j ds) (get_or ds j [] ∷ []))
        ∙ ap (map (number_in (distinct ds))) (sym (take-suc ds j [] below))

    -- One place more in the row of first places.
    row : take (suc j) (set firsts j 0) ≡ padded (suc j) 0 (map (number_in ds) before)
    unfolding known_before firsts_before
    row =
        take-suc-set firsts j 0 room_f
        ∙ ap (λ l. l ++ 0 ∷ []) c.placed
        ∙ sym (padded_suc 0 j (map (number_in ds) before) (rw length-map (known_few ds j below)))

    classed_known : number_in before next < length before → Classed ds (suc j) (count_noted count class) (set numbers j class) (firsts_noted firsts count j class)
    unfolding known_before firsts_before count_noted firsts_noted
    classed_known old =
        let other : class ≡ count → ⊥ = (λ e. let k = c.known in omega arith) in
        record {
          known = rw (ne_eqb class count other) (c.known ∙ ap length (sym (learn_next ∙ learn_known before next old)));
          numbered = numbered_next;
          placed = rw (ne_eqb class count other) (row ∙ ap (λ l. padded (suc j) 0 (map (number_in ds) l)) (sym (learn_next ∙ learn_known before next old)));
        }

    classed_new : length before ≤ number_in before next → Classed ds (suc j) (count_noted count class) (set numbers j class) (firsts_noted firsts count j class)
    unfolding known_before firsts_before count_noted firsts_noted
    classed_new new =
        let l = map (number_in ds) before in
        let e : class ≡ count = (let k = c.known in let m = number_le before next in omega arith) in
        let grown : distinct (take (suc j) ds) ≡ before ++ next ∷ [] = learn_next ∙ learn_new before next new in
        let few : count ≤ j = (let k = c.known in let b = known_few ds j below in omega arith) in
        record {
          known = rw (eq-eqb class count e) (ap (λ n. n + 1) c.known ∙ sym (ap length grown ∙ length-append before (next ∷ [])));
          numbered = numbered_next;
          placed =
              rw (eq-eqb class count e)
              (take-set-lt (suc j) (set firsts j 0) count j (omega arith)
              ∙ ap (λ r. set r count j) row
              ∙ ap (λ n. set (padded (suc j) 0 l) n j) (c.known ∙ sym (length-map before (number_in ds)))
              ∙ set_padded 0 (suc j) l j (rw length-map (let b = known_few ds j below in omega arith))
              ∙ ap (λ k. padded (suc j) 0 (l ++ k ∷ [])) (sym (new_place new))
              ∙ ap (padded (suc j) 0) (sym (map-append (number_in ds) before (next ∷ [])) ∙ ap (map (number_in ds)) (sym grown)));
        }

    -- The rows after one list more.
    pub classed_next : Classed ds (suc j) (count_noted count class) (set numbers j class) (firsts_noted firsts count j class)
    classed_next = known_or_new before next classed_known classed_new

module _ (ds : List (List ℤ)) (j count : ℕ) (numbers firsts : List ℕ) (below : j < length ds) (c : Classed ds j count numbers firsts) where
  -- The first places of the known classes, without the places behind them.
  pub known_places : take count firsts ≡ firsts_before ds j
  unfolding known_before firsts_before
  known_places =
      sym (take-take count j firsts (rw c.known (known_few ds j below)))
      ∙ ap (take count) c.placed
      ∙ ap (λ n. take n (padded j 0 places)) (c.known ∙ sym (length-map (distinct (take j ds)) (number_in ds)))
      ∙ take_padded 0 j places
    where
      places : List ℕ
      places = map (number_in ds) (distinct (take j ds))

-- The latest class is that of the list just before.
pub latest_is : (ds : List (List ℤ)) (j count : ℕ) (numbers firsts : List ℕ) → j < length ds → Classed ds j count numbers firsts → latest_class numbers j ≡ block_class ds (j - 1)
unfolding latest_class block_class
latest_is ds zero count numbers firsts below c = let m = class_most ds 0 below in let z = none_before ds in let e : 0 ≡ block_class ds (0 - 1) = omega arith in e
latest_is ds (suc before) count numbers firsts below c =
    sym (get_or-take (suc before) numbers before 0 (omega arith))
    ∙ ap (λ l. get_or l before 0) c.numbered
    ∙ get_d_map (number_in (distinct ds)) (take (suc before) ds) before [] 0 (rw (length-take-le (suc before) ds (omega arith)) (omega arith))
    ∙ ap (number_in (distinct ds)) (get_or-take (suc before) ds before [] (omega arith))
    ∙ ap (block_class ds) (let e : before ≡ suc before - 1 = omega arith in e)

-- When all lists are classed, the rows are whole.
pub all_classed : (ds : List (List ℤ)) (count : ℕ) (numbers firsts : List ℕ) → length numbers ≡ length ds → length firsts ≡ length ds → Classed ds (length ds) count numbers firsts → (count ≡ length (distinct ds)) × ((numbers ≡ numbers_of ds) × (firsts ≡ firsts_of (length ds) ds))
unfolding known_before firsts_before numbers_of firsts_of
all_classed ds count numbers firsts eN eF c = (
  c.known ∙ ap (λ l. length (distinct l)) (take-length ds),
  (
    sym (ap (λ n. take n numbers) (sym eN) ∙ take-length numbers) ∙ c.numbered ∙ ap (map (number_in (distinct ds))) (take-length ds),
    sym (ap (λ n. take n firsts) (sym eF) ∙ take-length firsts) ∙ c.placed ∙ ap (λ l. padded (length ds) 0 (map (number_in ds) (distinct l))) (take-length ds),
  ),
)
