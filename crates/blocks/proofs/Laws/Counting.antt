-- Counting numbers one by one, left to right: what is known after each.
use Prim.Native.Nat.{ℕ, zero, suc, ◌+◌, ◌≤◌, ◌<◌}
use Rattle.std.specs.Prelude.{◌≡◌, refl, length, get_or, take, set, eqb, ltb}
use Rattle.std.proofs.Common.{sym, ◌∙◌, ap₂, zero-add, length-set, take-suc, get_or-take, get_or-set_same, get_or-set_other, length-take-le, eq-eqb, ne_eqb, lt-ltb, le-ltb}
use Rattle.std.proofs.Math.Path.{ap}
use mathlib.Core.List.{List, [], ◌∷◌, map}
use Rattle.std.proofs.Math.Decide.{dec_lt, ℕ_discrete}
use native.Mathlib.Omega.{arith}
use Rattle.std.proofs.Math.ListN.{get_or-eq_default}
use Rattle.numbers.specs.Lists.{numbers_from, tally, sum_of}
use Rattle.numbers.proofs.Laws.Tallies.{tally_nil, tally_passed, tally_failed, tally_le_length, tally_all, tally_append, sum_run_suc}
use Rattle.blocks.specs.Uses.{use_count, uses_at}
use Rattle.blocks.proofs.Laws.UseRows.{length_run, run_at}

-- ---- one block more

module _ (l : List ℕ) (j : ℕ) (below : j < length l) where
  -- The class of the block has one use more,
  pub own_use : use_count (take (suc j) l) (get_or l j 0) ≡ suc (use_count (take j l) (get_or l j 0))
  unfolding use_count
  own_use =
      ap (tally (eqb (get_or l j 0))) (take-suc l j 0 below)
      ∙ tally_append (eqb (get_or l j 0)) (take j l) (get_or l j 0 ∷ [])
      ∙ ap (λ more. tally (eqb (get_or l j 0)) (take j l) + more) (tally_passed (eqb (get_or l j 0)) (get_or l j 0) [] (eq-eqb (get_or l j 0) (get_or l j 0) refl) ∙ ap suc (tally_nil (eqb (get_or l j 0))))
      ∙ (let t = tally (eqb (get_or l j 0)) (take j l) in let e : t + 1 ≡ suc t = omega arith in e)

  -- and the others stay.
  pub other_use : (class : ℕ) → (class ≡ get_or l j 0 → ⊥) → use_count (take (suc j) l) class ≡ use_count (take j l) class
  unfolding use_count
  other_use class other =
      ap (tally (eqb class)) (take-suc l j 0 below)
      ∙ tally_append (eqb class) (take j l) (get_or l j 0 ∷ [])
      ∙ ap (λ more. tally (eqb class) (take j l) + more) (tally_failed (eqb class) (get_or l j 0) [] (ne_eqb class (get_or l j 0) other) ∙ tally_nil (eqb class))
      ∙ (let t = tally (eqb class) (take j l) in let e : t + 0 ≡ t = omega arith in e)

  -- The uses so far include the block.
  pub uses_include : uses_at l j ≡ suc (use_count (take j l) (get_or l j 0))
  unfolding uses_at
  uses_include = own_use

-- A number that no block has is not used.
pub unused : (class : ℕ) (l : List ℕ) → ((i : ℕ) → i < length l → class ≡ get_or l i 0 → ⊥) → use_count l class ≡ 0
unfolding use_count
unused class [] none = tally_nil (eqb class)
unused class (a ∷ l) none = tally_failed (eqb class) a l (ne_eqb class a (none 0 (omega arith))) ∙ unused class l (λ i m. none (suc i) (omega arith))

-- No more uses than blocks.
pub uses_most : (l : List ℕ) (class : ℕ) → use_count l class ≤ length l
unfolding use_count
uses_most l class = tally_le_length (eqb class) l

-- ---- the row of use counts on the way

module _ (l : List ℕ) (j known : ℕ) (below : j < length l) (few : known ≤ j) (seen : (i : ℕ) → i < j → get_or l i 0 < known) (class : ℕ) (is : class ≡ get_or l j 0) (most : class ≤ known) where
  -- A class that is not known has no use before the block.
  unseen : (other : ℕ) → known ≤ other → use_count (take j l) other ≡ 0
  unseen other new =
      unused other (take j l)
      (λ i m e.
      let i_below : i < j = (let t = length-take-le j l (omega arith) in omega arith) in
      let s = seen i i_below in
      let g = get_or-take j l i 0 i_below in
      omega arith)

  -- What the search answers from the use counts of the known classes.
  pub found_uses : get_or (map (use_count (take j l)) (numbers_from 0 known)) class 0 + 1 ≡ uses_at l j
  found_uses = old_or_new (dec_lt class known) ∙ sym (uses_include l j below)
    where
      old_or_new : Dec (class < known) → get_or (map (use_count (take j l)) (numbers_from 0 known)) class 0 + 1 ≡ suc (use_count (take j l) (get_or l j 0))
      old_or_new (yes old) =
          ap (λ m. m + 1) (run_at (use_count (take j l)) known class old ∙ ap (use_count (take j l)) is)
          ∙ (let t = use_count (take j l) (get_or l j 0) in let e : t + 1 ≡ suc t = omega arith in e)
      old_or_new (no new) =
          ap (λ m. m + 1) (get_or-eq_default (map (use_count (take j l)) (numbers_from 0 known)) 0 (rw length_run (omega arith)))
          ∙ sym (ap suc (ap (use_count (take j l)) (sym is) ∙ unseen class (omega arith)))

  module _ (row : List ℕ) (room : j < length row) (so_far : (k : ℕ) → k < j → get_or row k 0 ≡ use_count (take j l) k) where
    -- The row with a place for the block, and its class's uses in it.
    pub row_next : (k : ℕ) → k < suc j → get_or (set (set row j 0) class (uses_at l j)) k 0 ≡ use_count (take (suc j) l) k
    row_next k inside = own_or_other (ℕ_discrete k class)
      where
        last_or_before : (k ≡ class → ⊥) → Dec (k ≡ j) → get_or (set row j 0) k 0 ≡ use_count (take j l) k
        last_or_before other (yes e) = ap (λ m. get_or (set row j 0) m 0) e ∙ get_or-set_same row j 0 0 room ∙ sym (unseen k (omega arith))
        last_or_before other (no e) = get_or-set_other row j k 0 0 e ∙ so_far k (omega arith)

        own_or_other : Dec (k ≡ class) → get_or (set (set row j 0) class (uses_at l j)) k 0 ≡ use_count (take (suc j) l) k
        own_or_other (yes e) =
            ap (λ m. get_or (set (set row j 0) class (uses_at l j)) m 0) e
            ∙ get_or-set_same (set row j 0) class (uses_at l j) 0 (rw length-set (omega arith))
            ∙ uses_include l j below
            ∙ sym (own_use l j below)
            ∙ ap (use_count (take (suc j) l)) (sym is ∙ sym e)
        own_or_other (no e) =
            get_or-set_other (set row j 0) class k (uses_at l j) 0 e
            ∙ last_or_before e (ℕ_discrete k j)
            ∙ sym (other_use l j below k (λ q. e (q ∙ sym is)))

-- ---- all use counts together

-- Numbers below one more are those below, and that one.
below_more : (k : ℕ) (l : List ℕ) → tally (λ a. ltb a (suc k)) l ≡ tally (λ a. ltb a k) l + tally (eqb k) l
below_more k [] = tally_nil (λ a. ltb a (suc k)) ∙ sym (ap₂ ◌+◌ (tally_nil (λ a. ltb a k)) (tally_nil (eqb k)))
below_more k (a ∷ l) = below_or_not (below_more k l) (dec_lt a k) (ℕ_discrete k a)
  where
    below_or_not : tally (λ m. ltb m (suc k)) l ≡ tally (λ m. ltb m k) l + tally (eqb k) l → Dec (a < k) → Dec (k ≡ a) → tally (λ m. ltb m (suc k)) (a ∷ l) ≡ tally (λ m. ltb m k) (a ∷ l) + tally (eqb k) (a ∷ l)
    below_or_not rest (yes less) same =
        tally_passed (λ m. ltb m (suc k)) a l (lt-ltb a (suc k) (omega arith))
        ∙ ap suc rest
        ∙ (let x = tally (λ m. ltb m k) l in let y = tally (eqb k) l in let q : suc (x + y) ≡ suc x + y = omega arith in q)
        ∙ sym (ap₂ ◌+◌ (tally_passed (λ m. ltb m k) a l (lt-ltb a k less)) (tally_failed (eqb k) a l (ne_eqb k a (λ e. omega arith))))
    below_or_not rest (no less) (yes e) =
        tally_passed (λ m. ltb m (suc k)) a l (lt-ltb a (suc k) (omega arith))
        ∙ ap suc rest
        ∙ (let x = tally (λ m. ltb m k) l in let y = tally (eqb k) l in let q : suc (x + y) ≡ x + suc y = omega arith in q)
        ∙ sym (ap₂ ◌+◌ (tally_failed (λ m. ltb m k) a l (le-ltb a k (omega arith))) (tally_passed (eqb k) a l (eq-eqb k a e)))
    below_or_not rest (no less) (no e) =
        tally_failed (λ m. ltb m (suc k)) a l (le-ltb a (suc k) (omega arith))
        ∙ rest
        ∙ sym (ap₂ ◌+◌ (tally_failed (λ m. ltb m k) a l (le-ltb a k (omega arith))) (tally_failed (eqb k) a l (ne_eqb k a e)))

uses_below : (count : ℕ) (l : List ℕ) → sum_of (map (use_count l) (numbers_from 0 count)) ≡ tally (λ a. ltb a count) l
unfolding numbers_from sum_of use_count
uses_below zero l = sym (none_below l)
  where
    none_below : (l : List ℕ) → tally (λ a. ltb a 0) l ≡ 0
    none_below [] = tally_nil (λ a. ltb a 0)
    none_below (a ∷ l) = tally_failed (λ m. ltb m 0) a l (le-ltb a 0 (omega arith)) ∙ none_below l
uses_below (suc count) l =
    sum_run_suc (use_count l) 0 count
    ∙ ap₂ ◌+◌ (uses_below count l) (ap (λ k. tally (eqb k) l) (zero-add count))
    ∙ sym (below_more count l)

-- The use counts of all classes sum to the number of blocks.
pub uses_sum : (count : ℕ) (l : List ℕ) → ((i : ℕ) → i < length l → get_or l i 0 < count) → sum_of (map (use_count l) (numbers_from 0 count)) ≡ length l
uses_sum count l each = uses_below count l ∙ tally_all (λ a. ltb a count) 0 l (λ i m. lt-ltb (get_or l i 0) count (each i m))
