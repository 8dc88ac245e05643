-- What stands where in the rows of all cuts: a block's class, a class's first block, and a cut's number of classes.
use Prim.Native.Nat.{ℕ, zero, suc, ◌+◌, ◌-◌, ◌^◌, ◌≤◌, ◌<◌}
use Rattle.std.specs.Prelude.{◌≡◌, take, drop, ℤ}
use Rattle.std.proofs.Math.Path.{refl, sym, ap, ap₂}
use Rattle.std.proofs.Common.{◌∙◌, get_or-append-add, take_at, drop_at, pow_mono}
use mathlib.Core.List.{List, [], ◌∷◌, ◌++◌, map, flat_map, append-nil}
use Rattle.std.proofs.Math.Nat.{zero-add, two-pow-succ}
use native.Mathlib.Omega.{arith}
use Rattle.std.proofs.Math.ListN.{length, get_or, length-map, length-append, get_or-append}
use Rattle.std.proofs.Math.Pow.{pow_pos}
use Rattle.numbers.specs.Lists.{numbers_from, padded}
use Rattle.numbers.proofs.Laws.Lists.{range_suc, length_range, get_d_range, get_d_map}
use Rattle.numbers.proofs.Laws.Padding.{padded_free}
use Rattle.numbers.proofs.Laws.Selections.{flat_map_append, range_add}
use Rattle.blocks.specs.Blocks.{block, differences}
use Rattle.blocks.specs.Rows.{cut_place, in_row, numbers_of, firsts_of, cut_numbers, cut_firsts, FirstOf, all_numbers, all_firsts, all_counts}
use Rattle.blocks.specs.Inner.Layout.{class_at}
use Rattle.blocks.specs.Classes.{number_in, distinct, classes, class_count, class_of}
use Rattle.blocks.proofs.Laws.Classes.{cut_differences, cut_length, cut_at, class_stands, class_count_le}
use Rattle.blocks.proofs.Laws.Cuts.{length_cut_numbers, length_cut_firsts}
use Rattle.blocks.proofs.Laws.Known.{number_at, number_by, own_distinct, Among, distinct_seen}

-- ---- one cut among all

-- Cuts of 2^h places each, one after the other.
module _ (f : ℕ → List ℕ) (n : ℕ) (sizes : (h : ℕ) → h ≤ n → length (f h) ≡ 2 ^ h) where
  cuts_length : (h : ℕ) → h ≤ suc n → length (flat_map f (numbers_from 0 h)) ≡ cut_place h
  unfolding numbers_from flat_map cut_place
  cuts_length zero l = refl
  cuts_length (suc h) l =
      ap length (ap (flat_map f) (range_suc 0 h ∙ ap (λ k. numbers_from 0 h ++ k ∷ []) (zero-add h)) ∙ flat_map_append f (numbers_from 0 h) (h ∷ []))
      ∙ length-append (flat_map f (numbers_from 0 h)) (f h ++ [])
      ∙ ap₂ (λ a b. a + b) (cuts_length h (omega arith)) (ap length (append-nil (f h)) ∙ sizes h (omega arith))
      ∙ (let e : 2 ^ h - 1 + 2 ^ h ≡ 2 ^ suc h - 1 = omega (arith, two-pow-succ h, pow_pos h) in e)

  pub row_length : length (flat_map f (numbers_from 0 (suc n))) ≡ cut_place (suc n)
  row_length = cuts_length (suc n) (omega arith)

  -- A cut between those above it and those below.
  split : (h : ℕ) → h ≤ n → flat_map f (numbers_from 0 (suc n)) ≡ flat_map f (numbers_from 0 h) ++ (f h ++ flat_map f (numbers_from (suc h) (n - h)))
  unfolding numbers_from flat_map
  split h l =
      ap (λ c. flat_map f (numbers_from 0 c)) (let e : suc n ≡ h + suc (n - h) = omega arith in e)
      ∙ ap (flat_map f) (range_add 0 h (suc (n - h)) ∙ ap (λ s. numbers_from 0 h ++ numbers_from s (suc (n - h))) (zero-add h))
      ∙ flat_map_append f (numbers_from 0 h) (numbers_from h (suc (n - h)))

  pub row_at : (h k : ℕ) → h ≤ n → k < 2 ^ h → get_or (flat_map f (numbers_from 0 (suc n))) (cut_place h + k) 0 ≡ get_or (f h) k 0
  row_at h k l m =
      ap₂ (λ r a. get_or r (a + k) 0) (split h l) (sym (cuts_length h (omega arith)))
      ∙ get_or-append-add (flat_map f (numbers_from 0 h)) (f h ++ flat_map f (numbers_from (suc h) (n - h))) k 0
      ∙ get_or-append (f h) (flat_map f (numbers_from (suc h) (n - h))) 0 k (rw (sizes h l) m)

  -- The places of a cut hold its own row.
  pub row_part : (h : ℕ) → h ≤ n → take (2 ^ h) (drop (cut_place h) (flat_map f (numbers_from 0 (suc n)))) ≡ f h
  row_part h l =
      ap (λ r. take (2 ^ h) (drop (cut_place h) r)) (split h l)
      ∙ ap (take (2 ^ h)) (drop_at (flat_map f (numbers_from 0 h)) (f h ++ flat_map f (numbers_from (suc h) (n - h))) (cut_place h) (cuts_length h (omega arith)))
      ∙ take_at (f h) (flat_map f (numbers_from (suc h) (n - h))) (2 ^ h) (sizes h l)

-- A place in a cut is a place in the row.
pub place_inside : (n h k : ℕ) → h ≤ n → k < 2 ^ h → cut_place h + k < cut_place (suc n)
unfolding cut_place
place_inside n h k l m = let p : 2 ^ suc h ≤ 2 ^ suc n = pow_mono (omega arith) in omega (arith, two-pow-succ h, pow_pos h)

-- Each class is that of some block.
class_seen : (n : ℕ) (table : List ℤ) (h c : ℕ) → c < class_count n table h → (j : ℕ) × ((j < length (cut_differences n table h)) × (get_or (cut_differences n table h) j [] ≡ class_at n table h c))
unfolding class_at class_count classes cut_differences Among
class_seen n table h c l = distinct_seen (cut_differences n table h) c l

module _ (n : ℕ) (table : List ℤ) where
  pub length_numbers : length (all_numbers n table) ≡ cut_place (suc n)
  unfolding all_numbers
  length_numbers = row_length (cut_numbers n table) n (λ h l. length_cut_numbers n h l table)

  pub length_firsts : length (all_firsts n table) ≡ cut_place (suc n)
  unfolding all_firsts
  length_firsts = row_length (cut_firsts n table) n (λ h l. length_cut_firsts n h l table)

  pub length_counts : length (all_counts n table) ≡ suc n
  unfolding all_counts
  length_counts = length-map (numbers_from 0 (suc n)) (class_count n table) ∙ length_range 0 (suc n)

  pub count_at : (h : ℕ) → h ≤ n → get_or (all_counts n table) h 0 ≡ class_count n table h
  unfolding all_counts
  count_at h l =
      get_d_map (class_count n table) (numbers_from 0 (suc n)) h 0 0 (rw length_range (omega arith))
      ∙ ap (class_count n table) (get_d_range 0 (suc n) h 0 (omega arith) ∙ zero-add h)

  module _ (h : ℕ) (cut : h ≤ n) where
    -- The class of block j.
    pub class_at_lem : (j : ℕ) → j < 2 ^ h → get_or (all_numbers n table) (cut_place h + j) 0 ≡ class_of n table h (block table (n - h) j)
    unfolding all_numbers cut_numbers numbers_of class_of classes cut_differences
    class_at_lem j l =
        row_at (cut_numbers n table) n (λ k m. length_cut_numbers n k m table) h j cut l
        ∙ get_d_map (number_in (distinct (cut_differences n table h))) (cut_differences n table h) j [] 0 (rw (cut_length n table h cut) l)
        ∙ ap (number_in (distinct (cut_differences n table h))) (cut_at n table h cut j l)

    -- The first block of class c.
    first_is : (c : ℕ) → c < class_count n table h → get_or (all_firsts n table) (cut_place h + c) 0 ≡ number_in (cut_differences n table h) (class_at n table h c)
    unfolding all_firsts cut_firsts firsts_of padded class_at class_count classes cut_differences
    first_is c l =
        row_at (cut_firsts n table) n (λ k m. length_cut_firsts n k m table) h c cut (let m = class_count_le n table h cut in omega arith)
        ∙ get_or-append (map (number_in (cut_differences n table h)) (distinct (cut_differences n table h))) _ 0 c (rw length-map l)
        ∙ get_d_map (number_in (cut_differences n table h)) (distinct (cut_differences n table h)) c [] 0 l

    pub first_block : (c : ℕ) → c < class_count n table h → (get_or (all_firsts n table) (cut_place h + c) 0 < 2 ^ h) × (differences (block table (n - h) (get_or (all_firsts n table) (cut_place h + c) 0)) ≡ class_at n table h c)
    first_block c l = rw (first_is c l) (inside, sym (cut_at n table h cut (number_in (cut_differences n table h) (class_at n table h c)) inside) ∙ number_at (cut_differences n table h) (class_at n table h c) known)
      where
        known : number_in (cut_differences n table h) (class_at n table h c) < length (cut_differences n table h)
        known = let s = class_seen n table h c l in let p = s.1.0 in let b = number_by (cut_differences n table h) (class_at n table h c) s.0 s.1.1 in omega arith

        inside : number_in (cut_differences n table h) (class_at n table h c) < 2 ^ h
        inside = rw (cut_length n table h cut) at known

    -- It is the first that has the class;
    pub first_of : (c : ℕ) → c < class_count n table h → FirstOf n table h c (in_row (all_firsts n table) h c)
    unfolding class_of class_count classes cut_differences class_at
    first_of c l =
        let f = first_block c l in
        record {
          inside = f.0;
          has = ap (number_in (classes n table h)) f.1 ∙ own_distinct (cut_differences n table h) c l;
          none_before = λ before b e.
              let inside : before < 2 ^ h = (let i = f.0 in omega arith) in
              let alike = cut_at n table h cut before inside ∙ sym (class_stands n table h cut before inside) ∙ ap (λ k. get_or (classes n table h) k []) e in
              let least = number_by (cut_differences n table h) (class_at n table h c) before alike in
              let is = first_is c l in
              omega arith;
        }

    -- past the last class stands 0.
    pub no_first : (c : ℕ) → class_count n table h ≤ c → c < 2 ^ h → in_row (all_firsts n table) h c ≡ 0
    unfolding all_firsts cut_firsts firsts_of class_count classes cut_differences
    no_first c past l =
        row_at (cut_firsts n table) n (λ k m. length_cut_firsts n k m table) h c cut l
        ∙ padded_free 0 (2 ^ h) (map (number_in (cut_differences n table h)) (distinct (cut_differences n table h))) c (rw length-map past)
