-- Uses so far, use counts and the commonest class: of blocks given by their classes, of a cut, and as they stand in the rows of all cuts.
use Prim.Native.Nat.{ℕ, zero, suc, ◌+◌, ◌-◌, ◌^◌, ◌≤◌, ◌<◌}
use Rattle.std.specs.Prelude.{◌≡◌, take, drop, eqb, ℤ}
use Rattle.std.proofs.Math.Path.{refl, sym, ap}
use Rattle.std.proofs.Common.{◌∙◌, true≢false, take-append-drop, get_or-take, length-take-le, pow_pos, eq-eqb}
use mathlib.Core.List.{List, [], ◌∷◌}
use Rattle.std.proofs.Math.Decide.{dec_lt, ℕ_discrete}
use native.Mathlib.Omega.{arith}
use Rattle.std.proofs.Math.ListN.{length, get_or, length-drop, get_or-eq_default}
use Rattle.std.proofs.Math.Seq.{get_or-drop}
use Rattle.numbers.specs.Lists.{numbers_from, sum_of}
use Rattle.numbers.proofs.Laws.Tallies.{none_passes, tally_append}
use Rattle.blocks.specs.Blocks.{block}
use Rattle.blocks.specs.Classes.{class_count, class_of}
use Rattle.blocks.specs.Rows.{cut_place, in_row, use_row, cut_use_row, all_numbers, all_uses, all_use_rows}
use Rattle.blocks.proofs.Laws.Classes.{class_below, class_used, class_count_le, one_class_at_top, one_class_at_bottom}
use Rattle.blocks.proofs.Laws.Places.{row_at, row_part, class_at_lem}
use Rattle.blocks.specs.Uses.{use_count, uses_at, classes_at, cut_uses, use_counts, commonest, commonest_at}
use Rattle.blocks.specs.declared.Common.{Common}
use Rattle.blocks.proofs.Laws.Commonest.{commonest_leads, leading_is}
use Rattle.blocks.proofs.Laws.Counting.{uses_include, unused, uses_sum}
use Rattle.blocks.proofs.Laws.UseRows.{length_classes, class_of_block, uses_at_lem, length_cut_uses, length_cut_use_row, cut_use_row_at, length_use_counts, use_count_at}

-- ---- blocks given by their classes

module _ (classes : List ℕ) (j : ℕ) (below : j < length classes) where
  -- The block itself is counted: one more than have its class before it,
  pub block_included : uses_at classes j ≡ 1 + use_count (take j classes) (get_or classes j 0)
  block_included = uses_include classes j below ∙ (let t = use_count (take j classes) (get_or classes j 0) in let e : suc t ≡ 1 + t = omega arith in e)

  -- so 1 at the first block of a class,
  pub first_use : ((before : ℕ) → before < j → ¬ (get_or classes j 0 ≡ get_or classes before 0)) → uses_at classes j ≡ 1
  first_use none =
      uses_include classes j below
      ∙ ap suc (unused (get_or classes j 0) (take j classes) (λ i m e. let i_below : i < j = (let t = length-take-le j classes (omega arith) in omega arith) in none i i_below (e ∙ get_or-take j classes i 0 i_below)))

  -- and at the last one its use count.
  pub last_use : ((behind : ℕ) → j < behind → behind < length classes → ¬ (get_or classes j 0 ≡ get_or classes behind 0)) → uses_at classes j ≡ use_count classes (get_or classes j 0)
  unfolding uses_at use_count
  last_use none =
      (let t = use_count (take (suc j) classes) (get_or classes j 0) in let e : t ≡ t + 0 = omega arith in e)
      ∙ ap (λ more. use_count (take (suc j) classes) (get_or classes j 0) + more)
      (sym (unused (get_or classes j 0) (drop (suc j) classes) (λ i m e. let inside : i < length classes - suc j = rw length-drop at m in none (suc j + i) (omega arith) (omega arith) (e ∙ get_or-drop (suc j) classes i 0))))
      ∙ sym (tally_append (eqb (get_or classes j 0)) (take (suc j) classes) (drop (suc j) classes))
      ∙ ap (λ all. use_count all (get_or classes j 0)) (take-append-drop (suc j) classes)

-- The class of a block is used.
pub some_use : (classes : List ℕ) (j : ℕ) → j < length classes → 0 < use_count classes (get_or classes j 0)
unfolding use_count
some_use classes j below = used (ℕ_discrete (use_count classes (get_or classes j 0)) 0)
  where
    used : Dec (use_count classes (get_or classes j 0) ≡ 0) → 0 < use_count classes (get_or classes j 0)
    used (yes none) = absurd (true≢false (sym (eq-eqb (get_or classes j 0) (get_or classes j 0) refl) ∙ none_passes (eqb (get_or classes j 0)) 0 classes none j below))
    used (no some) = omega arith

-- ---- a cut

module _ (n : ℕ) (table : List ℤ) (h : ℕ) (cut : h ≤ n) where
  abbrev block_classes : List ℕ
  block_classes = classes_at n table h

  -- The use counts of a cut sum to 2^h, the number of its blocks.
  pub use_counts_sum : sum_of (use_counts n table h) ≡ 2 ^ h
  unfolding use_counts
  use_counts_sum =
      uses_sum (class_count n table h) block_classes
      (λ i m. let l : i < 2 ^ h = rw (length_classes n table h cut) at m in rw (class_of_block n table h cut i l) (class_below n table h cut i l))
      ∙ length_classes n table h cut

  -- Each class is used.
  pub each_class_used : (class : ℕ) → class < class_count n table h → 0 < use_count block_classes class
  each_class_used class known =
      let u = class_used n table h cut class known in
      let l : u.0 < length block_classes = rw (length_classes n table h cut) u.1.0 in
      rw (class_of_block n table h cut u.0 u.1.0 ∙ u.1.1) at (some_use block_classes u.0 l)

  -- ---- the commonest class

  abbrev common : Common
  common = commonest_at n table h

  -- It is a class of the cut,
  pub commonest_known : common.class < class_count n table h
  unfolding commonest_at
  commonest_known = known_or_not (dec_lt (commonest (use_counts n table h)).class (class_count n table h))
    where
      known_or_not : Dec ((commonest (use_counts n table h)).class < class_count n table h) → (commonest (use_counts n table h)).class < class_count n table h
      known_or_not (yes l) = l
      known_or_not (no l) =
          absurd
          (let leads = commonest_leads (use_counts n table h) in
          let none = get_or-eq_default (use_counts n table h) 0 {n = (commonest (use_counts n table h)).class} (rw length_use_counts (omega arith)) in
          let met = leads.met in
          let first = class_of n table h (block table (n - h) 0) in
          let known = class_below n table h cut 0 (pow_pos h) in
          let most : get_or (use_counts n table h) first 0 ≤ (commonest (use_counts n table h)).uses = leads.most first in
          let is = use_count_at n table h first known in
          let some = each_class_used first known in
          omega arith)

  -- it has its use count,
  pub commonest_uses : common.uses ≡ use_count block_classes common.class
  unfolding commonest_at
  commonest_uses = sym (commonest_leads (use_counts n table h)).met ∙ use_count_at n table h common.class commonest_known

  -- no class is used more,
  pub commonest_most : (class : ℕ) → class < class_count n table h → use_count block_classes class ≤ common.uses
  unfolding commonest_at
  commonest_most class known = let m = (commonest_leads (use_counts n table h)).most class in let is = use_count_at n table h class known in omega arith

  -- and of those used as much it has the smallest number.
  pub commonest_smallest : (class : ℕ) → class < class_count n table h → use_count block_classes class ≡ common.uses → common.class ≤ class
  unfolding commonest_at
  commonest_smallest class known tie = at_least (dec_lt class (commonest (use_counts n table h)).class)
    where
      at_least : Dec (class < (commonest (use_counts n table h)).class) → (commonest (use_counts n table h)).class ≤ class
      at_least (yes l) = absurd (let b = (commonest_leads (use_counts n table h)).before class l in let is = use_count_at n table h class known in omega arith)
      at_least (no l) = omega arith

  -- Where a cut has one class, all blocks have it.
  pub one_class_for_all : class_count n table h ≡ 1 → common ≡ record { class = 0; uses = 2 ^ h }
  unfolding commonest_at use_counts numbers_from sum_of
  one_class_for_all one =
      ap commonest counts_are
      ∙ sym (leading_is (2 ^ h ∷ []) (record { class = 0; uses = 2 ^ h }) (record { met = refl; most = alone; before = λ class l. absurd (omega arith) }))
    where
      single : use_counts n table h ≡ use_count (classes_at n table h) 0 ∷ []
      single = rw one refl

      counts_are : use_counts n table h ≡ 2 ^ h ∷ []
      counts_are = single ∙ ap (λ count. count ∷ []) (let s = sym (ap sum_of single) ∙ use_counts_sum in let t : use_count (classes_at n table h) 0 + 0 ≡ 2 ^ h = s in let e : use_count (classes_at n table h) 0 ≡ 2 ^ h = omega arith in e)

      alone : (class : ℕ) → get_or (2 ^ h ∷ []) class 0 ≤ 2 ^ h
      alone zero = omega arith
      alone (suc class) = omega arith

-- At cut 0 that is the table itself,
pub commonest_at_top : (n : ℕ) (table : List ℤ) → commonest_at n table 0 ≡ record { class = 0; uses = 1 }
commonest_at_top n table = one_class_for_all n table 0 (omega arith) (one_class_at_top n table)

-- at cut n every value: class 0 with 2^n.
pub commonest_at_bottom : (n : ℕ) (table : List ℤ) → length table ≡ 2 ^ n → commonest_at n table n ≡ record { class = 0; uses = 2 ^ n }
commonest_at_bottom n table whole = one_class_for_all n table n (omega arith) (one_class_at_bottom n table whole)

-- ---- the rows of all cuts

module _ (n : ℕ) (table : List ℤ) (h : ℕ) (cut : h ≤ n) where
  -- A block's class,
  pub row_of_block_classes : (j : ℕ) → j < 2 ^ h → in_row (all_numbers n table) h j ≡ get_or (classes_at n table h) j 0
  row_of_block_classes j l = class_at_lem n table h cut j l ∙ sym (class_of_block n table h cut j l)

  -- its uses so far,
  pub row_of_all_uses : (j : ℕ) → j < 2 ^ h → in_row (all_uses n table) h j ≡ uses_at (classes_at n table h) j
  unfolding all_uses
  row_of_all_uses j l = row_at (cut_uses n table) n (length_cut_uses n table) h j cut l ∙ uses_at_lem n table h cut j l

  -- a class's use count,
  pub row_of_use_counts : (class : ℕ) → class < 2 ^ h → in_row (all_use_rows n table) h class ≡ use_count (classes_at n table h) class
  unfolding all_use_rows
  row_of_use_counts class l = row_at (cut_use_row n table) n (length_cut_use_row n table) h class cut l ∙ cut_use_row_at n table h cut class l

  -- 0 past the last class,
  pub none_past_the_last : (class : ℕ) → class_count n table h ≤ class → class < 2 ^ h → in_row (all_use_rows n table) h class ≡ 0
  none_past_the_last class past l =
      row_of_use_counts class l
      ∙ unused class (classes_at n table h)
      (λ i m e.
      let inside : i < 2 ^ h = rw (length_classes n table h cut) at m in
      let known = class_below n table h cut i inside in
      let is = class_of_block n table h cut i inside in
      omega arith)

  -- and the sum of the cut's use counts.
  pub row_sums : sum_of (take (2 ^ h) (drop (cut_place h) (all_use_rows n table))) ≡ 2 ^ h
  unfolding all_use_rows cut_use_row use_row
  row_sums =
      ap sum_of (row_part (cut_use_row n table) n (length_cut_use_row n table) h cut)
      ∙ uses_sum (length (classes_at n table h)) (classes_at n table h)
      (λ i m.
      let inside : i < 2 ^ h = rw (length_classes n table h cut) at m in
      let known = class_below n table h cut i inside in
      let is = class_of_block n table h cut i inside in
      let few = class_count_le n table h cut in
      let long = length_classes n table h cut in
      omega arith)
      ∙ length_classes n table h cut
