-- The use counts of a cut's blocks and classes, as many as it has blocks, and where they lie in the rows of all cuts.
use Rattle.std.specs.Prelude.{ℕ, suc, ◌+◌, ◌-◌, ◌^◌, ◌≤◌, ◌<◌, ◌≡◌, get_or, take, drop, ℤ}
use Rattle.std.proofs.Math.Path.{sym, ap}
use Rattle.std.proofs.Common.{◌∙◌}
use mathlib.Core.List.{List, [], map}
use Rattle.std.proofs.Math.Nat.{zero-add}
use native.Mathlib.Omega.{arith}
use Rattle.std.proofs.Math.ListN.{length, length-drop}
use Rattle.std.proofs.lemmas.List.{length-map}
use Rattle.std.proofs.Math.Seq.{ext_get_or, get_or-take, get_or-drop, length-take-le}
use Rattle.numbers.specs.Lists.{numbers_from}
use Rattle.numbers.proofs.Laws.Lists.{length_range, get_d_range, get_d_map, map_map}
use Rattle.blocks.specs.Blocks.{block, blocks, differences}
use Rattle.blocks.specs.Classes.{number_in, distinct, classes, class_count, class_of}
use Rattle.blocks.specs.Rows.{numbers_of, cut_numbers, cut_place, use_row, cut_use_row, all_use_rows}
use Rattle.blocks.proofs.Laws.Blocks.{blocks_count}
use Rattle.blocks.proofs.Laws.Classes.{class_count_le}
use Rattle.blocks.proofs.Laws.Cuts.{length_cut_numbers, cut_within}
use Rattle.blocks.proofs.Laws.Places.{row_length, row_at}
use Rattle.blocks.specs.Uses.{use_count, uses_at, uses_of, classes_at, cut_uses, use_counts}
use Rattle.blocks.specs.Inner.Layout.{in_cut}

-- ---- lists over a run of numbers

pub length_run : (f : ℕ → ℕ) (count : ℕ) → length (map f (numbers_from 0 count)) ≡ count
length_run f count = length-map (numbers_from 0 count) f ∙ length_range 0 count

pub run_at : (f : ℕ → ℕ) (count k : ℕ) → k < count → get_or (map f (numbers_from 0 count)) k 0 ≡ f k
run_at f count k l = get_d_map f (numbers_from 0 count) k 0 0 (rw length_range l) ∙ ap f (get_d_range 0 count k 0 l ∙ zero-add k)

pub length_use_row : (block_classes : List ℕ) → length (use_row block_classes) ≡ length block_classes
unfolding use_row
length_use_row block_classes = length_run (use_count block_classes) (length block_classes)

pub use_row_at : (block_classes : List ℕ) (class : ℕ) → class < length block_classes → get_or (use_row block_classes) class 0 ≡ use_count block_classes class
unfolding use_row
use_row_at block_classes class l = run_at (use_count block_classes) (length block_classes) class l

-- ---- the classes of a cut

pub classes_are : (n : ℕ) (table : List ℤ) (h : ℕ) → classes_at n table h ≡ cut_numbers n table h
unfolding classes_at cut_numbers numbers_of class_of classes
classes_are n table h = sym (map_map differences (number_in (distinct (map differences (blocks n table (n - h))))) (blocks n table (n - h)))

module _ (n : ℕ) (table : List ℤ) (h : ℕ) (cut : h ≤ n) where
  pub length_classes : length (classes_at n table h) ≡ 2 ^ h
  length_classes = ap length (classes_are n table h) ∙ length_cut_numbers n h cut table

  pub class_of_block : (j : ℕ) → j < 2 ^ h → get_or (classes_at n table h) j 0 ≡ class_of n table h (block table (n - h) j)
  unfolding classes_at blocks
  class_of_block j l =
      get_d_map (class_of n table h) (blocks n table (n - h)) j [] 0 (rw blocks_count below)
      ∙ ap (class_of n table h) (get_d_map (block table (n - h)) (numbers_from 0 (2 ^ (n - (n - h)))) j 0 [] (rw length_range below) ∙ ap (block table (n - h)) (get_d_range 0 (2 ^ (n - (n - h))) j 0 below ∙ zero-add j))
    where
      below : j < 2 ^ (n - (n - h))
      below = rw (let e : n - (n - h) ≡ h = omega arith in e) l

  -- ---- the rows of a cut

  pub uses_at_lem : (j : ℕ) → j < 2 ^ h → get_or (cut_uses n table h) j 0 ≡ uses_at (classes_at n table h) j
  unfolding cut_uses uses_of
  uses_at_lem j l = run_at (uses_at (classes_at n table h)) (length (classes_at n table h)) j (rw length_classes l)

  pub length_cut_uses : length (cut_uses n table h) ≡ 2 ^ h
  unfolding cut_uses uses_of
  length_cut_uses = length_run (uses_at (classes_at n table h)) (length (classes_at n table h)) ∙ length_classes

  pub length_cut_use_row : length (cut_use_row n table h) ≡ 2 ^ h
  unfolding cut_use_row
  length_cut_use_row = length_use_row (classes_at n table h) ∙ length_classes

  pub cut_use_row_at : (class : ℕ) → class < 2 ^ h → get_or (cut_use_row n table h) class 0 ≡ use_count (classes_at n table h) class
  unfolding cut_use_row
  cut_use_row_at class l = use_row_at (classes_at n table h) class (rw length_classes l)

-- ---- the use counts of a cut

module _ (n : ℕ) (table : List ℤ) (h : ℕ) where
  pub length_use_counts : length (use_counts n table h) ≡ class_count n table h
  unfolding use_counts
  length_use_counts = length_run _ (class_count n table h)

  pub use_count_at : (class : ℕ) → class < class_count n table h → get_or (use_counts n table h) class 0 ≡ use_count (classes_at n table h) class
  unfolding use_counts
  use_count_at class l = run_at (use_count (classes_at n table h)) (class_count n table h) class l

-- ---- the rows of all cuts

module _ (n : ℕ) (table : List ℤ) where
  pub length_all_use_rows : length (all_use_rows n table) ≡ cut_place (suc n)
  unfolding all_use_rows
  length_all_use_rows = row_length (cut_use_row n table) n (length_cut_use_row n table)

  -- Class by class,
  use_count_stands : (h : ℕ) → h ≤ n → (class : ℕ) → class < class_count n table h → get_or (all_use_rows n table) (cut_place h + class) 0 ≡ get_or (use_counts n table h) class 0
  unfolding all_use_rows
  use_count_stands h cut class inside =
      let l : class < 2 ^ h = (let c = class_count_le n table h cut in omega arith) in
      row_at (cut_use_row n table) n (length_cut_use_row n table) h class cut l
      ∙ cut_use_row_at n table h cut class l
      ∙ sym (use_count_at n table h class inside)

  -- the use counts of a cut stand from its place on.
  pub use_counts_stand : (h : ℕ) → h ≤ n → in_cut (all_use_rows n table) h (class_count n table h) ≡ use_counts n table h
  unfolding in_cut
  use_counts_stand h cut =
      ext_get_or 0 (take (class_count n table h) (drop (cut_place h) (all_use_rows n table))) (use_counts n table h)
      (front_length ∙ sym (length_use_counts n table h))
      (λ class l.
      let inside : class < class_count n table h = rw front_length at l in
      get_or-take (class_count n table h) (drop (cut_place h) (all_use_rows n table)) class 0 inside
      ∙ get_or-drop (cut_place h) (all_use_rows n table) class 0
      ∙ use_count_stands h cut class inside)
    where
      front_length : length (take (class_count n table h) (drop (cut_place h) (all_use_rows n table))) ≡ class_count n table h
      front_length = length-take-le (class_count n table h) (drop (cut_place h) (all_use_rows n table)) (rw length-drop (let a = length_all_use_rows in let w = cut_within n h cut in let c = class_count_le n table h cut in omega arith))
