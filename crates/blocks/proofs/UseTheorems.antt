-- How many blocks use a class (W-207): the uses so far of a block, the use counts of a cut, which sum to 2^h, its
-- commonest class, and what stands for each block and each class in the rows of all cuts. It holds of every cut of every
-- table.
use Rattle.std.specs.Prelude.{ℕ, ◌+◌, ◌^◌, ◌≤◌, ◌<◌, ◌≡◌, List, length, get_or, take, drop, ℤ}
use Rattle.numbers.specs.Lists.{sum_of}
use Rattle.blocks.specs.Classes.{class_count}
use Rattle.blocks.specs.Rows.{cut_place, in_row, all_numbers, all_uses, all_use_rows}
use Rattle.blocks.specs.Uses.{use_count, uses_at, classes_at, use_counts, commonest_at}
use Rattle.blocks.specs.declared.Common.{Common}
use Rattle.blocks.proofs.Laws.Uses as proved

-- ---- blocks given by their classes

module _ (classes : List ℕ) (j : ℕ) (below : j < length classes) where
  -- The block itself is counted: one more than have its class before it,
  pub block_included : uses_at classes j ≡ 1 + use_count (take j classes) (get_or classes j 0)
  block_included = proved.block_included classes j below

  -- so 1 at the first block of a class,
  pub first_use : ((before : ℕ) → before < j → ¬ (get_or classes j 0 ≡ get_or classes before 0)) → uses_at classes j ≡ 1
  first_use = proved.first_use classes j below

  -- and at the last one its use count.
  pub last_use : ((behind : ℕ) → j < behind → behind < length classes → ¬ (get_or classes j 0 ≡ get_or classes behind 0))
      → uses_at classes j ≡ use_count classes (get_or classes j 0)
  last_use = proved.last_use classes j below

-- The class of a block is used.
pub some_use : (classes : List ℕ) (j : ℕ) → j < length classes → 0 < use_count classes (get_or classes j 0)
some_use = proved.some_use

-- ---- a cut

module _ (n : ℕ) (table : List ℤ) (h : ℕ) (cut : h ≤ n) where
  -- The class of each of its blocks, left to right.
  abbrev block_classes : List ℕ
  block_classes = classes_at n table h

  -- The use counts of a cut sum to 2^h, the number of its blocks.
  pub use_counts_sum : sum_of (use_counts n table h) ≡ 2 ^ h
  use_counts_sum = proved.use_counts_sum n table h cut

  -- Each class is used.
  pub each_class_used : (class : ℕ) → class < class_count n table h → 0 < use_count block_classes class
  each_class_used = proved.each_class_used n table h cut

  -- ---- the commonest class

  -- Its number and its use count.
  abbrev common : Common
  common = commonest_at n table h

  -- It is a class of the cut,
  pub commonest_known : common.class < class_count n table h
  commonest_known = proved.commonest_known n table h cut

  -- it has its use count,
  pub commonest_uses : common.uses ≡ use_count block_classes common.class
  commonest_uses = proved.commonest_uses n table h cut

  -- no class is used more,
  pub commonest_most : (class : ℕ) → class < class_count n table h → use_count block_classes class ≤ common.uses
  commonest_most = proved.commonest_most n table h cut

  -- and of those used as much it has the smallest number.
  pub commonest_smallest : (class : ℕ) → class < class_count n table h
      → use_count block_classes class ≡ common.uses → common.class ≤ class
  commonest_smallest = proved.commonest_smallest n table h cut

  -- Where a cut has one class, all blocks have it.
  pub one_class_for_all : class_count n table h ≡ 1 → common ≡ record { class = 0; uses = 2 ^ h }
  one_class_for_all = proved.one_class_for_all n table h cut

-- At cut 0 that is the table itself,
pub commonest_at_top : (n : ℕ) (table : List ℤ) → commonest_at n table 0 ≡ record { class = 0; uses = 1 }
commonest_at_top = proved.commonest_at_top

-- at cut n every value: class 0 with 2^n.
pub commonest_at_bottom : (n : ℕ) (table : List ℤ) → length table ≡ 2 ^ n
    → commonest_at n table n ≡ record { class = 0; uses = 2 ^ n }
commonest_at_bottom = proved.commonest_at_bottom

-- ---- the rows of all cuts

module _ (n : ℕ) (table : List ℤ) (h : ℕ) (cut : h ≤ n) where
  -- The classes of the blocks of cut h are those that stand in the row of classes.
  pub row_of_block_classes : (j : ℕ) → j < 2 ^ h → in_row (all_numbers n table) h j ≡ get_or (classes_at n table h) j 0
  row_of_block_classes = proved.row_of_block_classes n table h cut

  -- For block j stand its uses so far,
  pub row_of_all_uses : (j : ℕ) → j < 2 ^ h → in_row (all_uses n table) h j ≡ uses_at (classes_at n table h) j
  row_of_all_uses = proved.row_of_all_uses n table h cut

  -- for a class its use count,
  pub row_of_use_counts : (class : ℕ) → class < 2 ^ h
      → in_row (all_use_rows n table) h class ≡ use_count (classes_at n table h) class
  row_of_use_counts = proved.row_of_use_counts n table h cut

  -- where past the last class stands 0;
  pub none_past_the_last : (class : ℕ) → class_count n table h ≤ class → class < 2 ^ h
      → in_row (all_use_rows n table) h class ≡ 0
  none_past_the_last = proved.none_past_the_last n table h cut

  -- and what stands for cut h sums to 2^h.
  pub row_of_use_counts_sums : sum_of (take (2 ^ h) (drop (cut_place h) (all_use_rows n table))) ≡ 2 ^ h
  row_of_use_counts_sums = proved.row_sums n table h cut
