-- Classing the blocks of a cut: what the rows hold on the way, and that they are whole at the end.
use Rattle.std.specs.Prelude.{ℕ, ◌+◌, ◌/◌, ◌≤◌, ◌<◌, ◌≡◌, List, map, length, get_or, take, ℤ}
use Rattle.std.proofs.Math.Path.{refl}
use Rattle.std.proofs.Common.{sym, ◌∙◌, ap, subst, arith}
use Rattle.std.proofs.Math.Nat.{div-eq_of_eq-mul_left}
use Rattle.std.proofs.Math.Numerals.{add-one}
use Rattle.std.proofs.Math.ListN.{length-set}
use Rattle.numbers.specs.Lists.{numbers_from}
use Rattle.blocks.specs.Rows.{numbers_of, firsts_of}
use Rattle.blocks.specs.Tries.{block_class, tried_at, tries_of}
use Rattle.blocks.proofs.Laws.Latest.{class_met, class_most}
use Rattle.blocks.specs.Uses.{use_count, uses_at, uses_of}
use Rattle.classes.specs.declared.search.Found.{Found}
use Rattle.classes.specs.Inner.Finding.{cut_lists, found_at, Cut, BlocksBefore}
use Rattle.classes.specs.Inner.Noting.{latest_class, CutRows, found_noted}
use Rattle.classes.specs.Inner.Classing.{CutRoom, CutClassed}
use Rattle.classes.proofs.Laws.Uses.{length_numbers, known_few, known_uses, use_counts_next, all_counted}
use Rattle.classes.proofs.Laws.Finding.{length_cut_lists}
use Rattle.classes.proofs.Laws.Noting.{noted_next, all_noted, length_firsts_noted, length_uses_noted}
use Rattle.classes.proofs.Laws.Classing.{Classed, none_classed, classed_next, known_places, latest_is, all_classed}

-- The rows of a cut with so many blocks while the first j are classed.
pub record CutSoFar (table : List ℤ) (size count j : ℕ) (rows : CutRows) : Type 0 where
  pub inside : j ≤ count
  pub class_places : length rows.class_row ≡ count
  pub first_places : length rows.first_row ≡ count
  pub tried_places : length rows.tried_row ≡ count
  pub uses_places : length rows.uses_row ≡ count
  pub use_count_places : length rows.use_count_row ≡ count
  pub classed : Classed (cut_lists table size count) j rows.known rows.class_row rows.first_row
  pub tried : take j rows.tried_row ≡ map (tried_at (cut_lists table size count)) (numbers_from 0 j)
  pub used : take j rows.uses_row ≡ map (uses_at (numbers_of (cut_lists table size count))) (numbers_from 0 j)
  pub use_counted : (class : ℕ) → class < j → get_or rows.use_count_row class 0 ≡ use_count (take j (numbers_of (cut_lists table size count))) class

-- No block is classed yet.
pub cut_start : (table : List ℤ) (size : ℕ) (rows : CutRows) → rows.known ≡ 0 → CutRoom table size rows → CutSoFar table size (length rows.class_row) 0 rows
unfolding numbers_from
cut_start table size rows none room = record {
  inside = omega arith;
  class_places = refl;
  first_places = room.alike.firsts_alike;
  tried_places = room.alike.tried_alike;
  uses_places = room.alike.uses_alike;
  use_count_places = room.alike.use_counts_alike;
  classed = subst (λ count. Classed (cut_lists table size (length rows.class_row)) 0 count rows.class_row rows.first_row) (sym none) (none_classed (cut_lists table size (length rows.class_row)) rows.class_row rows.first_row);
  tried = refl;
  used = refl;
  use_counted = λ class l. absurd (omega arith);
}

-- ---- block by block

module _ {table : List ℤ} {size count j : ℕ} {rows : CutRows} (cut : Cut table size count) (s : CutSoFar table size count j rows) (below : j < count) where
  abbrev ds : List (List ℤ)
  ds = cut_lists table size count

  below_ds : j < length ds
  below_ds = rw length_cut_lists below

  -- As many blocks as their size goes into the table's length.
  block_count : length table / size ≡ count
  block_count = div-eq_of_eq-mul_left cut.some cut.whole

  -- No more classes are known than blocks were seen.
  pub rows_few : rows.known ≤ j
  rows_few = rw s.classed.known (known_few ds j below_ds)

  -- What is known of the blocks before the next stands in front of the rows.
  pub blocks_before : BlocksBefore table size j (take rows.known rows.first_row) (take rows.known rows.use_count_row) (latest_class rows.class_row j)
  blocks_before = record {
    cut = rw block_count cut;
    inside = rw block_count below;
    placed = rw block_count (known_places ds j rows.known rows.class_row rows.first_row below_ds s.classed);
    use_counted = rw block_count (ap (λ n. take n rows.use_count_row) s.classed.known ∙ known_uses ds j below_ds rows.use_count_row (rw s.use_count_places below) s.use_counted);
    latest_before = rw block_count (latest_is ds j rows.known rows.class_row rows.first_row below_ds s.classed);
  }

  -- The rows with one block more.
  noted : CutSoFar table size count (j + 1) (found_noted j (found_at ds j) rows)
  unfolding found_noted found_at
  noted = record {
    inside = omega arith;
    class_places = length-set rows.class_row j (block_class ds j) ∙ s.class_places;
    first_places = length_firsts_noted rows.first_row rows.known j (block_class ds j) ∙ s.first_places;
    tried_places = length-set rows.tried_row j (tried_at ds j) ∙ s.tried_places;
    uses_places = length-set rows.uses_row j (uses_at (numbers_of ds) j) ∙ s.uses_places;
    use_count_places = length_uses_noted rows.use_count_row j (block_class ds j) (uses_at (numbers_of ds) j) ∙ s.use_count_places;
    classed = rw add-one (classed_next ds j below_ds rows.known rows.class_row rows.first_row (block_class ds j) s.classed (class_met ds j below_ds) (rw s.class_places below) (rw s.first_places below));
    tried = rw add-one (noted_next (tried_at ds) rows.tried_row j (tried_at ds j) (rw s.tried_places below) refl s.tried);
    used = rw add-one (noted_next (uses_at (numbers_of ds)) rows.uses_row j (uses_at (numbers_of ds) j) (rw s.uses_places below) refl s.used);
    use_counted = λ class l. rw add-one (use_counts_next ds j below_ds rows.use_count_row (rw s.use_count_places below) s.use_counted class (omega arith));
  }

  module _ {found : Found} (is : found ≡ found_at (cut_lists table size (length table / size)) j) where
    -- The class found is known, or the next new one.
    pub class_few : found.class ≤ j
    unfolding found_at
    class_few = rw (is, block_count) (let m = class_most ds j below_ds in let f = known_few ds j below_ds in omega arith)

    -- What was found is noted: one block more.
    pub cut_next : {next : CutRows} → next ≡ found_noted j found rows → CutSoFar table size count (j + 1) next
    cut_next as_noted =
        subst (CutSoFar table size count (j + 1))
        (sym (as_noted ∙ ap (λ f. found_noted j f rows) (is ∙ ap (λ n. found_at (cut_lists table size n) j) block_count)))
        noted

-- All blocks are classed.
pub cut_done : (table : List ℤ) (size count : ℕ) (rows : CutRows) → CutSoFar table size count count rows → CutClassed table size count rows
unfolding tries_of uses_of
cut_done table size count rows s =
    let ds = cut_lists table size count in
    let l = length_cut_lists table size count in
    let many = length_numbers ds ∙ l in
    let a = all_classed ds rows.known rows.class_row rows.first_row (s.class_places ∙ sym l) (s.first_places ∙ sym l) (subst (λ n. Classed ds n rows.known rows.class_row rows.first_row) (sym l) s.classed) in
    record {
      counted = a.0;
      numbered = a.1.0;
      placed = a.1.1 ∙ ap (λ n. firsts_of n ds) l;
      used = all_noted rows.uses_row _ (length (numbers_of ds)) (s.uses_places ∙ sym many) (subst (λ n. take n rows.uses_row ≡ map (uses_at (numbers_of ds)) (numbers_from 0 n)) (sym many) s.used);
      use_counted = all_counted ds rows.use_count_row (s.use_count_places ∙ sym l) (λ class inside. s.use_counted class (rw l at inside) ∙ ap (λ n. use_count (take n (numbers_of ds)) class) (sym l));
      tried = all_noted rows.tried_row _ (length ds) (s.tried_places ∙ sym l) (subst (λ n. take n rows.tried_row ≡ map (tried_at ds) (numbers_from 0 n)) (sym l) s.tried);
    }
