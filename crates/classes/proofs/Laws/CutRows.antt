-- A cut's own rows among the rows of all cuts, and that its blocks are the parts of its size.
use Prim.Native.Nat.{ℕ, zero, suc, ◌+◌, ◌-◌, ◌*◌, ◌/◌, ◌^◌, ◌≤◌, min}
use Rattle.std.specs.Prelude.{◌≡◌, refl, List, map, take, drop, ℤ}
use Rattle.std.proofs.Math.Path.{sym, ap, ap₂}
use Rattle.std.proofs.Common.{◌∙◌, length-take, length-drop, pow_pos}
use Rattle.std.proofs.Math.Nat.{two-pow-succ}
use native.Mathlib.Omega.{arith}
use Rattle.std.proofs.Math.ListN.{length}
use Rattle.std.proofs.Math.Pow.{pow_mono}
use borrow.Rule.Slice.PartMut.{put_mid}
use Rattle.numbers.specs.Lists.{numbers_from, overwritten}
use Rattle.numbers.specs.Ranges.{most_variables}
use Rattle.numbers.proofs.Laws.Lists.{map_map}
use Rattle.numbers.proofs.Laws.Overwriting.{part_back}
use Rattle.blocks.specs.Blocks.{block, blocks, differences}
use Rattle.blocks.specs.Classes.{distinct, classes, class_count}
use Rattle.blocks.specs.Rows.{numbers_of, firsts_of, cut_numbers, cut_firsts, cut_place, use_row, cut_use_row}
use Rattle.blocks.specs.Inner.Layout.{part, CutsRoom}
use Rattle.blocks.proofs.Laws.Cuts.{length_cut_numbers, length_cut_firsts, cut_within, cut_whole}
use Rattle.blocks.specs.Tries.{tries_of, cut_tries}
use Rattle.blocks.proofs.Laws.TryRows.{length_cut_tries}
use Rattle.blocks.specs.Uses.{uses_of, classes_at, cut_uses}
use Rattle.blocks.proofs.Laws.UseRows.{length_cut_uses, length_cut_use_row, classes_are}
use Rattle.classes.specs.Inner.Noting.{cut_rows}
use Rattle.classes.specs.Inner.Classing.{CutRoom, CutClassed}
use Rattle.classes.specs.Inner.Searched.{SearchRoom}
use Rattle.classes.specs.Inner.Searching.{part_differences}

module _ (n h : ℕ) (cut : h ≤ n) where
  -- The blocks of cut h are the parts of size 2^(n-h).
  pub cut_lists_are : (table : List ℤ) → part_differences table (2 ^ (n - h)) (numbers_from 0 (2 ^ h)) ≡ map differences (blocks n table (n - h))
  unfolding part_differences part blocks block
  cut_lists_are table =
      ap (λ k. part_differences table (2 ^ (n - h)) (numbers_from 0 (2 ^ k))) (let e : h ≡ n - (n - h) = omega arith in e)
      ∙ sym (map_map (block table (n - h)) differences (numbers_from 0 (2 ^ (n - (n - h)))))

-- Cut h of a table with rows for all cuts: its block count and its block size.
pub record CutAt (n h count size : ℕ) (table : List ℤ) (class_row first_row tried_row uses_row use_count_row : List ℕ) : Type 0 where
  pub rows : CutsRoom n table class_row first_row
  pub searches : SearchRoom n tried_row uses_row use_count_row
  pub cut : h ≤ n
  pub is_count : count ≡ 2 ^ h
  pub is_size : size ≡ 2 ^ (n - h)

-- What the classing of cut h leaves in the rows of all cuts.
pub record CutPlaced (n : ℕ) (table : List ℤ) (h : ℕ) (class_row first_row tried_row uses_row use_count_row : List ℕ) (known : ℕ) (class_row' first_row' tried_row' uses_row' use_count_row' : List ℕ) : Type 0 where
  pub counted : known ≡ class_count n table h
  pub numbered : class_row' ≡ overwritten class_row (cut_place h) (cut_numbers n table h)
  pub placed : first_row' ≡ overwritten first_row (cut_place h) (cut_firsts n table h)
  pub tried : tried_row' ≡ overwritten tried_row (cut_place h) (cut_tries n table h)
  pub used : uses_row' ≡ overwritten uses_row (cut_place h) (cut_uses n table h)
  pub use_counted : use_count_row' ≡ overwritten use_count_row (cut_place h) (cut_use_row n table h)

-- The parts of the rows that belong to the cut.
module _ {n h count size : ℕ} {table : List ℤ} {class_row first_row tried_row uses_row use_count_row : List ℕ} (k : CutAt n h count size table class_row first_row tried_row uses_row use_count_row) where
  open k use {rows, searches, cut, is_count, is_size}

  -- The count is small.
  pub count_small : (1 ≤ count) × (count ≤ 4096)
  unfolding most_variables
  count_small = rw is_count (pow_pos h, pow_mono {i = h} {j = 12} (let v = rows.variables in omega arith))

  rows_reach : count - 1 + count ≤ cut_place (suc n)
  unfolding cut_place
  rows_reach = rw is_count (cut_within n h cut)

  pub within_classes : count - 1 + count ≤ length class_row
  within_classes = rw rows.class_places rows_reach

  pub within_firsts : count - 1 + count ≤ length first_row
  within_firsts = rw rows.first_places rows_reach

  pub within_tried : count - 1 + count ≤ length tried_row
  within_tried = rw searches.tried_places rows_reach

  pub within_uses : count - 1 + count ≤ length uses_row
  within_uses = rw searches.uses_places rows_reach

  pub within_use_counts : count - 1 + count ≤ length use_count_row
  within_use_counts = rw searches.use_count_places rows_reach

  abbrev lent : List ℕ → List ℕ
  lent row = take (count - 1 + count - (count - 1)) (drop (count - 1) row)

  lent_length : (row : List ℕ) → count - 1 + count ≤ length row → length (lent row) ≡ count
  lent_length row w = simp (length-take, length-drop) (let s = count_small in let e : min (count - 1 + count - (count - 1)) (length row - (count - 1)) ≡ count = omega arith in e)

  -- A cut has one block, or the halves of those of the cut above.
  halved : (k : ℕ) → (2 ^ k ≡ 1 → ⊥) → 2 ^ k ≡ 2 * (2 ^ k / 2)
  halved zero other = absurd (other refl)
  halved (suc k) other = let e : 2 ^ suc k ≡ 2 * (2 ^ suc k / 2) = omega (arith, two-pow-succ k) in e

  pub cut_room : CutRoom table size (cut_rows 0 (lent class_row) (lent first_row) (lent tried_row) (lent uses_row) (lent use_count_row))
  cut_room = record {
    cut = record {
      some = rw is_size (pow_pos (n - h));
      whole = rows.whole ∙ sym (ap₂ ◌*◌ (lent_length class_row within_classes ∙ is_count) is_size ∙ cut_whole n h cut);
      halved = rw (lent_length class_row within_classes, is_count) (halved h);
    };
    alike = record {
      firsts_alike = lent_length first_row within_firsts ∙ sym (lent_length class_row within_classes);
      tried_alike = lent_length tried_row within_tried ∙ sym (lent_length class_row within_classes);
      uses_alike = lent_length uses_row within_uses ∙ sym (lent_length class_row within_classes);
      use_counts_alike = lent_length use_count_row within_use_counts ∙ sym (lent_length class_row within_classes);
    };
  }

  -- A cut's row, back among those of all cuts.
  abbrev back : List ℕ → List ℕ → List ℕ
  back row filled = put_mid (count - 1) (count - 1 + count - (count - 1)) row filled

  pub cut_placed : (found : ℕ) (numbered placed tries uses use_counts : List ℕ) → CutClassed table size (length (lent class_row)) (cut_rows found numbered placed tries uses use_counts)
      → CutPlaced n table h class_row first_row tried_row uses_row use_count_row found (back class_row numbered) (back first_row placed) (back tried_row tries) (back uses_row uses) (back use_count_row use_counts)
  unfolding cut_place cut_numbers cut_firsts cut_tries cut_uses cut_use_row class_count classes
  cut_placed found numbered placed tries uses use_counts c = record {
    counted = c.counted ∙ ap (λ l. length (distinct l)) same_lists;
    numbered = put_back class_row numbered (cut_numbers n table h) (length_cut_numbers n h cut table) (c.numbered ∙ ap numbers_of same_lists);
    placed = put_back first_row placed (cut_firsts n table h) (length_cut_firsts n h cut table) (c.placed ∙ ap₂ firsts_of blocks_are same_lists);
    tried = put_back tried_row tries (cut_tries n table h) (length_cut_tries n h cut table) (c.tried ∙ ap tries_of same_lists);
    used = put_back uses_row uses (cut_uses n table h) (length_cut_uses n table h cut) (c.used ∙ ap uses_of same_classes);
    use_counted = put_back use_count_row use_counts (cut_use_row n table h) (length_cut_use_row n table h cut) (c.use_counted ∙ ap use_row same_classes);
  }
    where
      many : ℕ
      many = count - 1 + count - (count - 1)

      is_many : many ≡ 2 ^ h
      is_many = (let s = count_small in let e : count - 1 + count - (count - 1) ≡ count = omega arith in e) ∙ is_count

      blocks_are : length (lent class_row) ≡ 2 ^ h
      blocks_are = lent_length class_row within_classes ∙ is_count

      same_lists : part_differences table size (numbers_from 0 (length (lent class_row))) ≡ map differences (blocks n table (n - h))
      same_lists = ap₂ (λ s b. part_differences table s (numbers_from 0 b)) is_size blocks_are ∙ cut_lists_are n h cut table

      same_classes : numbers_of (part_differences table size (numbers_from 0 (length (lent class_row)))) ≡ classes_at n table h
      same_classes = ap numbers_of same_lists ∙ sym (classes_are n table h)

      -- The cut's own row, back in the row of all cuts.
      put_back : (row filled new : List ℕ) → length new ≡ 2 ^ h → filled ≡ new → put_mid (count - 1) many row filled ≡ overwritten row (2 ^ h - 1) new
      put_back row filled new l e = ap (put_mid (count - 1) many row) e ∙ part_back row (count - 1) new many (is_many ∙ sym l) ∙ ap (λ k. overwritten row (k - 1) new) is_count
