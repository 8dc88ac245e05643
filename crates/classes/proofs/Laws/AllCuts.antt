-- Classing cut after cut: what the rows of all cuts hold on the way, and that they are whole at the end.
use Rattle.std.specs.Prelude.{ℕ, suc, ◌+◌, ◌^◌, ◌≤◌, ◌≡◌, refl, length, take, set, ℤ}
use Rattle.std.proofs.Common.{sym, ◌∙◌, ap, ap₂, subst, zero-add, add-one, arith, length-set, take-suc-set}
use mathlib.Core.List.{List, [], ◌∷◌, ◌++◌, map, flat_map, append-nil}
use Rattle.numbers.specs.Lists.{numbers_from, overwritten}
use Rattle.numbers.proofs.Laws.Lists.{range_suc, map_append}
use Rattle.numbers.proofs.Laws.Overwriting.{take_overwritten, length_overwritten}
use Rattle.numbers.proofs.Laws.Selections.{flat_map_append}
use Rattle.blocks.specs.Classes.{class_count}
use Rattle.blocks.specs.Rows.{cut_numbers, cut_firsts, all_numbers, all_firsts, all_counts, cut_place, all_tries, cut_use_row, all_uses, all_use_rows}
use Rattle.blocks.specs.Inner.Layout.{CutsRoom, AllClassed}
use Rattle.blocks.specs.Tries.{cut_tries}
use Rattle.blocks.proofs.Laws.TryRows.{length_cut_tries}
use Rattle.blocks.specs.Uses.{cut_uses}
use Rattle.blocks.proofs.Laws.UseRows.{length_cut_uses, length_cut_use_row}
use Rattle.classes.proofs.Laws.Noting.{all_noted}
use Rattle.classes.proofs.Laws.CutRows.{CutPlaced}
use Rattle.classes.specs.Inner.Searched.{SearchRoom, AllSearched}
use Rattle.blocks.proofs.Laws.Cuts.{length_cut_numbers, length_cut_firsts, cut_end, cut_within}

-- The rows while the cuts before h are classed.
pub record CutsSoFar (n : ℕ) (table : List ℤ) (h : ℕ) (class_row first_row count_row tried_row uses_row use_count_row : List ℕ) : Type 0 where
  pub inside : h ≤ suc n
  pub rows : CutsRoom n table class_row first_row
  pub count_places : length count_row ≡ suc n
  pub searches : SearchRoom n tried_row uses_row use_count_row
  pub numbered : take (cut_place h) class_row ≡ flat_map (cut_numbers n table) (numbers_from 0 h)
  pub placed : take (cut_place h) first_row ≡ flat_map (cut_firsts n table) (numbers_from 0 h)
  pub counted : take h count_row ≡ map (class_count n table) (numbers_from 0 h)
  pub tried : take (cut_place h) tried_row ≡ flat_map (cut_tries n table) (numbers_from 0 h)
  pub used : take (cut_place h) uses_row ≡ flat_map (cut_uses n table) (numbers_from 0 h)
  pub use_counted : take (cut_place h) use_count_row ≡ flat_map (cut_use_row n table) (numbers_from 0 h)

pub no_cut : (n : ℕ) (table : List ℤ) (class_row first_row count_row tried_row uses_row use_count_row : List ℕ) → CutsRoom n table class_row first_row → length count_row ≡ suc n → SearchRoom n tried_row uses_row use_count_row → CutsSoFar n table 0 class_row first_row count_row tried_row uses_row use_count_row
unfolding cut_place numbers_from flat_map
no_cut n table class_row first_row count_row tried_row uses_row use_count_row rows e searches =
    record { inside = omega arith; rows = rows; count_places = e; searches = searches; numbered = refl; placed = refl; counted = refl; tried = refl; used = refl; use_counted = refl }

-- A run of lists and one more.
one_more : (f : ℕ → List ℕ) (h : ℕ) → flat_map f (numbers_from 0 h) ++ f h ≡ flat_map f (numbers_from 0 (suc h))
unfolding flat_map
one_more f h =
    ap (λ l. flat_map f (numbers_from 0 h) ++ l) (sym (append-nil (f h)))
    ∙ sym (flat_map_append f (numbers_from 0 h) (h ∷ []))
    ∙ ap (flat_map f) (ap (λ k. numbers_from 0 h ++ k ∷ []) (sym (zero-add h)) ∙ sym (range_suc 0 h))

-- A row with cut h at its place.
row_grows : (n h : ℕ) (f : ℕ → List ℕ) (row : List ℕ) → h ≤ n → length (f h) ≡ 2 ^ h → length row ≡ cut_place (suc n) → take (cut_place h) row ≡ flat_map f (numbers_from 0 h) → take (cut_place (suc h)) (overwritten row (cut_place h) (f h)) ≡ flat_map f (numbers_from 0 (suc h))
row_grows n h f row cut l e s =
    ap (λ k. take k (overwritten row (cut_place h) (f h))) (sym (ap (λ m. cut_place h + m) l ∙ cut_end n h cut))
    ∙ take_overwritten row (cut_place h) (f h) (let w = cut_within n h cut in omega arith)
    ∙ ap (λ k. k ++ f h) s
    ∙ one_more f h

row_stays : (n h : ℕ) (new row : List ℕ) → h ≤ n → length new ≡ 2 ^ h → length row ≡ cut_place (suc n) → length (overwritten row (cut_place h) new) ≡ cut_place (suc n)
row_stays n h new row cut l e = length_overwritten row (cut_place h) new (let w = cut_within n h cut in omega arith) ∙ e

module _ (n : ℕ) (table : List ℤ) (h : ℕ) (class_row first_row count_row tried_row uses_row use_count_row : List ℕ) (s : CutsSoFar n table h class_row first_row count_row tried_row uses_row use_count_row) (cut : h ≤ n) where
  -- One cut more.
  pub cuts_next : (count : ℕ) (class_row' first_row' tried_row' uses_row' use_count_row' : List ℕ) → CutPlaced n table h class_row first_row tried_row uses_row use_count_row count class_row' first_row' tried_row' uses_row' use_count_row'
      → CutsSoFar n table (h + 1) class_row' first_row' (set count_row h count) tried_row' uses_row' use_count_row'
  cuts_next count class_row' first_row' tried_row' uses_row' use_count_row' p =
      subst (λ k. CutsSoFar n table k class_row' first_row' (set count_row h count) tried_row' uses_row' use_count_row') (sym (add-one h))
      (record {
        inside = omega arith;
        rows = record {
          variables = s.rows.variables;
          whole = s.rows.whole;
          class_places = ap length p.numbered ∙ row_stays n h (cut_numbers n table h) class_row cut (length_cut_numbers n h cut table) s.rows.class_places;
          first_places = ap length p.placed ∙ row_stays n h (cut_firsts n table h) first_row cut (length_cut_firsts n h cut table) s.rows.first_places;
        };
        count_places = length-set count_row h count ∙ s.count_places;
        searches = record {
          tried_places = ap length p.tried ∙ row_stays n h (cut_tries n table h) tried_row cut (length_cut_tries n h cut table) s.searches.tried_places;
          uses_places = ap length p.used ∙ row_stays n h (cut_uses n table h) uses_row cut (length_cut_uses n table h cut) s.searches.uses_places;
          use_count_places = ap length p.use_counted ∙ row_stays n h (cut_use_row n table h) use_count_row cut (length_cut_use_row n table h cut) s.searches.use_count_places;
        };
        numbered = ap (take (cut_place (suc h))) p.numbered ∙ row_grows n h (cut_numbers n table) class_row cut (length_cut_numbers n h cut table) s.rows.class_places s.numbered;
        placed = ap (take (cut_place (suc h))) p.placed ∙ row_grows n h (cut_firsts n table) first_row cut (length_cut_firsts n h cut table) s.rows.first_places s.placed;
        counted =
            take-suc-set count_row h count (let r = s.count_places in omega arith)
            ∙ ap₂ (λ l k. l ++ k ∷ []) s.counted p.counted
            ∙ sym (map_append (class_count n table) (numbers_from 0 h) (h ∷ []))
            ∙ ap (map (class_count n table)) (ap (λ k. numbers_from 0 h ++ k ∷ []) (sym (zero-add h)) ∙ sym (range_suc 0 h));
        tried = ap (take (cut_place (suc h))) p.tried ∙ row_grows n h (cut_tries n table) tried_row cut (length_cut_tries n h cut table) s.searches.tried_places s.tried;
        used = ap (take (cut_place (suc h))) p.used ∙ row_grows n h (cut_uses n table) uses_row cut (length_cut_uses n table h cut) s.searches.uses_places s.used;
        use_counted = ap (take (cut_place (suc h))) p.use_counted ∙ row_grows n h (cut_use_row n table) use_count_row cut (length_cut_use_row n table h cut) s.searches.use_count_places s.use_counted;
      })

-- When all cuts are classed, the rows are whole.
pub cuts_done : (n : ℕ) (table : List ℤ) (class_row first_row count_row tried_row uses_row use_count_row : List ℕ) → CutsSoFar n table (suc n) class_row first_row count_row tried_row uses_row use_count_row
    → AllClassed n table class_row first_row count_row × AllSearched n table tried_row uses_row use_count_row
unfolding all_numbers all_firsts all_counts all_tries all_uses all_use_rows
cuts_done n table class_row first_row count_row tried_row uses_row use_count_row s = (
  record {
    numbered = all_noted class_row _ _ s.rows.class_places s.numbered;
    placed = all_noted first_row _ _ s.rows.first_places s.placed;
    counted = all_noted count_row _ _ s.count_places s.counted;
  },
  record {
    tried = all_noted tried_row _ _ s.searches.tried_places s.tried;
    used = all_noted uses_row _ _ s.searches.uses_places s.used;
    use_counted = all_noted use_count_row _ _ s.searches.use_count_places s.use_counted;
  },
)

-- The same, where the loop has come behind the last cut.
pub cuts_end : {n h : ℕ} {table : List ℤ} {class_row first_row count_row tried_row uses_row use_count_row : List ℕ} → h ≡ suc n → CutsSoFar n table h class_row first_row count_row tried_row uses_row use_count_row
    → record { all_classed : AllClassed n table class_row first_row count_row; all_searched : AllSearched n table tried_row uses_row use_count_row }
cuts_end {n} {h} {table} {class_row} {first_row} {count_row} {tried_row} {uses_row} {use_count_row} e s =
    let done = cuts_done n table class_row first_row count_row tried_row uses_row use_count_row (subst (λ k. CutsSoFar n table k class_row first_row count_row tried_row uses_row use_count_row) e s) in
    record { all_classed = done.0; all_searched = done.1 }
