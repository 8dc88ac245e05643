-- The cells of the chosen grouping, listed from the top cut down.
use Rattle.std.specs.Prelude.{Ok, ◌≡◌, List, [], ◌∷◌, ◌++◌, map, length, Option}
use Rattle.std.proofs.Math.Path.{refl, sym, ap, ap₂}
use Rattle.std.proofs.Common.{◌∙◌, append_assoc, append-nil, arith, length-append, lt-ltb, le-ltb, ℕ, zero, suc, ◌+◌, ◌-◌, ◌≤◌, ◌<◌}
use Rattle.std.proofs.Math.ListN.{set}
use Rattle.std.proofs.lemmas.List.{length-map}
use Rattle.numbers.specs.Lists.{padded}
use Rattle.numbers.specs.Ranges.{most_variables}
use Rattle.numbers.proofs.Laws.Lists.{map_append}
use Rattle.numbers.proofs.Laws.Padding.{set_padded}
use Rattle.cascade.specs.Plan.{no_cell}
use Rattle.cascade.specs.Inner.Choices.{table_choice}
use Rattle.cascade.specs.declared.Cell.{Cell}
use Rattle.cascade.specs.declared.Choice.{Choice}
use Rattle.cascade.proofs.Laws.Cells.{variables_most}
use Rattle.diagram.specs.declared.cuts.Cuts.{Cuts}
use Rattle.planner.specs.Inner.Listed.{size_at, chosen_cell, chosen_cells, CellChosen, ListChosen, listed_plan}
use Rattle.planner.proofs.Laws.Leading.{leads, size_is, moves}

-- ---- the cells, one by one

module _ (count_row use_count_row : List ℕ) (choices : List (Option Choice)) (n : ℕ) where
  pub cells_step : (most h : ℕ) → h < n → chosen_cells count_row use_count_row choices n (suc most) h ≡ chosen_cell count_row use_count_row choices h ∷ chosen_cells count_row use_count_row choices n most (h + size_at choices h)
  unfolding chosen_cells
  cells_step most h l = rw (lt-ltb h n l, chosen_cells)

  pub cells_end : (most h : ℕ) → n ≤ h → chosen_cells count_row use_count_row choices n most h ≡ []
  unfolding chosen_cells
  cells_end zero h l = refl
  cells_end (suc most) h l = rw (le-ltb h n l, chosen_cells)

-- The cells down to cut h are listed, and those from there on are left.
pub record ListedTo (cuts : Cuts) (use_count_row : List ℕ) (choices : List (Option Choice)) (h count : ℕ) (sizes : List ℕ) (cells : List Cell) : Type 0 where
  pub done : List Cell
  pub left : ℕ
  pub cut : h ≤ cuts.n
  pub enough : cuts.n - h ≤ left
  pub all : chosen_cells cuts.counts.now use_count_row choices cuts.n cuts.n 0 ≡ done ++ chosen_cells cuts.counts.now use_count_row choices cuts.n left h
  pub counted : count ≡ length done
  pub few : count ≤ h
  pub sized : sizes ≡ padded most_variables 0 (map (λ cell. cell.group) done)
  pub celled : cells ≡ padded most_variables no_cell done
  pub ahead : h < cuts.n → CellChosen cuts.n h cuts.table.now use_count_row choices

module _ (cuts : Cuts) {use_count_row : List ℕ} {choices : List (Option Choice)} (r : ListChosen cuts.n cuts.table.now use_count_row choices) where
  pub none_listed : ListedTo cuts use_count_row choices 0 0 (padded most_variables 0 []) (padded most_variables no_cell [])
  none_listed = record {
    done = [];
    left = cuts.n;
    cut = omega arith;
    enough = omega arith;
    all = refl;
    counted = refl;
    few = omega arith;
    sized = refl;
    celled = refl;
    ahead = λ l. record { known = r.known; cut = l; cost = r.cost; size = r.size; some = r.some };
  }

module _ (cuts : Cuts) {use_count_row : List ℕ} {choices : List (Option Choice)} (h count : ℕ) (sizes : List ℕ) (cells : List Cell) (s : ListedTo cuts use_count_row choices h count sizes cells) where
  open cuts use {n, admitted}

  abbrev count_row : List ℕ
  count_row = cuts.counts.now

  -- Above the bottom cut there is a place for one cell more.
  pub room_listed : h < n → count < 12
  room_listed l = let m = variables_most n cuts.table.now admitted in let f = s.few in omega arith

  pub one_listed : (l : h < n) → ListedTo cuts use_count_row choices (h + size_at choices h) (count + 1) (set sizes count (size_at choices h)) (set cells count (chosen_cell count_row use_count_row choices h))
  unfolding most_variables chosen_cell
  one_listed l = record {
    done = s.done ++ cell ∷ [];
    left = s.left - 1;
    cut = (moves cuts here).1;
    enough = let m = (moves cuts here).0 in let e = s.enough in omega arith;
    all = s.all ∙ ap (λ rest. s.done ++ rest) (ap (λ most. chosen_cells count_row use_count_row choices n most h) (let e : s.left ≡ suc (s.left - 1) = (let f = s.enough in omega arith) in e) ∙ cells_step count_row use_count_row choices n (s.left - 1) h l) ∙ sym (append_assoc s.done (cell ∷ []) _);
    counted = ap (λ k. k + 1) s.counted ∙ sym (length-append s.done (cell ∷ []));
    few = let m = (moves cuts here).0 in let f = s.few in omega arith;
    sized =
        ap₂ (λ row k. set row k (size_at choices h)) s.sized (s.counted ∙ sym (length-map s.done (λ c. c.group)))
        ∙ set_padded 0 12 (map (λ c. c.group) s.done) (size_at choices h) (rw (length-map s.done (λ c. c.group)) place)
        ∙ ap (padded 12 0) (sym (map_append (λ c. c.group) s.done (cell ∷ [])));
    celled = ap₂ (λ row k. set row k cell) s.celled s.counted ∙ set_padded no_cell 12 s.done cell place;
    ahead = λ m. record { known = here.known; cut = m; cost = (leads cuts here).rest; size = (leads cuts here).next; some = ap (λ k. table_choice n cuts.table.now here.known.limit (h + k)) (size_is cuts here) ∙ (leads cuts here).below };
  }
    where
      here : CellChosen n h cuts.table.now use_count_row choices
      here = s.ahead l

      cell : Cell
      cell = chosen_cell count_row use_count_row choices h

      place : length s.done < 12
      place = let c = s.counted in let f = room_listed l in omega arith

  -- At the bottom cut all are listed.
  all_listed : n ≤ h → chosen_cells count_row use_count_row choices n n 0 ≡ s.done
  all_listed l = s.all ∙ ap (λ rest. s.done ++ rest) (cells_end count_row use_count_row choices n s.left h l) ∙ append-nil s.done

  pub plan_listed : n ≤ h → (bits : ℕ) → record { verdict = Ok (record { cells = count; bits = bits }); sizes = sizes; cells = cells } ≡ listed_plan (chosen_cells count_row use_count_row choices n n 0) bits
  unfolding listed_plan
  plan_listed l bits =
      (λ t. record { verdict = Ok (record { cells = s.counted t; bits = bits }); sizes = s.sized t; cells = s.celled t })
      ∙ ap (λ all. listed_plan all bits) (sym (all_listed l))
