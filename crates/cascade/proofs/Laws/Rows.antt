-- The numbers of cells in a row, cell by cell.
use Rattle.std.specs.Prelude.{ℕ, ◌+◌, ◌*◌, ◌≤◌, ◌<◌, ◌≡◌, length, take, set}
use Rattle.std.proofs.Math.Path.{refl, sym, ap}
use Rattle.std.proofs.Common.{◌∙◌, add-one, arith, drop_of_length-le, take-suc, take_all, length-take-le}
use mathlib.Core.List.{List, [], ◌∷◌, ◌++◌, flat_map, append-nil}
use Rattle.std.proofs.Math.ListN.{get_or}
use Rattle.numbers.specs.Lists.{overwritten}
use Rattle.numbers.proofs.Laws.Rows.{six_stored, overwritten_front, overwritten_none}
use Rattle.numbers.proofs.Laws.Selections.{flat_map_append}
use Rattle.numbers.proofs.Laws.Written.{length_kept, written_behind, stored_behind}
use Rattle.cascade.specs.Plan.{no_cell}
use Rattle.cascade.specs.declared.Cell.{Cell}
use Rattle.cascade.specs.Rows.{cell_row}

-- A cell takes seven places.
rows_length : (l : List Cell) → length (flat_map cell_row l) ≡ 7 * length l
unfolding flat_map cell_row
rows_length [] = refl
rows_length (cell ∷ l) = let r = rows_length l in omega arith

-- The rows of the first k cells, in front of what was there.
pub record RowsTo (cells : List Cell) (blank : List ℕ) (k : ℕ) (row : List ℕ) : Type 0 where
  pub inside : k ≤ length cells
  pub written : row ≡ overwritten blank 0 (flat_map cell_row (take k cells))

module _ (cells : List Cell) (blank : List ℕ) (places : length blank ≡ 7 * length cells) where
  pub no_rows : RowsTo cells blank 0 blank
  unfolding flat_map
  no_rows = record { inside = omega arith; written = sym (overwritten_none blank 0) }

  module _ (k : ℕ) (row : List ℕ) (s : RowsTo cells blank k row) where
    -- One more.
    pub row_more : k < length cells → let cell = get_or cells k no_cell in let at = 7 * k in RowsTo cells blank (k + 1) (set (set (set (set (set (set (set row at cell.group) (at + 1) cell.incoming) (at + 2) cell.outgoing) (at + 3) cell.width) (at + 4) cell.bits) (at + 5) cell.common) (at + 6) cell.uses)
    unfolding cell_row flat_map
    row_more l =
        let cell = get_or cells k no_cell in
        let done = flat_map cell_row (take k cells) in
        let long = rows_length (take k cells) ∙ ap (λ m. 7 * m) (length-take-le k cells s.inside) in
        let kept = length_kept blank 0 done s.written (omega arith) in
        let most = six_stored row (7 * k) cell.group cell.incoming cell.outgoing cell.width cell.bits cell.common (omega arith) in
        let all = stored_behind row (7 * k) (cell.group ∷ cell.incoming ∷ cell.outgoing ∷ cell.width ∷ cell.bits ∷ cell.common ∷ []) most (7 * k + 6) cell.uses refl (omega arith) in
        let more = ap (λ m. flat_map cell_row (take m cells)) (add-one k) ∙ ap (flat_map cell_row) (take-suc cells k no_cell l) ∙ flat_map_append cell_row (take k cells) (cell ∷ []) in
        record { inside = omega arith; written = written_behind blank 0 done s.written (7 * k) (cell_row cell) all (omega arith) (omega arith) ∙ ap (overwritten blank 0) (sym more) }

    -- The numbers of one more, written at once.
    pub row_written : {row' : List ℕ} → k < length cells → row' ≡ overwritten row (7 * k) (cell_row (get_or cells k no_cell)) → RowsTo cells blank (k + 1) row'
    unfolding cell_row flat_map
    row_written l e =
        let cell = get_or cells k no_cell in
        let done = flat_map cell_row (take k cells) in
        let long = rows_length (take k cells) ∙ ap (λ m. 7 * m) (length-take-le k cells s.inside) in
        let more = ap (λ m. flat_map cell_row (take m cells)) (add-one k) ∙ ap (flat_map cell_row) (take-suc cells k no_cell l) ∙ flat_map_append cell_row (take k cells) (cell ∷ []) in
        record { inside = omega arith; written = written_behind blank 0 done s.written (7 * k) (cell_row cell) e (omega arith) (omega arith) ∙ ap (overwritten blank 0) (sym more) }

    -- All of them.
    pub all_rows : length cells ≤ k → row ≡ flat_map cell_row cells
    all_rows l =
        s.written
        ∙ ap (λ c. overwritten blank 0 (flat_map cell_row c)) (take_all k cells l)
        ∙ overwritten_front blank (flat_map cell_row cells)
        ∙ ap (λ rest. flat_map cell_row cells ++ rest) (drop_of_length-le blank {i = length (flat_map cell_row cells)} (let r = rows_length cells in omega arith))
        ∙ append-nil (flat_map cell_row cells)
