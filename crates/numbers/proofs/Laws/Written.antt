-- Pieces written into a row, one behind the other.
use Rattle.std.specs.Prelude.{ℕ, ◌+◌, ◌-◌, ◌≤◌, ◌<◌, ◌≡◌, List, [], ◌∷◌, ◌++◌, length, take, drop, set}
use Rattle.std.proofs.Common.{sym, ◌∙◌, ap, ap₂, append-nil, add-one, arith, length-drop, drop_of_length-le, take_all, drop-drop}
use Rattle.std.proofs.lemmas.List.{set_split}
use borrow.Rule.Slice.PartMut.{put_mid}
use Rattle.numbers.specs.Lists.{overwritten}
use Rattle.numbers.proofs.Laws.Overwriting.{length_overwritten}
use Rattle.numbers.proofs.Laws.Rows.{overwritten_more, overwritten_front}

-- One entry stored.
pub one_stored : {A : Type 0} (row : List A) (at : ℕ) (a : A) → at < length row → set row at a ≡ overwritten row at (a ∷ [])
unfolding overwritten
one_stored row at a h = set_split row at a h ∙ ap (λ k. take at row ++ a ∷ drop k row) (sym (add-one at))

-- The buffer after a piece was written into it.
module _ {A : Type 0} {row' : List A} (row : List A) (at : ℕ) (new : List A) (e : row' ≡ overwritten row at new) where
  -- It is as long as before.
  pub length_kept : at + length new ≤ length row → length row' ≡ length row
  length_kept room = ap length e ∙ length_overwritten row at new room

  -- A second piece behind the first: both are one.
  pub written_behind : {row'' : List A} (next : ℕ) (more : List A) → row'' ≡ overwritten row' next more → at + length new ≡ next → next ≤ length row → row'' ≡ overwritten row at (new ++ more)
  written_behind next more f n room = f ∙ ap₂ (λ r k. overwritten r k more) e (sym n) ∙ overwritten_more row at new (omega arith) more

  -- One entry more, stored behind them.
  pub stored_behind : (next : ℕ) (a : A) → at + length new ≡ next → next < length row → set row' next a ≡ overwritten row at (new ++ a ∷ [])
  stored_behind next a n room =
      let same = length_kept (omega arith) in
      written_behind next (a ∷ []) (one_stored row' next a (omega arith)) n (omega arith)

-- A tail that was lent and comes back with a piece in front: the piece stands from the tail's place on.
pub tail_back : {A : Type 0} {tail : List A} (row : List A) (at : ℕ) (new : List A) → tail ≡ overwritten (take (length row - at) (drop at row)) 0 new → put_mid at (length row - at) row tail ≡ overwritten row at new
unfolding overwritten
tail_back {tail = tail} row at new e = ap₂ (λ front rest. take at row ++ (front ++ rest)) front none ∙ ap (λ l. take at row ++ l) (append-nil (new ++ drop (at + length new) row))
  where
    -- All of the row from the place on was lent.
    whole : length (drop at row) ≤ length row - at
    whole = let l = length-drop at row in omega arith

    front : tail ≡ new ++ drop (at + length new) row
    front =
        e
        ∙ ap (λ l. overwritten l 0 new) (take_all (length row - at) (drop at row) whole)
        ∙ overwritten_front (drop at row) new
        ∙ ap (λ l. new ++ l) (drop-drop (length new) at row)

    none : drop (length row - at) (drop at row) ≡ []
    none = drop_of_length-le (drop at row) whole
