-- A piece of text for each element of a list, written one behind the other by a loop.
use Rattle.std.specs.Prelude.{ℕ, ◌+◌, ◌≤◌, ◌<◌, ◌≡◌, refl, length, get_or, take, drop, ℤ}
use Rattle.std.proofs.Common.{sym, ◌∙◌, add-one, arith, length-append, take-append-drop, take-suc, take_all}
use Rattle.std.proofs.Math.Path.{ap}
use mathlib.Core.List.{List, [], ◌∷◌, ◌++◌, flat_map, append-nil, append_assoc}
use Rattle.numbers.proofs.Laws.Selections.{flat_map_append}
use Rattle.lines.specs.Text.{decimal, fields}
use Rattle.lines.specs.Inner.Writing.{Writes, field}
use Rattle.lines.proofs.Laws.Writing.{nothing_yet, writes_behind, same_room}

-- The pieces of the first so many elements are written.
pub record PiecesWritten {A : Type 0} (piece : A → List ℕ) (l : List A) (row : List ℕ) (at i next : ℕ) (row' : List ℕ) : Type 0 where
  pub inside : i ≤ length l
  pub written : Writes row at (flat_map piece (take i l)) next row'

module _ {A : Type 0} (piece : A → List ℕ) (l : List A) (row : List ℕ) (at : ℕ) where
  -- None is written yet.
  pub no_pieces : PiecesWritten piece l row at 0 at row
  unfolding flat_map
  no_pieces = record { inside = omega arith; written = nothing_yet row at }

  -- The pieces so far and those that are left.
  pieces_split : (i : ℕ) → flat_map piece l ≡ flat_map piece (take i l) ++ flat_map piece (drop i l)
  pieces_split i = ap (flat_map piece) (sym (take-append-drop i l)) ∙ flat_map_append piece (take i l) (drop i l)

  -- One more.
  pieces_next : (i : ℕ) (d : A) → i < length l → flat_map piece (take (i + 1) l) ≡ flat_map piece (take i l) ++ piece (get_or l i d)
  unfolding flat_map
  pieces_next i d h =
      ap (λ k. flat_map piece (take k l)) (add-one i)
      ∙ ap (flat_map piece) (take-suc l i d h)
      ∙ flat_map_append piece (take i l) (get_or l i d ∷ [])
      ∙ ap (λ more. flat_map piece (take i l) ++ more) (append-nil (piece (get_or l i d)))

  module _ {i next : ℕ} {row' : List ℕ} (p : PiecesWritten piece l row at i next row') (room : at + length (flat_map piece l) ≤ length row) where
    -- What is written so far had room.
    so_far : at + length (flat_map piece (take i l)) ≤ length row
    so_far =
        let whole = ap length (pieces_split i) ∙ length-append (flat_map piece (take i l)) (flat_map piece (drop i l)) in
        omega arith

    -- The buffer is as long as before.
    pub pieces_kept : length row' ≡ length row
    pieces_kept = same_room p.written so_far

    -- The place behind them is in the buffer.
    pub pieces_behind : next ≤ length row
    pieces_behind = let b = p.written.behind in let s = so_far in omega arith

    -- The next piece has room.
    pub piece_room : (d : A) → i < length l → next + length (piece (get_or l i d)) ≤ length row
    piece_room d h =
        let whole = ap length (pieces_split (i + 1)) ∙ length-append (flat_map piece (take (i + 1) l)) (flat_map piece (drop (i + 1) l)) in
        let front = ap length (pieces_next i d h) ∙ length-append (flat_map piece (take i l)) (piece (get_or l i d)) in
        let b = p.written.behind in
        omega arith

    -- The next piece is written.
    pub piece_written : {last : ℕ} {row'' : List ℕ} (d : A) → i < length l → Writes row' next (piece (get_or l i d)) last row'' → PiecesWritten piece l row at (i + 1) last row''
    piece_written d h w = record { inside = omega arith; written = rw (pieces_next i d h) (writes_behind p.written so_far w) }

    -- All are.
    pub all_pieces : length l ≤ i → Writes row at (flat_map piece l) next row'
    all_pieces e = rw (take_all i l e) at p.written

-- Every byte is a piece of its own.
pub byte_pieces : (l : List ℕ) → flat_map (λ byte. byte ∷ []) l ≡ l
unfolding flat_map
byte_pieces [] = refl
byte_pieces (byte ∷ l) = ap (λ rest. byte ∷ rest) (byte_pieces l)

-- The fields of a line, each a piece of its own, and the newline byte.
pub field_pieces : (numbers : List ℤ) → fields numbers ≡ flat_map field numbers ++ 10 ∷ []
unfolding flat_map fields field
field_pieces [] = refl
field_pieces (z ∷ numbers) = ap (λ rest. 32 ∷ decimal z ++ rest) (field_pieces numbers) ∙ sym (append_assoc (32 ∷ decimal z) (flat_map field numbers) (10 ∷ []))
