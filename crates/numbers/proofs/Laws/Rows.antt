-- Rows that grow at the end: what passes a test in two parts and in one element more, and new entries from a place on.
use Prim.Native.Nat.{ℕ, suc, ◌+◌, ◌-◌, ◌≤◌, ◌<◌}
use Rattle.std.specs.Prelude.{◌≡◌, Bool, true, false}
use Rattle.std.proofs.Math.Path.{sym, ap, ap₂}
use Rattle.std.proofs.Common.{◌∙◌, zero-add, add-zero, take-append-drop, take-suc, length-take-le, drop-cons, get_or-drop}
use mathlib.Core.List.{List, [], ◌∷◌, ◌++◌, append_assoc, append-nil}
use native.Mathlib.Omega.{arith}
use Rattle.std.proofs.Math.ListN.{length, get_or, take, drop, set, length-append, get_or-append}
use Rattle.std.proofs.Math.Seq.{split_at, drop-append-add, drop-drop, get_or-append_seam, get_or-append-add, get_or-take, set_at}
use Rattle.std.proofs.lemmas.List.Edits.{sets-eq}
use Rattle.numbers.specs.Lists.{keep, overwritten}
use Rattle.numbers.proofs.Laws.Overwriting.{take_overwritten}
use Rattle.numbers.proofs.Laws.Selections.{keep_passed, keep_failed, keep_append}

module _ {A : Type 0} (test : A → Bool) where
  -- Of a list and one element more.
  pub keep_one : (a : A) → test a ≡ true → keep test (a ∷ []) ≡ a ∷ []
  unfolding keep
  keep_one a e = keep_passed test a [] e

  pub keep_other : (a : A) → test a ≡ false → keep test (a ∷ []) ≡ []
  unfolding keep
  keep_other a e = keep_failed test a [] e

  module _ (l : List A) (d : A) (c : ℕ) (below : c < length l) where
    -- Of the first elements, with the next that passes or fails.
    pub keep_next : test (get_or l c d) ≡ true → keep test (take (suc c) l) ≡ keep test (take c l) ++ get_or l c d ∷ []
    keep_next e = ap (keep test) (take-suc l c d below) ∙ keep_append test (take c l) (get_or l c d ∷ []) ∙ ap (λ k. keep test (take c l) ++ k) (keep_one (get_or l c d) e)

    pub keep_same : test (get_or l c d) ≡ false → keep test (take (suc c) l) ≡ keep test (take c l)
    keep_same e = ap (keep test) (take-suc l c d below) ∙ keep_append test (take c l) (get_or l c d ∷ []) ∙ ap (λ k. keep test (take c l) ++ k) (keep_other (get_or l c d) e) ∙ append-nil (keep test (take c l))

    -- An element that passes stands behind those before it that do.
    kept_split : test (get_or l c d) ≡ true → keep test l ≡ keep test (take c l) ++ get_or l c d ∷ keep test (drop (suc c) l)
    kept_split e =
        ap (keep test) (split_at l c d below)
        ∙ keep_append test (take c l) (get_or l c d ∷ drop (suc c) l)
        ∙ ap (λ k. keep test (take c l) ++ k) (keep_passed test (get_or l c d) (drop (suc c) l) e)

    pub kept_at : test (get_or l c d) ≡ true → get_or (keep test l) (length (keep test (take c l))) d ≡ get_or l c d
    kept_at e = ap (λ k. get_or k (length (keep test (take c l))) d) (kept_split e) ∙ get_or-append_seam (keep test (take c l)) (get_or l c d) (keep test (drop (suc c) l)) d

    pub kept_below : test (get_or l c d) ≡ true → length (keep test (take c l)) < length (keep test l)
    kept_below e = rw (kept_split e, length-append) (omega arith)

-- Six entries, stored one by one.
pub six_stored : {A : Type 0} (row : List A) (at : ℕ) (a b c d e f : A) → at + 6 ≤ length row → set (set (set (set (set (set row at a) (at + 1) b) (at + 2) c) (at + 3) d) (at + 4) e) (at + 5) f ≡ overwritten row at (a ∷ b ∷ c ∷ d ∷ e ∷ f ∷ [])
unfolding overwritten
six_stored row at a b c d e f h =
    rw (one, two, three, four, five) (sets-eq (a ∷ b ∷ c ∷ d ∷ e ∷ f ∷ []) row at h ∙ append_assoc (take at row) (a ∷ b ∷ c ∷ d ∷ e ∷ f ∷ []) (drop (at + 6) row))
  where
    one : at + 1 ≡ suc at
    one = omega arith

    two : at + 2 ≡ suc (suc at)
    two = omega arith

    three : at + 3 ≡ suc (suc (suc at))
    three = omega arith

    four : at + 4 ≡ suc (suc (suc (suc at)))
    four = omega arith

    five : at + 5 ≡ suc (suc (suc (suc (suc at))))
    five = omega arith

-- ---- a row with new entries from a place on

module _ {A : Type 0} (row : List A) (at : ℕ) (new : List A) (room : at + length new ≤ length row) where
  -- Its front and its rest.
  front_length : length (take at row ++ new) ≡ at + length new
  front_length = length-append (take at row) new ∙ ap (λ k. k + length new) (length-take-le at row (omega arith))

  parts : overwritten row at new ≡ (take at row ++ new) ++ drop (at + length new) row
  unfolding overwritten
  parts = sym (append_assoc (take at row) new (drop (at + length new) row))

  -- More entries behind the new ones.
  pub overwritten_more : (more : List A) → overwritten (overwritten row at new) (at + length new) more ≡ overwritten row at (new ++ more)
  unfolding overwritten
  overwritten_more more =
      ap₂ (λ a b. a ++ (more ++ b)) (take_overwritten row at new (omega arith)) rest
      ∙ append_assoc (take at row) new (more ++ drop (at + length (new ++ more)) row)
      ∙ ap (λ l. take at row ++ l) (sym (append_assoc new more (drop (at + length (new ++ more)) row)))
    where
      rest : drop (at + length new + length more) (overwritten row at new) ≡ drop (at + length (new ++ more)) row
      rest =
          ap₂ (λ k l. drop (k + length more) l) (sym front_length) parts
          ∙ drop-append-add (take at row ++ new) (drop (at + length new) row) (length more)
          ∙ drop-drop (length more) (at + length new) row
          ∙ ap (λ k. drop k row) (let e = length-append new more in let p : at + length new + length more ≡ at + length (new ++ more) = omega arith in p)

  -- One entry more, stored behind them.
  pub store_behind : (a : A) → at + length new < length row → set (overwritten row at new) (at + length new) a ≡ overwritten row at (new ++ a ∷ [])
  unfolding overwritten
  store_behind a l =
      ap (λ r. set r (at + length new) a) (parts ∙ ap (λ r. (take at row ++ new) ++ r) (drop-cons row (at + length new) a l))
      ∙ set_at (take at row ++ new) (get_or row (at + length new) a) (drop (suc (at + length new)) row) a (at + length new) front_length
      ∙ append_assoc (take at row) new (a ∷ drop (suc (at + length new)) row)
      ∙ ap (λ r. take at row ++ r) (sym (append_assoc new (a ∷ []) (drop (suc (at + length new)) row)) ∙ ap (λ k. (new ++ a ∷ []) ++ drop k row) (let e = length-append new (a ∷ []) in let p : suc (at + length new) ≡ at + length (new ++ a ∷ []) = omega arith in p))

  -- An entry before them, a new one, and one behind them.
  pub earlier_entry : (p : ℕ) (d : A) → p < at → get_or (overwritten row at new) p d ≡ get_or row p d
  unfolding overwritten
  earlier_entry p d l =
      get_or-append (take at row) (new ++ drop (at + length new) row) d p (rw (length-take-le at row (omega arith)) l)
      ∙ get_or-take at row p d l

  pub new_entry : (c : ℕ) (d : A) → c < length new → get_or (overwritten row at new) (at + c) d ≡ get_or new c d
  unfolding overwritten
  new_entry c d l =
      ap (λ k. get_or (overwritten row at new) (k + c) d) (sym (length-take-le at row (omega arith)))
      ∙ get_or-append-add (take at row) (new ++ drop (at + length new) row) c d
      ∙ get_or-append new (drop (at + length new) row) d c l

  pub later_entry : (p : ℕ) (d : A) → at + length new ≤ p → get_or (overwritten row at new) p d ≡ get_or row p d
  later_entry p d l =
      ap₂ (λ r k. get_or r k d) parts (let q : p ≡ at + length new + (p - (at + length new)) = omega arith in q)
      ∙ ap (λ k. get_or ((take at row ++ new) ++ drop (at + length new) row) (k + (p - (at + length new))) d) (sym front_length)
      ∙ get_or-append-add (take at row ++ new) (drop (at + length new) row) (p - (at + length new)) d
      ∙ get_or-drop (at + length new) row (p - (at + length new)) d
      ∙ ap (λ k. get_or row k d) (let q : at + length new + (p - (at + length new)) ≡ p = omega arith in q)

-- New entries from the start on.
pub overwritten_front : {A : Type 0} (row new : List A) → overwritten row 0 new ≡ new ++ drop (length new) row
unfolding overwritten
overwritten_front row new = ap (λ k. new ++ drop k row) (zero-add (length new))

-- No new entries.
pub overwritten_none : {A : Type 0} (row : List A) (at : ℕ) → overwritten row at [] ≡ row
unfolding overwritten
overwritten_none row at = ap (λ k. take at row ++ drop k row) (add-zero at) ∙ take-append-drop at row

-- A new front of a row, and the rest of it.
pub filled_front : {A : Type 0} (row new : List A) {front : List A} {k : ℕ} → front ≡ new → k ≡ length new → front ++ drop k row ≡ overwritten row 0 new
filled_front row new e l = ap₂ (λ f k. f ++ drop k row) e l ∙ sym (overwritten_front row new)
