-- A row whose first so many entries are made anew by a rule, from the last of them down: what is not made yet is as it was.
use Prim.Native.Nat.{ℕ, suc, ◌+◌, ◌-◌, ◌≤◌, ◌<◌}
use Rattle.std.specs.Prelude.{◌≡◌, List, [], ◌∷◌, ◌++◌, map, length, get_or, take, drop}
use Rattle.std.proofs.Common.{sym, ◌∙◌, append_assoc, zero-add, add-one, take-suc, length-take-le}
use Rattle.std.proofs.Math.Path.{ap}
use native.Mathlib.Omega.{arith}
use Rattle.std.proofs.Math.ListN.{set}
use Rattle.std.proofs.lemmas.List.{length-map, set_at}
use Rattle.numbers.specs.Lists.{numbers_from, overwritten}
use Rattle.numbers.proofs.Laws.Lists.{length_range, get_d_range, get_d_map}
use Rattle.numbers.proofs.Laws.Overwriting.{length_overwritten}
use Rattle.numbers.proofs.Laws.Rows.{earlier_entry, new_entry, overwritten_none}

-- One entry more, stored before new ones.
store_before : {A : Type 0} (row : List A) (at : ℕ) (new : List A) (a : A) → at < length row → set (overwritten row (suc at) new) at a ≡ overwritten row at (a ∷ new)
unfolding overwritten
store_before row at new a h =
    ap (λ front. set (front ++ (new ++ drop (suc at + length new) row)) at a) (take-suc row at a h)
    ∙ ap (λ l. set l at a) (append_assoc (take at row) (get_or row at a ∷ []) (new ++ drop (suc at + length new) row))
    ∙ set_at (take at row) (get_or row at a) (new ++ drop (suc at + length new) row) a at (length-take-le at row (omega arith))
    ∙ ap (λ k. take at row ++ a ∷ (new ++ drop k row)) (let e : suc at + length new ≡ at + length (a ∷ new) = omega arith in e)

module _ {A : Type 0} (f : ℕ → A) (row : List A) (count : ℕ) where
  -- The row with the entries from a place on made.
  unfoldable pub made_from : ℕ → List A
  made_from at = overwritten row at (map f (numbers_from at (count - at)))

  made_count : (at : ℕ) → length (map f (numbers_from at (count - at))) ≡ count - at
  made_count at = length-map (numbers_from at (count - at)) f ∙ length_range at (count - at)

  pub made_none : made_from count ≡ row
  unfolding made_from numbers_from
  made_none = ap (λ k. overwritten row count (map f (numbers_from count k))) (let e : count - count ≡ 0 = omega arith in e) ∙ overwritten_none row count

  module _ (room : count ≤ length row) where
    pub made_more : (at : ℕ) → at < count → set (made_from (at + 1)) at (f at) ≡ made_from at
    unfolding made_from numbers_from
    made_more at h =
        ap (λ k. set (overwritten row k (map f (numbers_from k (count - k)))) at (f at)) (add-one at)
        ∙ store_before row at (map f (numbers_from (suc at) (count - suc at))) (f at) (omega arith)
        ∙ ap (λ k. overwritten row at (map f (numbers_from at k))) (let e : suc (count - suc at) ≡ count - at = omega arith in e)

    fits : (at : ℕ) → at ≤ count → at + length (map f (numbers_from at (count - at))) ≤ length row
    fits at h = let l = made_count at in omega arith

    pub made_length : (at : ℕ) → at ≤ count → length (made_from at) ≡ length row
    unfolding made_from
    made_length at h = length_overwritten row at (map f (numbers_from at (count - at))) (fits at h)

    -- What is not made yet is as it was.
    pub made_earlier : (at p : ℕ) (d : A) → at ≤ count → p < at → get_or (made_from at) p d ≡ get_or row p d
    unfolding made_from
    made_earlier at p d h l = earlier_entry row at (map f (numbers_from at (count - at))) (fits at h) p d l

  -- All of them made.
  abbrev pub all_made : List A
  all_made = overwritten row 0 (map f (numbers_from 0 count))

  pub made_all : made_from 0 ≡ all_made
  unfolding made_from
  made_all = ap (λ k. overwritten row 0 (map f (numbers_from 0 k))) (let e : count - 0 ≡ count = omega arith in e)

  module _ (room : count ≤ length row) where
    all_count : length (map f (numbers_from 0 count)) ≡ count
    all_count = length-map (numbers_from 0 count) f ∙ length_range 0 count

    pub all_length : length all_made ≡ length row
    all_length = length_overwritten row 0 (map f (numbers_from 0 count)) (let l = all_count in omega arith)

    pub all_entry : (p : ℕ) (d : A) → p < count → get_or all_made p d ≡ f p
    all_entry p d l =
        ap (λ k. get_or all_made k d) (sym (zero-add p))
        ∙ new_entry row 0 (map f (numbers_from 0 count)) (let c = all_count in omega arith) p d (let c = all_count in omega arith)
        ∙ get_d_map f (numbers_from 0 count) p 0 d (let c = length_range 0 count in omega arith)
        ∙ ap f (get_d_range 0 count p 0 l ∙ zero-add p)
