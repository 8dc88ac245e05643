-- What the line of a record shows, where a buffer holds the record.
use Rattle.std.specs.Prelude.{ℕ, suc, ◌+◌, ◌-◌, ◌*◌, ◌≡◌, get_or, drop, ℤ, pos}
use Rattle.std.proofs.Common.{sym, ◌∙◌, ap, arith, get_or-drop, drop-drop, List, [], ◌∷◌, ◌++◌}
use mathlib.Core.List.{flat_map}
use Rattle.diagram.specs.Records.{Record, record_numbers, record_size}
use Rattle.diagram.specs.Walk.{number_at, variable_at, low_at, high_at, weight_at}
use Rattle.listing.specs.Listing.{shown_numbers}

-- The numbers that the line of record k of a buffer shows.
abbrev pub shown_at : List ℤ → ℕ → List ℤ
shown_at list k = variable_at list k ∷ low_at list k ∷ high_at list k ∷ weight_at list k ∷ []

-- Records stand in a buffer from place m on: the buffer shows the first one's numbers, and the others stand from the next place on.
pub shown_here : (r : Record) (rs : List Record) (list rest : List ℤ) (m : ℕ) → drop (record_size * m) list ≡ flat_map record_numbers (r ∷ rs) ++ rest
    → (shown_numbers r ≡ shown_at list (suc m)) × (drop (record_size * suc m) list ≡ flat_map record_numbers rs ++ rest)
unfolding flat_map shown_numbers variable_at low_at high_at weight_at number_at record_size record_numbers
shown_here r rs list rest m e = (sym shown, later)
  where
    number : (c : ℕ) → number_at list (suc m) c ≡ get_or (record_numbers r ++ (flat_map record_numbers rs ++ rest)) c (pos 0)
    number c = ap (λ k. get_or list (record_size * k + c) (pos 0)) (let one : suc m - 1 ≡ m = omega arith in one) ∙ sym (get_or-drop (record_size * m) list c (pos 0)) ∙ ap (λ l. get_or l c (pos 0)) e

    shown : shown_at list (suc m) ≡ shown_numbers r
    shown = rw (number 0, number 1, number 2, number 3)

    later : drop (record_size * suc m) list ≡ flat_map record_numbers rs ++ rest
    later = ap (λ k. drop k list) (let more : record_size * suc m ≡ record_size * m + record_size = omega arith in more) ∙ sym (drop-drop record_size (record_size * m) list) ∙ ap (drop record_size) e
