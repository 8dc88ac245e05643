-- A row in which a number is noted for each block, left to right; and that the rows of a cut stay as long.
use Rattle.std.specs.Prelude.{ℕ, suc, ◌<◌, ◌≡◌, List, [], ◌∷◌, ◌++◌, map, length, take, set, eqb}
use Rattle.std.proofs.Common.{sym, ◌∙◌, ap, ap₂, zero-add, length-set, take-suc-set}
use Rattle.std.proofs.lemmas.List.{map-append}
use Rattle.std.proofs.Math.Seq.{take-length}
use Rattle.numbers.specs.Lists.{numbers_from}
use Rattle.numbers.proofs.Laws.Bools.{yes_or_no}
use Rattle.numbers.proofs.Laws.Lists.{range_suc}
use Rattle.classes.specs.Inner.Noting.{firsts_noted, uses_noted}

-- One block more.
pub noted_next : (f : ℕ → ℕ) (row : List ℕ) (j v : ℕ) → j < length row → v ≡ f j → take j row ≡ map f (numbers_from 0 j) → take (suc j) (set row j v) ≡ map f (numbers_from 0 (suc j))
noted_next f row j v room is so_far =
    take-suc-set row j v room
    ∙ ap₂ (λ l t. l ++ t ∷ []) so_far is
    ∙ sym (map-append f (numbers_from 0 j) (j ∷ []))
    ∙ ap (map f) (ap (λ k. numbers_from 0 j ++ k ∷ []) (sym (zero-add j)) ∙ sym (range_suc 0 j))

-- When every place is noted, the row is whole.
pub all_noted : (row noted : List ℕ) (places : ℕ) → length row ≡ places → take places row ≡ noted → row ≡ noted
all_noted row noted places e t = sym (ap (λ n. take n row) (sym e) ∙ take-length row) ∙ t

pub length_firsts_noted : (first_row : List ℕ) (known j class : ℕ) → length (firsts_noted first_row known j class) ≡ length first_row
unfolding firsts_noted
length_firsts_noted first_row known j class =
    yes_or_no (eqb class known)
    (λ e. rw e (simp length-set))
    (λ e. rw e (simp length-set))

pub length_uses_noted : (use_count_row : List ℕ) (j class uses : ℕ) → length (uses_noted use_count_row j class uses) ≡ length use_count_row
unfolding uses_noted
length_uses_noted use_count_row j class uses = simp length-set
