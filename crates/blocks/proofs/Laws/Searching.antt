-- Searching known lists in an order of their numbers, where each list has its own number.
use Prim.Native.Nat.{ℕ, zero, suc, ◌≤◌, ◌<◌}
use Rattle.std.specs.Prelude.{◌≡◌, true, false, length, get_or, ℤ}
use Rattle.std.proofs.Math.Path.{refl, sym, ap}
use Rattle.std.proofs.Common.{◌∙◌, true≢false, arith}
use mathlib.Core.List.{List, [], ◌∷◌}
use Rattle.numbers.proofs.Laws.Bools.{yes_or_no}
use Rattle.blocks.specs.Classes.{same, number_in}
use Rattle.blocks.proofs.Laws.Known.{number_le, number_at, known_or_new}
use Rattle.blocks.proofs.Laws.Same.{same_true, equal_same}
use Rattle.blocks.specs.Searching.{found_in, compared_in, OrderOf}
use Rattle.blocks.specs.Tries.{looked_until}
use Rattle.blocks.proofs.Laws.Order.{until_here, until_later}

module _ (known : List (List ℤ)) (own : (k : ℕ) → k < length known → number_in known (get_or known k []) ≡ k) (d : List ℤ) where
  -- An equal list has the number,
  equal_number : (k : ℕ) → k < length known → same (get_or known k []) d ≡ true → k ≡ number_in known d
  equal_number k l e = sym (own k l) ∙ ap (number_in known) (same_true (get_or known k []) d e)

  -- and another has not.
  other_number : (k : ℕ) → k < length known → same (get_or known k []) d ≡ false → k ≡ number_in known d → ⊥
  other_number k l e q = true≢false (sym (equal_same (get_or known k []) d (ap (λ m. get_or known m []) q ∙ number_at known d (let b = l in omega arith))) ∙ e)

  -- ---- one list looked at

  found_here : (looked : ℕ) (order : List ℕ) → same (get_or known looked []) d ≡ true → found_in known (looked ∷ order) d ≡ looked
  unfolding found_in
  found_here looked order e = rw (e, found_in)

  found_later : (looked : ℕ) (order : List ℕ) → same (get_or known looked []) d ≡ false → found_in known (looked ∷ order) d ≡ found_in known order d
  unfolding found_in
  found_later looked order e = rw (e, found_in)

  compared_here : (looked : ℕ) (order : List ℕ) → same (get_or known looked []) d ≡ true → compared_in known (looked ∷ order) d ≡ 1
  unfolding compared_in
  compared_here looked order e = rw (e, compared_in)

  compared_later : (looked : ℕ) (order : List ℕ) → same (get_or known looked []) d ≡ false → compared_in known (looked ∷ order) d ≡ suc (compared_in known order d)
  unfolding compared_in
  compared_later looked order e = rw (e, compared_in)

  -- ---- all of an order

  -- A number in the order is found.
  found_known : (order : List ℕ) → ((place : ℕ) → place < length order → get_or order place 0 < length known) → (place : ℕ) → place < length order → get_or order place 0 ≡ number_in known d → found_in known order d ≡ number_in known d
  found_known [] only place l e = absurd (omega arith)
  found_known (looked ∷ order) only zero l e =
      yes_or_no (same (get_or known looked []) d)
      (λ t. found_here looked order t ∙ e)
      (λ f. absurd (other_number looked (only 0 l) f e))
  found_known (looked ∷ order) only (suc place) l e =
      yes_or_no (same (get_or known looked []) d)
      (λ t. found_here looked order t ∙ equal_number looked (only 0 (omega arith)) t)
      (λ f. found_later looked order f ∙ found_known order (λ k m. only (suc k) (omega arith)) place (omega arith) e)

  -- A new list is not found.
  found_new : (order : List ℕ) → ((place : ℕ) → place < length order → get_or order place 0 < length known) → length known ≤ number_in known d → found_in known order d ≡ length known
  unfolding found_in
  found_new [] only new = refl
  found_new (looked ∷ order) only new =
      yes_or_no (same (get_or known looked []) d)
      (λ t. absurd (let e = equal_number looked (only 0 (omega arith)) t in let l = only 0 (omega arith) in omega arith))
      (λ f. found_later looked order f ∙ found_new order (λ k m. only (suc k) (omega arith)) new)

  pub found_in_lem : (order : List ℕ) → OrderOf (length known) order → found_in known order d ≡ number_in known d
  found_in_lem order o =
      known_or_new known d
      (λ old. let p = o.each (number_in known d) old in found_known order o.only p.0 p.1.0 p.1.1)
      (λ new. found_new order o.only new ∙ (let l = number_le known d in let e : length known ≡ number_in known d = omega arith in e))

  -- As many lists are compared as classes are looked at until the list's.
  pub compared_in_lem : (order : List ℕ) → ((place : ℕ) → place < length order → get_or order place 0 < length known) → compared_in known order d ≡ looked_until (number_in known d) order
  unfolding compared_in looked_until
  compared_in_lem [] only = refl
  compared_in_lem (looked ∷ order) only =
      yes_or_no (same (get_or known looked []) d)
      (λ t. compared_here looked order t ∙ sym (until_here (number_in known d) looked order (equal_number looked (only 0 (omega arith)) t)))
      (λ f.
      compared_later looked order f
      ∙ ap suc (compared_in_lem order (λ k m. only (suc k) (omega arith)))
      ∙ sym (until_later (number_in known d) looked order (other_number looked (only 0 (omega arith)) f)))
