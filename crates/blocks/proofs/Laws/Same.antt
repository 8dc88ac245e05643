-- The test for equal lists says just that.
use Rattle.std.specs.Prelude.{◌≡◌, refl, true, List, [], ◌∷◌, ℤ}
use Rattle.std.proofs.Common.{sym, ◌∙◌, ap, ap₂}
use Rattle.std.proofs.lemmas.Bool.{false≢true}
use Rattle.numbers.specs.Ranges.{eq_z}
use Rattle.numbers.proofs.Laws.Bools.{both, and_both}
use Rattle.numbers.proofs.Laws.Integers.{eq_z_true, eq_z_refl}
use Rattle.blocks.specs.Classes.{same}

pub same_true : (left right : List ℤ) → same left right ≡ true → left ≡ right
unfolding same
same_true [] [] h = refl
same_true [] (z ∷ right) h = absurd (false≢true h)
same_true (y ∷ left) [] h = absurd (false≢true h)
same_true (y ∷ left) (z ∷ right) h =
    let parts = both (eq_z y z) (same left right) h in ap₂ (λ a l. a ∷ l) (eq_z_true y z parts.0) (same_true left right parts.1)

pub same_refl : (l : List ℤ) → same l l ≡ true
unfolding same
same_refl [] = refl
same_refl (z ∷ l) = and_both (eq_z z z) (same l l) (eq_z_refl z) (same_refl l)

pub equal_same : (left right : List ℤ) → left ≡ right → same left right ≡ true
equal_same left right e = ap (same left) (sym e) ∙ same_refl left
