-- Comparing two lists value by value, from the left.
use Rattle.std.specs.List.{list_all, zip}
use Rattle.std.specs.Prelude.{ℕ, suc, ◌+◌, ◌-◌, ◌<◌, ◌≡◌, refl, true, false, ◌&&◌, List, [], ◌∷◌, map, length, get_or, drop, ℤ, pos, ◌+ℤ◌, ◌-ℤ◌}
use Rattle.std.proofs.Common.{eqb, ne_eqb, sym, ◌∙◌, ap, map-id, add-one, arith, drop-cons}
use Rattle.std.proofs.Math.Path.{ap₂}
use Rattle.std.proofs.Math.Bool.{and-false}
use Rattle.std.proofs.lemmas.Bool.{false≢true}
use Rattle.std.proofs.lemmas.List.{length-map}
use Rattle.std.proofs.Math.Seq.{drop-length}
use Rattle.std.proofs.Math.IntN.{+ℤ-neg_ℤ_cancel}
use Rattle.numbers.specs.Ranges.{eq_z}
use Rattle.numbers.proofs.Laws.Bools.{yes_or_no}
use Rattle.numbers.proofs.Laws.Integers.{eq_z_true, eq_z_refl, sub_self, sub_zero, sub_add, sub_sub, sub_exchange}
use Rattle.numbers.proofs.Laws.Lists.{get_d_map, map_map, map_same}
use Rattle.blocks.specs.Blocks.{first, differences}
use Rattle.blocks.specs.Classes.{same}
use Rattle.blocks.specs.Inner.Layout.{less, last_difference}
use Rattle.blocks.proofs.Laws.Differences.{same_length}
use Rattle.blocks.proofs.Laws.Same.{same_true, equal_same}

pub length_less : (c : ℤ) (values : List ℤ) → length (less c values) ≡ length values
unfolding less
length_less c values = length-map values (λ v. v -ℤ c)

pub less_at : (c : ℤ) (values : List ℤ) (x : ℕ) → x < length values → get_or (less c values) x (pos 0) ≡ get_or values x (pos 0) -ℤ c
unfolding less
less_at c values x h = get_d_map (λ v. v -ℤ c) values x (pos 0) (pos 0) h

-- Nothing is taken away.
pub less_nothing : (values : List ℤ) → less (pos 0) values ≡ values
unfolding less
less_nothing values = map_same (λ v. v -ℤ pos 0) (λ v. v) values sub_zero ∙ map-id values

-- Lists of unlike length differ.
pub unlike_lengths : (left right : List ℤ) → (length left ≡ length right → ⊥) → same left right ≡ false
unfolding same
unlike_lengths [] [] h = absurd (h refl)
unlike_lengths [] (z ∷ right) h = refl
unlike_lengths (y ∷ left) [] h = refl
unlike_lengths (y ∷ left) (z ∷ right) h = ap (λ b. eq_z y z && b) (unlike_lengths left right (λ e. h (ap suc e))) ∙ and-false (eq_z y z)

module _ (left right : List ℤ) (x : ℕ) (in_left : x < length left) (in_right : x < length right) where
  one_step : same (drop x left) (drop x right) ≡ (eq_z (get_or left x (pos 0)) (get_or right x (pos 0)) && same (drop (suc x) left) (drop (suc x) right))
  unfolding same
  one_step = ap₂ same (drop-cons left x (pos 0) in_left) (drop-cons right x (pos 0) in_right)

  -- Where the values at x are equal, the rest decides.
  pub equal_here : get_or left x (pos 0) ≡ get_or right x (pos 0) → same (drop x left) (drop x right) ≡ same (drop (x + 1) left) (drop (x + 1) right)
  equal_here e =
      one_step
      ∙ ap (λ b. b && same (drop (suc x) left) (drop (suc x) right)) (ap (λ z. eq_z z (get_or right x (pos 0))) e ∙ eq_z_refl (get_or right x (pos 0)))
      ∙ ap (λ n. same (drop n left) (drop n right)) (sym (add-one x))

  -- Where they differ, the lists do.
  pub unlike_here : (get_or left x (pos 0) ≡ get_or right x (pos 0) → ⊥) → same (drop x left) (drop x right) ≡ false
  unlike_here h =
      one_step
      ∙ yes_or_no (eq_z (get_or left x (pos 0)) (get_or right x (pos 0))) (λ e. absurd (h (eq_z_true _ _ e))) (λ e. rw e)

-- Nothing is left to compare.
pub all_equal : (left right : List ℤ) (x : ℕ) → x ≡ length left → length left ≡ length right → same (drop x left) (drop x right) ≡ true
unfolding same
all_equal left right x e l =
    ap₂ same (ap (λ n. drop n left) e ∙ drop-length left) (ap (λ n. drop n right) (e ∙ l) ∙ drop-length right)

-- Two tests for equal integers agree where either's are equal only if the other's are.
eq_alike : (a b c d : ℤ) → (a ≡ b → c ≡ d) → (c ≡ d → a ≡ b) → eq_z a b ≡ eq_z c d
eq_alike a b c d there back =
    yes_or_no (eq_z a b)
    (λ e. e ∙ sym (ap (eq_z c) (sym (there (eq_z_true a b e))) ∙ eq_z_refl c))
    (λ e. yes_or_no (eq_z c d) (λ f. absurd (false≢true (sym e ∙ ap (eq_z a) (sym (back (eq_z_true c d f))) ∙ eq_z_refl a))) (λ f. e ∙ sym f))

-- Lists of one length are compared place by place: the first less a constant is the second where each value is that far from the other.
pub same_by_place : (c : ℤ) (left right : List ℤ) → length left ≡ length right → list_all (λ (p : ℤ × ℤ). eq_z (p.0 -ℤ p.1) c) (zip left right) ≡ same (less c left) right
unfolding same less
same_by_place c [] [] h = refl
same_by_place c [] (z ∷ right) h = absurd (omega arith)
same_by_place c (y ∷ left) [] h = absurd (omega arith)
same_by_place c (y ∷ left) (z ∷ right) h = ap₂ ◌&&◌ (eq_alike (y -ℤ z) c (y -ℤ c) z (sub_exchange y z c) (sub_exchange y c z)) (same_by_place c left right (omega arith))

-- Two comparisons agree where either's lists are equal only if the other's are.
same_alike : (a b c d : List ℤ) → (a ≡ b → c ≡ d) → (c ≡ d → a ≡ b) → same a b ≡ same c d
same_alike a b c d there back =
    yes_or_no (same a b)
    (λ e. e ∙ sym (equal_same c d (there (same_true a b e))))
    (λ e. yes_or_no (same c d) (λ f. absurd (false≢true (sym e ∙ equal_same a b (back (same_true c d f))))) (λ f. e ∙ sym f))

-- Constants taken from two lists are one constant taken from the first.
less_both : (y z : ℤ) (left right : List ℤ) → same (less y left) (less z right) ≡ same (less (y -ℤ z) left) right
unfolding less
less_both y z left right =
    same_alike (less y left) (less z right) (less (y -ℤ z) left) right
    (λ e.
    map_same (λ v. v -ℤ (y -ℤ z)) (λ v. v -ℤ y +ℤ z) left (λ v. sub_sub v y z)
    ∙ sym (map_map (λ v. v -ℤ y) (λ v. v +ℤ z) left)
    ∙ ap (map (λ v. v +ℤ z)) e
    ∙ map_map (λ v. v -ℤ z) (λ v. v +ℤ z) right
    ∙ map_same (λ v. v -ℤ z +ℤ z) (λ v. v) right (λ v. sub_add v z)
    ∙ map-id right)
    (λ e.
    map_same (λ v. v -ℤ y) (λ v. v -ℤ (y -ℤ z) -ℤ z) left (λ v. sym (ap (λ u. u -ℤ z) (sub_sub v y z) ∙ +ℤ-neg_ℤ_cancel (v -ℤ y) z))
    ∙ sym (map_map (λ v. v -ℤ (y -ℤ z)) (λ v. v -ℤ z) left)
    ∙ ap (map (λ v. v -ℤ z)) e)

-- Of two blocks' differences the first are equal; the others are where one constant leads from block to block.
pub by_first_values : (y z : ℤ) (left right : List ℤ) → same (less (y -ℤ z) left) right ≡ same (differences (y ∷ left)) (differences (z ∷ right))
unfolding same less differences first
by_first_values y z left right =
    sym (ap (λ b. b && same (less y left) (less z right)) (ap₂ eq_z (sub_self y) (sub_self z) ∙ eq_z_refl (pos 0)) ∙ less_both y z left right)

-- The same of the blocks themselves.
pub by_one_constant : (left right : List ℤ) → (length left ≡ 0 → ⊥) → (length right ≡ 0 → ⊥) → same (differences left) (differences right) ≡ same (less (get_or left 0 (pos 0) -ℤ get_or right 0 (pos 0)) (drop 1 left)) (drop 1 right)
by_one_constant [] right h k = absurd (h refl)
by_one_constant (y ∷ left) [] h k = absurd (k refl)
by_one_constant (y ∷ left) (z ∷ right) h k = sym (by_first_values y z left right)

-- No values have the differences of no values alone.
pub none_left : (left right : List ℤ) → length left ≡ 0 → eqb (length right) 0 ≡ same (differences left) (differences right)
unfolding same differences
none_left [] [] h = refl
none_left [] (z ∷ right) h = ne_eqb (suc (length right)) 0 (λ e. omega arith)
none_left (y ∷ left) right h = absurd (omega arith)

-- Nothing is left of one list: another is the same where nothing is left of it.
pub same_none : (constant : ℤ) (left right : List ℤ) → length left ≡ 0 → eqb (length right) 0 ≡ same (less constant left) right
unfolding same less
same_none constant [] [] h = refl
same_none constant [] (z ∷ right) h = ne_eqb (suc (length right)) 0 (λ e. omega arith)
same_none constant (y ∷ left) right h = absurd (omega arith)

pub none_right_of_some : (y : ℤ) (left right : List ℤ) → length right ≡ 0 → false ≡ same (differences (y ∷ left)) (differences right)
unfolding same differences
none_right_of_some y left [] h = refl
none_right_of_some y left (z ∷ right) h = absurd (omega arith)

pub none_right : (left right : List ℤ) → (length left ≡ 0 → ⊥) → length right ≡ 0 → same (differences left) (differences right) ≡ false
none_right [] right h k = absurd (h refl)
none_right (y ∷ left) right h k = sym (none_right_of_some y left right k)

-- The last difference, by the values themselves; of no values it is 0.
pub last_by_values : (values : List ℤ) → get_or values (length values - 1) (pos 0) -ℤ first values ≡ last_difference values
unfolding last_difference differences first
last_by_values [] = refl
last_by_values (a ∷ more) = sym (get_d_map (λ v. v -ℤ a) (a ∷ more) (length (a ∷ more) - 1) (pos 0) (pos 0) (omega arith))

pub last_of_values : (values : List ℤ) → (length values ≡ 0 → ⊥) → last_difference values ≡ get_or values (length values - 1) (pos 0) -ℤ get_or values 0 (pos 0)
unfolding last_difference differences first
last_of_values values h = get_d_map (λ v. v -ℤ get_or values 0 (pos 0)) values (length values - 1) (pos 0) (pos 0) (omega arith)

pub last_of_none : (values : List ℤ) → length values ≡ 0 → last_difference values ≡ pos 0
unfolding last_difference differences
last_of_none [] h = refl
last_of_none (a ∷ more) h = absurd (omega arith)

-- Blocks whose last differences are unlike.
pub unlike_last : (left right : List ℤ) → (last_difference left ≡ last_difference right → ⊥) → same (differences left) (differences right) ≡ false
unfolding last_difference
unlike_last left right h =
    yes_or_no (same (differences left) (differences right))
    (λ e. let d = same_true (differences left) (differences right) e in absurd (h (ap₂ (λ l k. get_or l (k - 1) (pos 0)) d (same_length left right d))))
    (λ e. e)
