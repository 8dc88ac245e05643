-- Differences: their values, that a constant does not matter, and what blocks with equal differences share.
use Rattle.std.specs.Prelude.{ℕ, ◌*◌, ◌^◌, ◌<◌, ◌≡◌, refl, List, [], ◌∷◌, map, length, get_or, take, drop, ℤ, pos, ◌+ℤ◌, ◌-ℤ◌}
use Rattle.std.proofs.Common.{sym, ◌∙◌, ap, arith}
use Rattle.std.proofs.lemmas.List.{length-map}
use Rattle.numbers.proofs.Laws.Integers.{sub_self, sub_sub_same, shift_sub}
use Rattle.numbers.proofs.Laws.Lists.{get_d_map, map_take, map_drop, map_map, map_same}
use Rattle.blocks.specs.Blocks.{block, first, differences}

pub length_differences : (values : List ℤ) → length (differences values) ≡ length values
unfolding differences
length_differences values = length-map values (λ v. v -ℤ first values)

pub differences_at : (values : List ℤ) (x : ℕ) → x < length values → get_or (differences values) x (pos 0) ≡ get_or values x (pos 0) -ℤ first values
unfolding differences
differences_at values x h = get_d_map (λ v. v -ℤ first values) values x (pos 0) (pos 0) h

pub first_differences : (values : List ℤ) → first (differences values) ≡ pos 0
unfolding first differences
first_differences [] = refl
first_differences (v ∷ values) = sub_self v

-- A constant taken from every value does not change the differences.
pub differences_less : (values : List ℤ) (c : ℤ) → differences (map (λ v. v -ℤ c) values) ≡ differences values
unfolding differences first
differences_less [] c = refl
differences_less (w ∷ values) c =
    map_map (λ v. v -ℤ c) (λ v. v -ℤ (w -ℤ c)) (w ∷ values)
    ∙ map_same (λ v. (v -ℤ c) -ℤ (w -ℤ c)) (λ v. v -ℤ w) (w ∷ values) (λ v. sub_sub_same v c w)

-- Nor does a constant added to every value.
pub differences_more : (values : List ℤ) (c : ℤ) → differences (map (λ v. v +ℤ c) values) ≡ differences values
unfolding differences first
differences_more [] c = refl
differences_more (w ∷ values) c =
    map_map (λ v. v +ℤ c) (λ v. v -ℤ (w +ℤ c)) (w ∷ values)
    ∙ map_same (λ v. (v +ℤ c) -ℤ (w +ℤ c)) (λ v. v -ℤ w) (w ∷ values) (λ v. shift_sub v c w)

pub differences_again : (values : List ℤ) → differences (differences values) ≡ differences values
unfolding differences
differences_again values = differences_less values (first values)

-- The differences of a part are seen in the differences of the whole.
pub differences_of_block : (values : List ℤ) (i j : ℕ) → differences (block (differences values) i j) ≡ differences (block values i j)
unfolding differences block
differences_of_block values i j =
    ap differences (sym (map_take less (2 ^ i) (drop (j * 2 ^ i) values) ∙ ap (take (2 ^ i)) (map_drop less (j * 2 ^ i) values)))
    ∙ differences_less (block values i j) (first values)
  where
    less : ℤ → ℤ
    less v = v -ℤ first values

-- Blocks with equal differences have parts with equal differences.
pub same_parts : (left right : List ℤ) → differences left ≡ differences right → (i j : ℕ) → differences (block left i j) ≡ differences (block right i j)
same_parts left right e i j = sym (differences_of_block left i j) ∙ ap (λ d. differences (block d i j)) e ∙ differences_of_block right i j

pub same_length : (left right : List ℤ) → differences left ≡ differences right → length left ≡ length right
same_length left right e = sym (length_differences left) ∙ ap length e ∙ length_differences right

-- And equal weights: at every place their values are equally far from their first.
pub same_weight : (left right : List ℤ) → differences left ≡ differences right → (x : ℕ) → x < length left → get_or left x (pos 0) -ℤ first left ≡ get_or right x (pos 0) -ℤ first right
same_weight left right e x h =
    sym (differences_at left x h)
    ∙ ap (λ d. get_or d x (pos 0)) e
    ∙ differences_at right x (let l = same_length left right e in omega arith)

-- A single value has the difference 0.
pub single_difference : (values : List ℤ) → length values ≡ 1 → differences values ≡ pos 0 ∷ []
unfolding differences first
single_difference [] e = absurd (omega arith)
single_difference (v ∷ []) e = ap (λ d. d ∷ []) (sub_self v)
single_difference (v ∷ w ∷ values) e = absurd (omega arith)
