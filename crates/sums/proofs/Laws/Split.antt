-- A sum in two parts: the weights of the low bits and those of the others. So the table of more weights is made of that of fewer.
use Rattle.std.specs.Prelude.{ℕ, zero, suc, ◌+◌, ◌*◌, ◌/◌, ◌%◌, ◌^◌, ◌<◌, ◌≡◌, refl, List, [], ◌∷◌, ◌++◌, map, length, get_or, take, drop, ℤ, pos, ◌+ℤ◌}
use Rattle.std.proofs.Common.{sym, ◌∙◌, ap, ap₂, subst, mod-lt, div-add-mod', arith, length-append, get_or-append-add, length-take-le, pow-add}
use Rattle.std.proofs.lemmas.List.{length-map}
use Rattle.std.proofs.Math.ListN.{get_or-append}
use Rattle.std.proofs.Math.Seq.{split_at}
use Rattle.std.proofs.Math.IntN.{+ℤ_idl, +ℤ_idr}
use Rattle.numbers.specs.Lists.{numbers_from, keep, exact_sum}
use Rattle.numbers.proofs.Laws.Lists.{length_range, get_d_range, get_d_map, map_append, map_map}
use Rattle.numbers.proofs.Laws.Runs.{kept_runs, mapped_runs}
use Rattle.numbers.proofs.Laws.Selections.{keep_append, range_add}
use Rattle.numbers.proofs.Laws.Sums.{exact_append}
use Rattle.diagram.specs.Walk.{bit_set}
use Rattle.diagram.proofs.Laws.Steps.{low_bit, high_bit}
use Rattle.sums.specs.Sums.{sum_at, sum_table}

-- ---- the sum

-- The weights of the low bits sum up at r, the others at j.
pub sum_split : (low high : List ℤ) (j r : ℕ) → r < 2 ^ length low → sum_at (low ++ high) (j * 2 ^ length low + r) ≡ sum_at low r +ℤ sum_at high j
unfolding sum_at
sum_split low high j r below =
    let a = length low in
    let b = length high in
    let x = j * 2 ^ a + r in
    let weight : ℕ → ℤ = (λ i. get_or (low ++ high) i (pos 0)) in
    ap (λ k. exact_sum (map weight (keep (bit_set x) (numbers_from 0 k)))) (length-append low high)
    ∙ ap (λ l. exact_sum (map weight (keep (bit_set x) l))) (range_add 0 a b)
    ∙ ap (λ l. exact_sum (map weight l)) (keep_append (bit_set x) (numbers_from 0 a) (numbers_from (0 + a) b))
    ∙ ap exact_sum (map_append weight (keep (bit_set x) (numbers_from 0 a)) (keep (bit_set x) (numbers_from (0 + a) b)))
    ∙ exact_append (map weight (keep (bit_set x) (numbers_from 0 a))) (map weight (keep (bit_set x) (numbers_from (0 + a) b)))
    ∙ ap₂ (λ p q. exact_sum p +ℤ exact_sum q)
    (kept_runs (bit_set x) (bit_set r) weight (λ i. get_or low i (pos 0)) 0 0 a (λ i l. (low_bit a j r (0 + i) (omega arith), get_or-append low high (pos 0) (0 + i) (omega arith))))
    (kept_runs (bit_set x) (bit_set j) weight (λ i. get_or high i (pos 0)) (0 + a) 0 b (λ i l.
    let here : 0 + a + i ≡ a + (0 + i) = omega arith in
    (ap (bit_set x) here ∙ high_bit a j r (0 + i) below, ap weight here ∙ get_or-append-add low high (0 + i) (pos 0))))

-- One weight: nothing where its bit is 0, else the weight.
one_at_0 : (w : ℤ) → sum_at (w ∷ []) 0 ≡ pos 0
unfolding sum_at exact_sum numbers_from keep bit_set
one_at_0 w = refl

one_at_1 : (w : ℤ) → sum_at (w ∷ []) 1 ≡ w
unfolding sum_at exact_sum numbers_from keep bit_set
one_at_1 w = +ℤ_idr w

-- So what holds of 0 and of the weight holds of the sum.
pub one_or_none : (X : ℤ → Type 0) (w : ℤ) (x : ℕ) → X (pos 0) → X w → X (sum_at (w ∷ []) (x % 2))
one_or_none X w x none one = either (x % 2) (mod-lt x (omega arith))
  where
    either : (r : ℕ) → r < 2 → X (sum_at (w ∷ []) r)
    either zero l = subst X (sym (one_at_0 w)) none
    either (suc zero) l = subst X (sym (one_at_1 w)) one
    either (suc (suc r)) l = absurd (omega arith)

-- The first weight apart: it belongs to the lowest bit.
pub sum_cons : (w : ℤ) (weights : List ℤ) (x : ℕ) → sum_at (w ∷ weights) x ≡ sum_at (w ∷ []) (x % 2) +ℤ sum_at weights (x / 2)
sum_cons w weights x = ap (sum_at (w ∷ weights)) (sym (div-add-mod' x 2)) ∙ sum_split (w ∷ []) weights (x / 2) (x % 2) (mod-lt x (omega arith))

pub sum_even : (w : ℤ) (weights : List ℤ) (x : ℕ) → sum_at (w ∷ weights) (x * 2) ≡ sum_at weights x
sum_even w weights x =
    ap (sum_at (w ∷ weights)) (let e : x * 2 ≡ x * 2 + 0 = omega arith in e)
    ∙ sum_split (w ∷ []) weights x 0 (omega arith)
    ∙ ap (λ z. z +ℤ sum_at weights x) (one_at_0 w)
    ∙ +ℤ_idl (sum_at weights x)

pub sum_odd : (w : ℤ) (weights : List ℤ) (x : ℕ) → sum_at (w ∷ weights) (x * 2 + 1) ≡ w +ℤ sum_at weights x
sum_odd w weights x = sum_split (w ∷ []) weights x 1 (omega arith) ∙ ap (λ z. z +ℤ sum_at weights x) (one_at_1 w)

-- Where all bits are 0 the sum is 0.
pub sum_at_0 : (weights : List ℤ) → sum_at weights 0 ≡ pos 0
unfolding sum_at exact_sum numbers_from keep
sum_at_0 [] = refl
sum_at_0 (w ∷ weights) = ap (sum_at (w ∷ weights)) (let e : 0 ≡ 0 * 2 = omega arith in e) ∙ sum_even w weights 0 ∙ sum_at_0 weights

-- A bit above all those of x adds its weight.
pub sum_with_bit : (weights : List ℤ) (j x : ℕ) → j < length weights → x < 2 ^ j → sum_at weights (2 ^ j + x) ≡ sum_at weights x +ℤ get_or weights j (pos 0)
sum_with_bit weights j x inside below =
    let w = get_or weights j (pos 0) in
    let low = take j weights in
    let more = drop (suc j) weights in
    let e : length low ≡ j = length-take-le j weights (omega arith) in
    let apart : (b : ℕ) → sum_at weights (b * 2 ^ j + x) ≡ sum_at low x +ℤ sum_at (w ∷ more) b = (λ b. ap₂ (λ ws k. sum_at ws (b * 2 ^ k + x)) (split_at weights j (pos 0) inside) (sym e) ∙ sum_split low (w ∷ more) b x (rw e below)) in
    ap (sum_at weights) (let k : 2 ^ j + x ≡ 1 * 2 ^ j + x = omega arith in k)
    ∙ apart 1
    ∙ ap (λ z. sum_at low x +ℤ z) (ap (sum_at (w ∷ more)) (let k : 1 ≡ 0 * 2 + 1 = omega arith in k) ∙ sum_odd w more 0 ∙ ap (λ z. w +ℤ z) (sum_at_0 more) ∙ +ℤ_idr w)
    ∙ ap (λ z. z +ℤ w) (sym (ap (sum_at weights) (let k : x ≡ 0 * 2 ^ j + x = omega arith in k) ∙ apart 0 ∙ ap (λ z. sum_at low x +ℤ z) (sum_at_0 (w ∷ more)) ∙ +ℤ_idr (sum_at low x)))

-- ---- the table

pub table_length : (weights : List ℤ) → length (sum_table weights) ≡ 2 ^ length weights
unfolding sum_table
table_length weights = length-map (numbers_from 0 (2 ^ length weights)) (sum_at weights) ∙ length_range 0 (2 ^ length weights)

pub table_at : (weights : List ℤ) (x : ℕ) → x < 2 ^ length weights → get_or (sum_table weights) x (pos 0) ≡ sum_at weights x
unfolding sum_table
table_at weights x l =
    get_d_map (sum_at weights) (numbers_from 0 (2 ^ length weights)) x 0 (pos 0) (rw length_range l)
    ∙ ap (sum_at weights) (get_d_range 0 (2 ^ length weights) x 0 l ∙ (let e : 0 + x ≡ x = omega arith in e))

-- No weight: one sum, 0.
pub table_none : sum_table [] ≡ pos 0 ∷ []
unfolding sum_table sum_at exact_sum numbers_from keep
table_none = refl

-- One weight more, the highest: the table, and once more with the weight added.
pub table_more : (weights : List ℤ) (w : ℤ) → sum_table (weights ++ w ∷ []) ≡ sum_table weights ++ map (λ v. v +ℤ w) (sum_table weights)
unfolding sum_table
table_more weights w =
    let a = length weights in
    let more = weights ++ w ∷ [] in
    let long : 2 ^ length more ≡ 2 ^ a + 2 ^ a = ap (λ k. 2 ^ k) (length-append weights (w ∷ [])) ∙ pow-add 2 a 1 ∙ (let e : 2 ^ a * 2 ^ 1 ≡ 2 ^ a + 2 ^ a = omega arith in e) in
    ap (λ k. map (sum_at more) (numbers_from 0 k)) long
    ∙ ap (map (sum_at more)) (range_add 0 (2 ^ a) (2 ^ a))
    ∙ map_append (sum_at more) (numbers_from 0 (2 ^ a)) (numbers_from (0 + 2 ^ a) (2 ^ a))
    ∙ ap₂ ◌++◌
    (mapped_runs (sum_at more) (sum_at weights) 0 0 (2 ^ a) (λ x l.
    ap (sum_at more) (let e : 0 + x ≡ 0 * 2 ^ a + (0 + x) = omega arith in e)
    ∙ sum_split weights (w ∷ []) 0 (0 + x) (omega arith)
    ∙ ap (λ z. sum_at weights (0 + x) +ℤ z) (one_at_0 w)
    ∙ +ℤ_idr (sum_at weights (0 + x))))
    (mapped_runs (sum_at more) (λ x. sum_at weights x +ℤ w) (0 + 2 ^ a) 0 (2 ^ a) (λ x l.
    ap (sum_at more) (let e : 0 + 2 ^ a + x ≡ 1 * 2 ^ a + (0 + x) = omega arith in e)
    ∙ sum_split weights (w ∷ []) 1 (0 + x) (omega arith)
    ∙ ap (λ z. sum_at weights (0 + x) +ℤ z) (one_at_1 w))
    ∙ sym (map_map (sum_at weights) (λ v. v +ℤ w) (numbers_from 0 (2 ^ a))))
