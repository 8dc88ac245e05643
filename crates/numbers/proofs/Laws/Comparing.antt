-- How the library compares numbers, in the words of the ranges.
use Rattle.std.specs.Prelude.{ℕ, ◌≡◌, ◌&&◌, leb, ltb, eqb, max, ℤ}
use Rattle.std.specs.Ordering.{nat_cmp, int_cmp, is_le, ord_max}
use Rattle.std.proofs.Common.{arith, true≢false, sym, ◌∙◌, ap, ap₂, leb-true, ltb-true, ltb-false, eq-eqb, ne_eqb, le-ltb}
use Rattle.std.proofs.lemmas.Bool.{leb-false}
use Rattle.std.proofs.Math.Nat.{max-eq_left, max-eq_right}
use Rattle.std.specs.Int.Signed.{le_z, lt_z}
use Rattle.std.specs.Int.{int_min, int_max}
use Rattle.numbers.specs.Ranges.{within, lesser, greater}
use Rattle.numbers.proofs.Laws.Bools.{yes_or_no}
use Rattle.numbers.proofs.Laws.Extremes.{le_z_antisym, lt_z_le, lt_z_turn}

-- ---- numbers in a range that has its end

nat_at_most : (a b : ℕ) → is_le (nat_cmp a b) ≡ leb a b
nat_at_most a b =
    yes_or_no (leb a b)
    (λ e. yes_or_no (ltb a b) (λ f. rw (f, e)) (λ f. let l = leb-true a b e in let m = ltb-false a b f in rw (f, eq-eqb a b (omega arith), e)))
    (λ e. let l = leb-false a b e in rw (le-ltb a b (omega arith), ne_eqb a b (λ s. omega arith), e))

pub nat_in_range : (low high n : ℕ) → (is_le (nat_cmp low n) && is_le (nat_cmp n high)) ≡ (leb low n && leb n high)
nat_in_range low high n = ap₂ (λ a b. a && b) (nat_at_most low n) (nat_at_most n high)

int_at_most : (a b : ℤ) → is_le (int_cmp a b) ≡ le_z a b
int_at_most a b =
    yes_or_no (lt_z a b)
    (λ f. rw (f, lt_z_le a b f))
    (λ f. yes_or_no (lt_z b a) (λ g. yes_or_no (le_z a b) (λ e. let s = le_z_antisym a b e (lt_z_le b a g) in absurd (true≢false (sym g ∙ sym (ap (λ z. lt_z z a) s) ∙ ap (λ z. lt_z a z) s ∙ f))) (λ e. rw (f, g, e))) (λ g. rw (f, g, lt_z_turn b a g)))

pub int_in_range : (low high z : ℤ) → (is_le (int_cmp low z) && is_le (int_cmp z high)) ≡ within low high z
unfolding within
int_in_range low high z = ap₂ (λ a b. a && b) (int_at_most low z) (int_at_most z high)

-- ---- the lesser and the greater

pub min_lesser : (a b : ℤ) → int_min a b ≡ lesser a b
unfolding lesser
min_lesser a b =
    yes_or_no (lt_z b a)
    (λ f. yes_or_no (le_z a b) (λ e. rw (f, e) (sym (le_z_antisym a b e (lt_z_le b a f)))) (λ e. rw (f, e)))
    (λ f. rw (f, lt_z_turn b a f))

pub max_greater : (a b : ℤ) → int_max a b ≡ greater a b
unfolding greater
max_greater a b =
    yes_or_no (lt_z b a)
    (λ f. yes_or_no (le_z a b) (λ e. rw (f, e) (le_z_antisym a b e (lt_z_le b a f))) (λ e. rw (f, e)))
    (λ f. rw (f, lt_z_turn b a f))

pub nat_max : (a b : ℕ) → ord_max nat_cmp a b ≡ max a b
nat_max a b =
    yes_or_no (ltb b a)
    (λ f. rw f (sym (max-eq_left (let l = ltb-true b a f in omega arith))))
    (λ f. let bigger = sym (max-eq_right (ltb-false b a f)) in yes_or_no (eqb b a) (λ e. rw (f, e) bigger) (λ e. rw (f, e) bigger))
