-- The least and the greatest of a list, each as one of the list that lies on one side of all: what is proved of such a one holds of both.
use Rattle.std.specs.Prelude.{ℕ, zero, suc, ◌+◌, ◌-◌, ◌<◌, ◌≡◌, refl, ◌↔◌, Bool, true, List, [], ◌∷◌, ◌++◌, length, get_or, leb, ltb, ℤ, pos, negsuc, ◌+ℤ◌, ◌-ℤ◌}
use Rattle.std.proofs.Common.{sym, ◌∙◌, ap, ap₂, arith, ltb-true, ltb-false, leb-true, leb-false, le-leb}
use Rattle.std.proofs.Math.IntN.{sub_ℕ, +ℤ_comm}
use Rattle.std.specs.Int.Signed.{le_z}
use Rattle.std.proofs.lemmas.Bool.{lt-leb}
use Rattle.numbers.specs.Extremes.{lowest, highest, least_of, greatest_of}
use Rattle.numbers.specs.Ranges.{lesser, greater}
use Rattle.numbers.specs.Conditions.{LeastOver, GreatestOver}
use Rattle.numbers.proofs.Laws.Bools.{yes_or_no}
use Rattle.numbers.proofs.Laws.Extremes.{le_z_refl, le_z_trans, le_z_antisym, lesser_left, lesser_right, greater_left, greater_right, lesser_one_of, greater_one_of, lowest_snoc, highest_snoc}
use Rattle.numbers.proofs.Laws.Integers.{shift_sub}
use Rattle.numbers.proofs.Laws.Tests.{at_most_test}

-- ---- order and sums

-- Two numbers are in order where their difference is not under 0.
sub_order : (a b : ℕ) → le_z (pos 0) (sub_ℕ b a) ≡ leb a b
sub_order a b =
    yes_or_no (ltb b a)
    (λ e. rw e (sym (lt-leb a b (ltb-true b a e))))
    (λ e. rw e (le-leb 0 (b - a) (omega arith) ∙ sym (le-leb a b (ltb-false b a e))))

order_by_difference : (a b : ℤ) → le_z (pos 0) (b -ℤ a) ≡ le_z a b
order_by_difference (pos zero) (pos b) = le-leb 0 (b + 0) (omega arith) ∙ sym (le-leb 0 b (omega arith))
order_by_difference (pos (suc a)) (pos b) = sub_order (suc a) b
order_by_difference (pos zero) (negsuc b) = sub_order (suc b) 0 ∙ lt-leb (suc b) 0 (omega arith)
order_by_difference (pos (suc a)) (negsuc b) = refl
order_by_difference (negsuc a) (pos b) = le-leb 0 (b + suc a) (omega arith)
order_by_difference (negsuc a) (negsuc b) = sub_order (suc b) (suc a) ∙ same_order
  where
    same_order : leb (suc b) (suc a) ≡ leb b a
    same_order =
        yes_or_no (leb b a)
        (λ e. le-leb (suc b) (suc a) (let l = leb-true b a e in omega arith) ∙ sym e)
        (λ e. lt-leb (suc b) (suc a) (let l = leb-false b a e in omega arith) ∙ sym e)

-- A number added to both leaves their order.
pub le_z_add : (c a b : ℤ) → le_z (c +ℤ a) (c +ℤ b) ≡ le_z a b
le_z_add c a b =
    sym (order_by_difference (c +ℤ a) (c +ℤ b))
    ∙ ap (le_z (pos 0)) (ap₂ (λ l r. l -ℤ r) (+ℤ_comm c b) (+ℤ_comm c a) ∙ shift_sub b c a)
    ∙ order_by_difference a b

-- ---- what the least and the greatest have in common

-- An order, the first of two in it, and the first of a list.
pub record Extreme (le : ℤ → ℤ → Bool) (pick : ℤ → ℤ → ℤ) (of : List ℤ → ℤ) : Type 0 where
  pub apart : (a b : ℤ) → le a b ≡ true → le b a ≡ true → a ≡ b
  pub through : (a b c : ℤ) → le a b ≡ true → le b c ≡ true → le a c ≡ true
  pub more : (c a b : ℤ) → le (c +ℤ a) (c +ℤ b) ≡ le a b
  pub before_left : (a b : ℤ) → le (pick a b) a ≡ true
  pub before_right : (a b : ℤ) → le (pick a b) b ≡ true
  pub after_both : (z a b : ℤ) → le z a ≡ true → le z b ≡ true → le z (pick a b) ≡ true
  pub before : (l : List ℤ) (j : ℕ) → j < length l → le (of l) (get_or l j (pos 0)) ≡ true
  pub among : (l : List ℤ) → 0 < length l → (j : ℕ) × ((j < length l) × (of l ≡ get_or l j (pos 0)))
  pub snoc : (l : List ℤ) (z : ℤ) → 0 < length l → of (l ++ z ∷ []) ≡ pick (of l) z

-- ---- the least

lowest_below : (low : ℤ) (l : List ℤ) → le_z (lowest low l) low ≡ true
unfolding lowest
lowest_below low [] = le_z_refl low
lowest_below low (z ∷ l) = le_z_trans (lowest (lesser low z) l) (lesser low z) low (lowest_below (lesser low z) l) (lesser_left low z)

lowest_below_all : (low : ℤ) (l : List ℤ) (j : ℕ) → j < length l → le_z (lowest low l) (get_or l j (pos 0)) ≡ true
unfolding lowest
lowest_below_all low [] j h = absurd (omega arith)
lowest_below_all low (z ∷ l) zero h = le_z_trans (lowest (lesser low z) l) (lesser low z) z (lowest_below (lesser low z) l) (lesser_right low z)
lowest_below_all low (z ∷ l) (suc j) h = lowest_below_all (lesser low z) l j (omega arith)

-- What holds of a number and of all of a list holds of the lowest.
lowest_of_lem : (P : ℤ → Type 0) (low : ℤ) (l : List ℤ) → P low → ((j : ℕ) → j < length l → P (get_or l j (pos 0))) → P (lowest low l)
unfolding lowest
lowest_of_lem P low [] p f = p
lowest_of_lem P low (z ∷ l) p f = lowest_of_lem P (lesser low z) l (lesser_one_of P low z p (f 0 (omega arith))) (λ j h. f (suc j) (omega arith))

least_before : (l : List ℤ) (j : ℕ) → j < length l → le_z (least_of l) (get_or l j (pos 0)) ≡ true
unfolding least_of
least_before [] j h = absurd (omega arith)
least_before (z ∷ l) zero h = lowest_below z l
least_before (z ∷ l) (suc j) h = lowest_below_all z l j (omega arith)

least_among : (l : List ℤ) → 0 < length l → (j : ℕ) × ((j < length l) × (least_of l ≡ get_or l j (pos 0)))
unfolding least_of
least_among [] h = absurd (omega arith)
least_among (z ∷ l) h = lowest_of_lem (λ y. (j : ℕ) × ((j < length (z ∷ l)) × (y ≡ get_or (z ∷ l) j (pos 0)))) z l (0, (omega arith, refl)) (λ j k. (suc j, (omega arith, refl)))

least_snoc : (l : List ℤ) (z : ℤ) → 0 < length l → least_of (l ++ z ∷ []) ≡ lesser (least_of l) z
unfolding least_of
least_snoc [] z h = absurd (omega arith)
least_snoc (y ∷ l) z h = lowest_snoc y l z

pub leasts : Extreme le_z lesser least_of
leasts = record {
  apart = le_z_antisym;
  through = le_z_trans;
  more = le_z_add;
  before_left = lesser_left;
  before_right = lesser_right;
  after_both = λ z a b. lesser_one_of (λ y. le_z z y ≡ true) a b;
  before = least_before;
  among = least_among;
  snoc = least_snoc;
}

-- ---- the greatest

highest_above : (high : ℤ) (l : List ℤ) → le_z high (highest high l) ≡ true
unfolding highest
highest_above high [] = le_z_refl high
highest_above high (z ∷ l) = le_z_trans high (greater high z) (highest (greater high z) l) (greater_left high z) (highest_above (greater high z) l)

highest_above_all : (high : ℤ) (l : List ℤ) (j : ℕ) → j < length l → le_z (get_or l j (pos 0)) (highest high l) ≡ true
unfolding highest
highest_above_all high [] j h = absurd (omega arith)
highest_above_all high (z ∷ l) zero h = le_z_trans z (greater high z) (highest (greater high z) l) (greater_right high z) (highest_above (greater high z) l)
highest_above_all high (z ∷ l) (suc j) h = highest_above_all (greater high z) l j (omega arith)

highest_of : (P : ℤ → Type 0) (high : ℤ) (l : List ℤ) → P high → ((j : ℕ) → j < length l → P (get_or l j (pos 0))) → P (highest high l)
unfolding highest
highest_of P high [] p f = p
highest_of P high (z ∷ l) p f = highest_of P (greater high z) l (greater_one_of P high z p (f 0 (omega arith))) (λ j h. f (suc j) (omega arith))

greatest_before : (l : List ℤ) (j : ℕ) → j < length l → le_z (get_or l j (pos 0)) (greatest_of l) ≡ true
unfolding greatest_of
greatest_before [] j h = absurd (omega arith)
greatest_before (z ∷ l) zero h = highest_above z l
greatest_before (z ∷ l) (suc j) h = highest_above_all z l j (omega arith)

greatest_among : (l : List ℤ) → 0 < length l → (j : ℕ) × ((j < length l) × (greatest_of l ≡ get_or l j (pos 0)))
unfolding greatest_of
greatest_among [] h = absurd (omega arith)
greatest_among (z ∷ l) h = highest_of (λ y. (j : ℕ) × ((j < length (z ∷ l)) × (y ≡ get_or (z ∷ l) j (pos 0)))) z l (0, (omega arith, refl)) (λ j k. (suc j, (omega arith, refl)))

greatest_snoc : (l : List ℤ) (z : ℤ) → 0 < length l → greatest_of (l ++ z ∷ []) ≡ greater (greatest_of l) z
unfolding greatest_of
greatest_snoc [] z h = absurd (omega arith)
greatest_snoc (y ∷ l) z h = highest_snoc y l z

pub greatests : Extreme (λ a b. le_z b a) greater greatest_of
greatests = record {
  apart = λ a b h k. le_z_antisym a b k h;
  through = λ a b c h k. le_z_trans c b a k h;
  more = λ c a b. le_z_add c b a;
  before_left = greater_left;
  before_right = greater_right;
  after_both = λ z a b. greater_one_of (λ y. le_z y z ≡ true) a b;
  before = greatest_before;
  among = greatest_among;
  snoc = greatest_snoc;
}

-- ---- laws of both

module _ {le : ℤ → ℤ → Bool} {pick : ℤ → ℤ → ℤ} {of : List ℤ → ℤ} (e : Extreme le pick of) where
  -- One of a list that comes before all of it is the first.
  pub extreme_is : (l : List ℤ) (z : ℤ) (j : ℕ) → j < length l → z ≡ get_or l j (pos 0) → ((i : ℕ) → i < length l → le z (get_or l i (pos 0)) ≡ true) → of l ≡ z
  extreme_is l z j h p f =
      let m = e.among l (omega arith) in
      e.apart (of l) z (ap (le (of l)) p ∙ e.before l j h) (ap (le z) m.1.1 ∙ f m.0 m.1.0)

  -- Lists of the same members have the same first.
  pub same_members : (l m : List ℤ) → 0 < length l
      → ((j : ℕ) → j < length l → (i : ℕ) × ((i < length m) × (get_or l j (pos 0) ≡ get_or m i (pos 0))))
      → ((i : ℕ) → i < length m → (j : ℕ) × ((j < length l) × (get_or m i (pos 0) ≡ get_or l j (pos 0))))
      → of l ≡ of m
  same_members l m h there back =
      let a = e.among l h in
      let b = there a.0 a.1.0 in
      sym (extreme_is m (of l) b.0 b.1.0 (a.1.1 ∙ b.1.1) (λ i k. let c = back i k in ap (le (of l)) c.1.1 ∙ e.before l c.0 c.1.0))

-- ---- over some X

-- The first of a function's values over some X: it comes before all of them, and is one.
pub record FirstOver (le : ℤ → ℤ → Bool) (over : ℕ → Type 0) (f : ℕ → ℤ) (z : ℤ) : Type 0 where
  pub before : (x : ℕ) → over x → le z (f x) ≡ true
  pub met : (x : ℕ) × (over x × (z ≡ f x))

-- In the one order it is the least, in the other the greatest.
module _ (over : ℕ → Type 0) (f : ℕ → ℤ) (z : ℤ) where
  pub first_is_least : FirstOver le_z over f z ↔ LeastOver over f z
  first_is_least = (
    (λ r. record { under = λ x h. (at_most_test z (f x)).0 (r.before x h); met = r.met }),
    (λ r. record { before = λ x h. (at_most_test z (f x)).1 (r.under x h); met = r.met }),
  )

  pub first_is_greatest : FirstOver (λ a b. le_z b a) over f z ↔ GreatestOver over f z
  first_is_greatest = (
    (λ r. record { above = λ x h. (at_most_test (f x) z).0 (r.before x h); met = r.met }),
    (λ r. record { before = λ x h. (at_most_test (f x) z).1 (r.above x h); met = r.met }),
  )
