-- The least and the greatest weight decide the weight width of a whole cell.
use Rattle.std.specs.Prelude.{ℕ, suc, ◌≤◌, ◌<◌, max, ◌≡◌, refl, true, false, ◌&&◌, List, [], ◌∷◌, ◌++◌, leb, ℤ, pos, negsuc}
use Rattle.std.proofs.Common.{sym, ◌∙◌, ap, true≢false, le_antisymm, arith, leb-true, leb-false, le-leb, ltb-true, ltb-false}
use Rattle.std.proofs.lemmas.Bool.{false≢true}
use Rattle.std.proofs.Math.Bool.{and_assoc}
use Rattle.std.specs.Int.Signed.{mag, lt_z, le_z, non_neg}
use Rattle.numbers.specs.Inner.Bits.{bit_length, greatest_part}
use Rattle.numbers.specs.Lists.{every}
use Rattle.numbers.specs.Ranges.{lesser, greater}
use Rattle.numbers.specs.Extremes.{lowest, highest}
use Rattle.numbers.specs.Widths.{none_negative, weight_width}
use Rattle.numbers.proofs.Laws.BitLength.{unsigned_length, signed_length}
use Rattle.numbers.proofs.Laws.Bools.{yes_or_no}

-- ---- the order of integers, as a test

pub le_z_refl : (a : ℤ) → le_z a a ≡ true
le_z_refl (pos a) = le-leb a a (omega arith)
le_z_refl (negsuc a) = le-leb a a (omega arith)

pub le_z_trans : (a b c : ℤ) → le_z a b ≡ true → le_z b c ≡ true → le_z a c ≡ true
le_z_trans (pos a) (pos b) (pos c) h k = le-leb a c (let p = leb-true a b h in let q = leb-true b c k in omega arith)
le_z_trans (pos a) (pos b) (negsuc c) h k = absurd (false≢true k)
le_z_trans (pos a) (negsuc b) c h k = absurd (false≢true h)
le_z_trans (negsuc a) b (pos c) h k = refl
le_z_trans (negsuc a) (pos b) (negsuc c) h k = absurd (false≢true k)
le_z_trans (negsuc a) (negsuc b) (negsuc c) h k = le-leb c a (let p = leb-true b a h in let q = leb-true c b k in omega arith)

pub le_z_turn : (a b : ℤ) → le_z a b ≡ false → le_z b a ≡ true
le_z_turn (pos a) (pos b) h = le-leb b a (let p = leb-false a b h in omega arith)
le_z_turn (pos a) (negsuc b) h = refl
le_z_turn (negsuc a) (pos b) h = absurd (false≢true (sym h))
le_z_turn (negsuc a) (negsuc b) h = le-leb a b (let p = leb-false b a h in omega arith)

-- What is less is at most the other; what is not less is at least.
pub lt_z_le : (a b : ℤ) → lt_z a b ≡ true → le_z a b ≡ true
lt_z_le (pos a) (pos b) h = le-leb a b (let l = ltb-true a b h in omega arith)
lt_z_le (pos a) (negsuc b) h = absurd (false≢true h)
lt_z_le (negsuc a) (pos b) h = refl
lt_z_le (negsuc a) (negsuc b) h = le-leb b a (let l = ltb-true b a h in omega arith)

pub lt_z_turn : (a b : ℤ) → lt_z a b ≡ false → le_z b a ≡ true
lt_z_turn (pos a) (pos b) h = le-leb b a (ltb-false a b h)
lt_z_turn (pos a) (negsuc b) h = refl
lt_z_turn (negsuc a) (pos b) h = absurd (true≢false h)
lt_z_turn (negsuc a) (negsuc b) h = le-leb a b (ltb-false b a h)

-- What lies between two numbers has no greater unsigned part than both.
pub mag_between : (l z h : ℤ) (k : ℕ) → le_z l z ≡ true → le_z z h ≡ true → mag l < k → mag h < k → mag z < k
mag_between l (pos b) (pos c) k p q lk hk = let r = leb-true b c q in omega arith
mag_between l (pos b) (negsuc c) k p q lk hk = absurd (false≢true q)
mag_between (pos a) (negsuc b) h k p q lk hk = absurd (false≢true p)
mag_between (negsuc a) (negsuc b) h k p q lk hk = let r = leb-true b a p in omega arith

pub le_z_antisym : (a b : ℤ) → le_z a b ≡ true → le_z b a ≡ true → a ≡ b
le_z_antisym (pos a) (pos b) h k = ap pos (le_antisymm (leb-true a b h) (leb-true b a k))
le_z_antisym (pos a) (negsuc b) h k = absurd (false≢true h)
le_z_antisym (negsuc a) (pos b) h k = absurd (false≢true k)
le_z_antisym (negsuc a) (negsuc b) h k = ap negsuc (le_antisymm (leb-true a b k) (leb-true b a h))

-- ---- the lesser and the greater

-- Which of the two each of them is.
pub lesser_first : (a b : ℤ) → le_z a b ≡ true → lesser a b ≡ a
unfolding lesser
lesser_first a b e = rw e

pub lesser_second : (a b : ℤ) → le_z a b ≡ false → lesser a b ≡ b
unfolding lesser
lesser_second a b e = rw e

pub greater_first : (a b : ℤ) → le_z a b ≡ false → greater a b ≡ a
unfolding greater
greater_first a b e = rw e

pub greater_second : (a b : ℤ) → le_z a b ≡ true → greater a b ≡ b
unfolding greater
greater_second a b e = rw e

pub lesser_left : (a b : ℤ) → le_z (lesser a b) a ≡ true
unfolding lesser
lesser_left a b = yes_or_no (le_z a b) (λ e. rw e (le_z_refl a)) (λ e. rw e (le_z_turn a b e))

pub lesser_right : (a b : ℤ) → le_z (lesser a b) b ≡ true
unfolding lesser
lesser_right a b = yes_or_no (le_z a b) (λ e. rw e e) (λ e. rw e (le_z_refl b))

pub greater_left : (a b : ℤ) → le_z a (greater a b) ≡ true
unfolding greater
greater_left a b = yes_or_no (le_z a b) (λ e. rw e e) (λ e. rw e (le_z_refl a))

pub greater_right : (a b : ℤ) → le_z b (greater a b) ≡ true
unfolding greater
greater_right a b = yes_or_no (le_z a b) (λ e. rw e (le_z_refl b)) (λ e. rw e (le_z_turn a b e))

-- What holds of both holds of the lesser and of the greater.
pub lesser_one_of : (P : ℤ → Type 0) (a b : ℤ) → P a → P b → P (lesser a b)
unfolding lesser
lesser_one_of P a b p q = yes_or_no (le_z a b) (λ e. rw e p) (λ e. rw e q)

pub greater_one_of : (P : ℤ → Type 0) (a b : ℤ) → P a → P b → P (greater a b)
unfolding greater
greater_one_of P a b p q = yes_or_no (le_z a b) (λ e. rw e q) (λ e. rw e p)

-- ---- widths

-- The lesser of two is not negative exactly where neither is.
lesser_sign : (a b : ℤ) → non_neg (lesser a b) ≡ (non_neg a && non_neg b)
unfolding lesser
lesser_sign (pos a) (pos b) = yes_or_no (leb a b) (λ e. rw e) (λ e. rw e)
lesser_sign (pos a) (negsuc b) = refl
lesser_sign (negsuc a) (pos b) = refl
lesser_sign (negsuc a) (negsuc b) = yes_or_no (leb b a) (λ e. rw e) (λ e. rw e)

-- What is greater than a number that is not negative is not negative.
greater_sign : (a b : ℤ) → non_neg a ≡ true → non_neg (greater a b) ≡ true
unfolding greater
greater_sign (pos a) (pos b) h = yes_or_no (leb a b) (λ e. rw e) (λ e. rw e)
greater_sign (pos a) (negsuc b) h = refl
greater_sign (negsuc a) b h = absurd (false≢true h)

-- Neither extreme is negative exactly where no weight is.
extremes_sign : (low high : ℤ) (weights : List ℤ) → non_neg high ≡ true → (non_neg (lowest low weights) && (non_neg (highest high weights) && true)) ≡ (non_neg low && none_negative weights)
unfolding lowest highest none_negative every
extremes_sign low high [] h = rw h
extremes_sign low high (z ∷ weights) h =
    extremes_sign (lesser low z) (greater high z) weights (greater_sign high z h)
    ∙ rw (lesser_sign low z) (and_assoc (non_neg low) (non_neg z) (none_negative weights))

-- The greater unsigned part of the two extremes, with one number more.
extremes_wider : (low high z : ℤ) → le_z low high ≡ true → max (mag (lesser low z)) (mag (greater high z)) ≡ max (max (mag low) (mag high)) (mag z)
extremes_wider low high z o =
    let least = lesser low z in
    let greatest = greater high z in
    let most = max (mag least) (mag greatest) in
    let between : (y : ℤ) → le_z least y ≡ true → le_z y greatest ≡ true → mag y < suc most = (λ y p q. mag_between least y greatest (suc most) p q (omega arith) (omega arith)) in
    let l = between low (lesser_left low z) (le_z_trans low high greatest o (greater_left high z)) in
    let h = between high (le_z_trans least low high (lesser_left low z) o) (greater_left high z) in
    let m = between z (lesser_right low z) (greater_right high z) in
    let a = lesser_one_of (λ y. mag y ≤ max (max (mag low) (mag high)) (mag z)) low z (omega arith) (omega arith) in
    let b = greater_one_of (λ y. mag y ≤ max (max (mag low) (mag high)) (mag z)) high z (omega arith) (omega arith) in
    le_antisymm (omega arith) (omega arith)

-- The extremes of all weights have the greatest unsigned part.
extremes_part : (low high : ℤ) (weights : List ℤ) → le_z low high ≡ true → max (mag (lowest low weights)) (mag (highest high weights)) ≡ max (max (mag low) (mag high)) (greatest_part weights)
unfolding lowest highest greatest_part
extremes_part low high [] o = omega arith
extremes_part low high (z ∷ weights) o =
    extremes_part (lesser low z) (greater high z) weights (le_z_trans (lesser low z) low (greater high z) (lesser_left low z) (le_z_trans low high (greater high z) o (greater_left high z)))
    ∙ (let w = extremes_wider low high z o in omega arith)

-- The weight width of a cell is that of its least and its greatest weight, with 0 among them.
pub width_by_extremes : (weights : List ℤ) → weight_width (lowest (pos 0) weights ∷ highest (pos 0) weights ∷ []) ≡ weight_width weights
unfolding every none_negative greatest_part
width_by_extremes weights =
    let pair = lowest (pos 0) weights ∷ highest (pos 0) weights ∷ [] in
    let sign : none_negative pair ≡ none_negative weights = extremes_sign (pos 0) (pos 0) weights refl in
    let wide = extremes_part (pos 0) (pos 0) weights (le_z_refl (pos 0)) in
    let same : greatest_part pair ≡ greatest_part weights = omega arith in
    yes_or_no (none_negative weights)
    (λ plain. unsigned_length pair (sign ∙ plain) ∙ ap bit_length same ∙ sym (unsigned_length weights plain))
    (λ signed. signed_length pair (sign ∙ signed) ∙ ap (λ m. suc (bit_length m)) same ∙ sym (signed_length weights signed))

-- The extremes with one number more.
pub lowest_snoc : (low : ℤ) (l : List ℤ) (z : ℤ) → lowest low (l ++ z ∷ []) ≡ lesser (lowest low l) z
unfolding lowest
lowest_snoc low [] z = refl
lowest_snoc low (y ∷ l) z = lowest_snoc (lesser low y) l z

pub highest_snoc : (high : ℤ) (l : List ℤ) (z : ℤ) → highest high (l ++ z ∷ []) ≡ greater (highest high l) z
unfolding highest
highest_snoc high [] z = refl
highest_snoc high (y ∷ l) z = highest_snoc (greater high y) l z
