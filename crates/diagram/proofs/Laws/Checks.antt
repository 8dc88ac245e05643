-- Walk's check, test by test: ranges of numbers, a child, a record, all records from one on.
use Rattle.std.specs.Prelude.{ℕ, zero, suc, ◌+◌, ◌-◌, ◌*◌, ◌≤◌, ◌<◌, ◌≡◌, refl, Bool, true, false, ◌&&◌, List, length, get_or, drop, T, leb, ltb, ℤ, pos, negsuc, nat_abs}
use Rattle.std.proofs.Common.{sym, ◌∙◌, ap, true≢false, add-one, arith, drop_of_length-le, Fits, SFits, le-leb, ltb-true, ltb-false, leb-true, ne_eqb}
use Rattle.std.proofs.lemmas.Bool.{false≢true, lt-leb}
use Rattle.std.proofs.Math.Seq.{drop-cons}
use Rattle.std.specs.Int.Signed.{lt_z, non_neg}
use Rattle.std.specs.Int.{w32, w64}
use Rattle.std.proofs.Math.Facts.{Fits-nat_abs}
use Rattle.numbers.specs.Lists.{numbers_from, every}
use Rattle.numbers.specs.Ranges.{most_variables, is_variables, within, eq_z, is_weight}
use Rattle.numbers.proofs.Laws.Bools.{yes_or_no, both, and_both}
use Rattle.diagram.specs.Records.{record_size}
use Rattle.diagram.specs.Walk.{variable_at, low_at, high_at, weight_at, child_fits, edges_fit, range_fits, record_fits, record_count}
use Rattle.diagram.specs.Inner.Edges.{Recorded}

-- ---- ranges

-- What lies under a range.
pub under_range : (low high z : ℤ) → lt_z z low ≡ true → within low high z ≡ false
unfolding within
under_range (pos a) high (pos b) h = rw (lt-leb a b (ltb-true b a h))
under_range (pos a) high (negsuc b) h = refl
under_range (negsuc a) high (pos b) h = absurd (false≢true h)
under_range (negsuc a) high (negsuc b) h = rw (lt-leb b a (ltb-true a b h))

-- The first of so many numbers from 0.
pub below_count : (count : ℕ) (z : ℤ) → 1 ≤ count → lt_z z (pos 0) ≡ false → ltb (nat_abs z) count ≡ within (pos 0) (pos (count - 1)) z
unfolding within
below_count count (pos a) h k =
    yes_or_no (ltb a count)
    (λ e. e ∙ sym (rw (le-leb 0 a (omega arith)) (le-leb a (count - 1) (let l = ltb-true a count e in omega arith))))
    (λ e. e ∙ sym (rw (le-leb 0 a (omega arith)) (lt-leb a (count - 1) (let l = ltb-false a count e in omega arith))))
below_count count (negsuc a) h k = absurd (true≢false k)

-- Such a number is one without a sign.
pub counted : (last : ℕ) (z : ℤ) → within (pos 0) (pos last) z ≡ true → (z ≡ pos (nat_abs z)) × (nat_abs z ≤ last)
unfolding within
counted last (pos a) h = (refl, leb-true a last (both (leb 0 a) (leb a last) h).1)
counted last (negsuc a) h = absurd (false≢true h)

-- It may be cast to an unsigned number of 64 bits.
pub cast_natural : (z : ℤ) → SFits w32 z → z ≡ pos (nat_abs z) → T (non_neg z) × Fits w64 (nat_abs z)
cast_natural z h e = (rw e tt, Fits-nat_abs {w = w32} {w' = w64} tt h)

-- A number of variables.
pub variables_range : (n : ℕ) → is_variables n ≡ true → (1 ≤ n) × (n ≤ 12)
unfolding is_variables most_variables
variables_range n h = let b = both (leb 1 n) (leb n 12) h in (leb-true 1 n b.0, leb-true n 12 b.1)

-- ---- equality

-- Numbers that differ are told apart.
pub unequal : (a b : ℤ) → (a ≡ b → ⊥) → eq_z a b ≡ false
unfolding eq_z
unequal (pos a) (pos b) h = ne_eqb a b (λ e. h (ap pos e))
unequal (pos a) (negsuc b) h = refl
unequal (negsuc a) (pos b) h = refl
unequal (negsuc a) (negsuc b) h = ne_eqb a b (λ e. h (ap negsuc e))

-- ---- a child

module _ (list : List ℤ) (k : ℕ) where
  pub child_outside : (child : ℤ) → within (pos 0) (pos (k - 1)) child ≡ false → child_fits list k child ≡ false
  unfolding child_fits
  child_outside child e = rw e

  pub child_terminal : child_fits list k (pos 0) ≡ true
  unfolding child_fits within eq_z
  child_terminal = rw (le-leb 0 (k - 1) (omega arith))

  pub child_record : (child : ℤ) → within (pos 0) (pos (k - 1)) child ≡ true → (child ≡ pos 0 → ⊥) → child_fits list k child ≡ lt_z (variable_at list (nat_abs child)) (variable_at list k)
  unfolding child_fits
  child_record child e h = rw (e, unequal child (pos 0) h)

  pub child_within : (child : ℤ) → child_fits list k child ≡ true → within (pos 0) (pos (k - 1)) child ≡ true
  unfolding child_fits
  child_within child h = (both (within (pos 0) (pos (k - 1)) child) _ h).0

  -- A child that fits is a node before k.
  pub child_node : (child : ℤ) → child_fits list k child ≡ true → (child ≡ pos (nat_abs child)) × (nat_abs child ≤ k - 1)
  child_node child h = counted (k - 1) child (child_within child h)

  -- One that is not node 0 is a record.
  pub child_recorded : (child : ℤ) → Recorded list k → within (pos 0) (pos (k - 1)) child ≡ true → (child ≡ pos 0 → ⊥) → Recorded list (nat_abs child)
  child_recorded child r e h =
      let l = counted (k - 1) child e in
      let among = r.among in
      let one : nat_abs child ≡ 0 → ⊥ = (λ z. h (l.0 ∙ ap pos z)) in
      record { from_one = omega arith; among = let b = l.1 in omega arith }

-- ---- a record

-- Its numbers are among those of the list.
pub number_inside : (list : List ℤ) (k c : ℕ) → Recorded list k → c < record_size → record_size * (k - 1) + c < length list
unfolding record_size record_count
number_inside list k c r h = let a = r.from_one in let b = r.among in omega arith

module _ (n : ℕ) (list : List ℤ) (k : ℕ) where
  pub variable_unfit : within (pos 0) (pos (n - 1)) (variable_at list k) ≡ false → edges_fit n list k ≡ false
  unfolding edges_fit
  variable_unfit a = rw a

  pub low_unfit : within (pos 0) (pos (n - 1)) (variable_at list k) ≡ true → child_fits list k (low_at list k) ≡ false → edges_fit n list k ≡ false
  unfolding edges_fit
  low_unfit a b = rw (a, b)

  pub high_unfit : within (pos 0) (pos (n - 1)) (variable_at list k) ≡ true → child_fits list k (low_at list k) ≡ true → child_fits list k (high_at list k) ≡ false → edges_fit n list k ≡ false
  unfolding edges_fit
  high_unfit a b c = rw (a, b, c)

  pub weight_left : within (pos 0) (pos (n - 1)) (variable_at list k) ≡ true → child_fits list k (low_at list k) ≡ true → child_fits list k (high_at list k) ≡ true → edges_fit n list k ≡ is_weight (weight_at list k)
  unfolding edges_fit
  weight_left a b c = rw (a, b, c)

  pub edges_unfit : edges_fit n list k ≡ false → record_fits n list k ≡ false
  unfolding record_fits
  edges_unfit e = rw e

  pub range_left : edges_fit n list k ≡ true → record_fits n list k ≡ range_fits n list k
  unfolding record_fits
  range_left e = rw e

-- ---- all records, from one on

-- A run of numbers, of which the first passes: the others decide.
pub passes_here : (test : ℕ → Bool) (start count : ℕ) → test start ≡ true → 0 < count → every test (numbers_from start count) ≡ every test (numbers_from (start + 1) (count - 1))
unfolding numbers_from every
passes_here test start zero e h = absurd (omega arith)
passes_here test start (suc count) e h = rw (e, let p : start + 1 ≡ suc start = omega arith in p, let q : suc count - 1 ≡ count = omega arith in q)

pub fails_here : (test : ℕ → Bool) (start count : ℕ) → test start ≡ false → 0 < count → every test (numbers_from start count) ≡ false
unfolding numbers_from every
fails_here test start zero e h = absurd (omega arith)
fails_here test start (suc count) e h = rw e

pub none_left : (test : ℕ → Bool) (start : ℕ) → every test (numbers_from start 0) ≡ true
unfolding numbers_from every
none_left test start = refl

-- The values of a table from one on: the first passes and the others decide, or it fails.
module _ {A : Type 0} (test : A → Bool) (l : List A) (x : ℕ) where
  pub passes_at : (d : A) → x < length l → test (get_or l x d) ≡ true → every test (drop x l) ≡ every test (drop (x + 1) l)
  unfolding every
  passes_at d h e = rw (add-one, drop-cons l x d h) (rw e)

  pub fails_at : (d : A) → x < length l → test (get_or l x d) ≡ false → every test (drop x l) ≡ false
  unfolding every
  fails_at d h e = rw (drop-cons l x d h) (rw e)

  pub nothing_left : length l ≤ x → every test (drop x l) ≡ true
  unfolding every
  nothing_left h = rw (drop_of_length-le l h)

-- ---- the parts of a record's check

-- Edges that fit: the record's variable, its children and its weight.
pub record EdgeParts (n : ℕ) (list : List ℤ) (k : ℕ) : Type 0 where
  pub variable : within (pos 0) (pos (n - 1)) (variable_at list k) ≡ true
  pub low : child_fits list k (low_at list k) ≡ true
  pub high : child_fits list k (high_at list k) ≡ true
  pub weight : is_weight (weight_at list k) ≡ true

module _ (n : ℕ) (list : List ℤ) (k : ℕ) where
  abbrev variable_fits : Bool
  variable_fits = within (pos 0) (pos (n - 1)) (variable_at list k)

  abbrev low_fits : Bool
  low_fits = child_fits list k (low_at list k)

  abbrev high_fits : Bool
  high_fits = child_fits list k (high_at list k)

  pub fits_by_parts : EdgeParts n list k → edges_fit n list k ≡ true
  unfolding edges_fit
  fits_by_parts p =
      and_both (variable_fits && low_fits && high_fits) (is_weight (weight_at list k))
      (and_both (variable_fits && low_fits) high_fits
      (and_both variable_fits low_fits p.variable p.low) p.high) p.weight

  pub parts_of_edges : edges_fit n list k ≡ true → EdgeParts n list k
  unfolding edges_fit
  parts_of_edges fits =
      let all = both (variable_fits && low_fits && high_fits) (is_weight (weight_at list k)) fits in
      let children = both (variable_fits && low_fits) high_fits all.0 in
      let front = both variable_fits low_fits children.0 in
      record { variable = front.0; low = front.1; high = children.1; weight = all.1 }

  -- A record that fits: its edges and its range.
  pub edges_of_record : record_fits n list k ≡ true → EdgeParts n list k
  unfolding record_fits
  edges_of_record fits = parts_of_edges (both (edges_fit n list k) (range_fits n list k) fits).0

  pub range_of_record : record_fits n list k ≡ true → range_fits n list k ≡ true
  unfolding record_fits
  range_of_record fits = (both (edges_fit n list k) (range_fits n list k) fits).1
