-- Laws of tallies and sums: over appended, mapped and kept lists, over runs of numbers, and how they bound one another.
use Rattle.std.specs.Prelude.{ℕ, zero, suc, ◌+◌, ◌≤◌, ◌<◌, ◌≡◌, Bool, true, false, ◌||◌, get_or, ltb}
use Rattle.std.proofs.Math.Path.{refl, ap}
use Rattle.std.proofs.Common.{sym, ◌∙◌, zero-add, add-zero, add-suc, suc-add, ltb-true}
use mathlib.Core.List.{List, [], ◌∷◌, ◌++◌, map}
use native.Mathlib.Omega.{arith}
use Rattle.std.proofs.Math.ListN.{length, length-append}
use Rattle.std.proofs.lemmas.List.{length-map}
use Rattle.numbers.specs.Lists.{numbers_from, keep, tally, sum_of}
use Rattle.numbers.proofs.Laws.Bools.{yes_or_no}
use Rattle.numbers.proofs.Laws.Lists.{length_range, get_d_range, range_suc, map_append}
use Rattle.numbers.proofs.Laws.Selections.{keep_passed, keep_failed, keep_append, keep_same, keep_map, range_add}

-- ---- what is kept

-- What holds for each element that passes holds for each that is kept.
pub kept_all : {A : Type 0} (test : A → Bool) (X : A → Type 0) (d : A) (l : List A) → ((k : ℕ) → k < length l → test (get_or l k d) ≡ true → X (get_or l k d)) → (j : ℕ) → j < length (keep test l) → X (get_or (keep test l) j d)
unfolding keep
kept_all test X d [] each j h = absurd (omega arith)
kept_all test X d (a ∷ l) each j h =
    let rest = kept_all test X d l (λ k below passed. each (suc k) (omega arith) passed) in
    yes_or_no (test a)
    (λ e. rw (keep_passed test a l e) (first_or_later e rest j (rw (keep_passed test a l e) at h)))
    (λ e. rw (keep_failed test a l e) (rest j (rw (keep_failed test a l e) at h)))
  where
    first_or_later : test a ≡ true → ((j : ℕ) → j < length (keep test l) → X (get_or (keep test l) j d)) → (j : ℕ) → j < suc (length (keep test l)) → X (get_or (a ∷ keep test l) j d)
    first_or_later e later zero h = each 0 (omega arith) e
    first_or_later e later (suc j) h = later j (omega arith)

-- ---- tallies

module _ {A : Type 0} (test : A → Bool) where
  pub tally_nil : tally test [] ≡ 0
  unfolding tally keep
  tally_nil = refl

  pub tally_passed : (a : A) (l : List A) → test a ≡ true → tally test (a ∷ l) ≡ suc (tally test l)
  unfolding tally
  tally_passed a l e = ap length (keep_passed test a l e)

  pub tally_failed : (a : A) (l : List A) → test a ≡ false → tally test (a ∷ l) ≡ tally test l
  unfolding tally
  tally_failed a l e = ap length (keep_failed test a l e)

  -- An element more, no less counted.
  pub tally_grows : (a : A) (l : List A) → tally test l ≤ tally test (a ∷ l)
  tally_grows a l =
      yes_or_no (test a)
      (λ e. rw (tally_passed a l e) (omega arith))
      (λ e. rw (tally_failed a l e) (omega arith))

  -- No more pass than there are.
  pub tally_le_length : (l : List A) → tally test l ≤ length l
  tally_le_length [] = rw tally_nil (omega arith)
  tally_le_length (a ∷ l) =
      let rest = tally_le_length l in
      yes_or_no (test a)
      (λ e. rw (tally_passed a l e) (omega arith))
      (λ e. rw (tally_failed a l e) (omega arith))

  -- Where every element passes, all are counted.
  pub tally_all : (d : A) (l : List A) → ((k : ℕ) → k < length l → test (get_or l k d) ≡ true) → tally test l ≡ length l
  tally_all d [] all = tally_nil
  tally_all d (a ∷ l) all = tally_passed a l (all 0 (omega arith)) ∙ ap suc (tally_all d l (λ k h. all (suc k) (omega arith)))

  -- Where none passes, none is counted.
  pub tally_none : (l : List A) → ((a : A) → test a ≡ false) → tally test l ≡ 0
  tally_none [] none = tally_nil
  tally_none (a ∷ l) none = tally_failed a l (none a) ∙ tally_none l none

  -- Where none is counted, none passes.
  pub none_passes : (d : A) (l : List A) → tally test l ≡ 0 → (k : ℕ) → k < length l → test (get_or l k d) ≡ false
  none_passes d [] h k below = absurd (omega arith)
  none_passes d (a ∷ l) h k below =
      yes_or_no (test a)
      (λ e. absurd (let z : suc (tally test l) ≡ 0 = rw (tally_passed a l e) at h in omega arith))
      (λ e. first_or_later e (none_passes d l (rw (tally_failed a l e) at h)) k below)
    where
      first_or_later : test a ≡ false → ((k : ℕ) → k < length l → test (get_or l k d) ≡ false) → (k : ℕ) → k < suc (length l) → test (get_or (a ∷ l) k d) ≡ false
      first_or_later e later zero below = e
      first_or_later e later (suc k) below = later k (omega arith)

  pub tally_append : (l m : List A) → tally test (l ++ m) ≡ tally test l + tally test m
  unfolding tally
  tally_append l m = ap length (keep_append test l m) ∙ length-append (keep test l) (keep test m)

  -- Of what another test keeps, no more pass.
  pub tally_keep_le : (other : A → Bool) (l : List A) → tally test (keep other l) ≤ tally test l
  unfolding keep
  tally_keep_le other [] = omega arith
  tally_keep_le other (a ∷ l) =
      let rest = tally_keep_le other l in
      yes_or_no (other a)
      (λ kept.
      yes_or_no (test a)
      (λ e. rw (keep_passed other a l kept, tally_passed a (keep other l) e, tally_passed a l e) (omega arith))
      (λ e. rw (keep_passed other a l kept, tally_failed a (keep other l) e, tally_failed a l e) rest))
      (λ left. rw (keep_failed other a l left) (omega (arith, tally_grows a l)))

-- Equal tests count the same.
pub tally_same : {A : Type 0} (left right : A → Bool) (l : List A) → ((a : A) → left a ≡ right a) → tally left l ≡ tally right l
unfolding tally
tally_same left right l h = ap length (keep_same left right l h)

-- A tally of a mapped list.
pub tally_map : {A B : Type 0} (test : B → Bool) (f : A → B) (l : List A) → tally test (map f l) ≡ tally (λ a. test (f a)) l
unfolding tally
tally_map test f l = ap length (keep_map f test l) ∙ length-map (keep (λ a. test (f a)) l) f

-- What passes one of two tests is counted by one of two tallies.
pub tally_either : {A : Type 0} (test other : A → Bool) (l : List A) → tally (λ a. test a || other a) l ≤ tally test l + tally other l
tally_either test other [] = rw tally_nil (omega arith)
tally_either {A = A} test other (a ∷ l) =
    let rest = tally_either test other l in
    yes_or_no (test a)
    (λ e. rw (tally_passed either a l (rw e), tally_passed test a l e) (omega (arith, tally_grows other a l)))
    (λ e.
    yes_or_no (other a)
    (λ k. rw (tally_passed either a l (rw (e, k)), tally_passed other a l k) (omega (arith, tally_grows test a l)))
    (λ k. rw (tally_failed either a l (rw (e, k)), tally_failed test a l e, tally_failed other a l k) rest))
  where
    either : A → Bool
    either x = test x || other x

-- ---- runs of numbers

-- A run in two parts has two tallies.
pub tally_run_append : (test : ℕ → Bool) (start count more : ℕ) → tally test (numbers_from start (count + more)) ≡ tally test (numbers_from start count) + tally test (numbers_from (start + count) more)
tally_run_append test start count more =
    ap (tally test) (range_add start count more) ∙ tally_append test (numbers_from start count) (numbers_from (start + count) more)

-- One outcome at the first element, one tally of the rest.
tally_alike : {A B : Type 0} (test : A → Bool) (other : B → Bool) (a : A) (b : B) (l : List A) (m : List B) → test a ≡ other b → tally test l ≡ tally other m → tally test (a ∷ l) ≡ tally other (b ∷ m)
tally_alike test other a b l m same rest =
    yes_or_no (test a)
    (λ e. tally_passed test a l e ∙ ap suc rest ∙ sym (tally_passed other b m (sym same ∙ e)))
    (λ e. tally_failed test a l e ∙ rest ∙ sym (tally_failed other b m (sym same ∙ e)))

-- Two runs of one length, place by place with one outcome.
pub tally_runs : (test other : ℕ → Bool) (left right count : ℕ) → ((x : ℕ) → x < count → test (left + x) ≡ other (right + x)) → tally test (numbers_from left count) ≡ tally other (numbers_from right count)
unfolding numbers_from
tally_runs test other left right zero h = tally_nil test ∙ sym (tally_nil other)
tally_runs test other left right (suc count) h =
    tally_alike test other left right (numbers_from (suc left) count) (numbers_from (suc right) count)
    (rw (add-zero left, add-zero right) at (h 0 (omega arith)))
    (tally_runs test other (suc left) (suc right) count (λ x l. rw (suc-add left, suc-add right, ← (add-suc left x), ← (add-suc right x)) (h (suc x) (omega arith))))

-- A run in which none is counted.
pub none_in_run : (test : ℕ → Bool) (start count : ℕ) → tally test (numbers_from start count) ≡ 0 → (x : ℕ) → x < count → test (start + x) ≡ false
none_in_run test start count h x below =
    ap test (sym (get_d_range start count x 0 below)) ∙ none_passes test 0 (numbers_from start count) h x (rw length_range below)

-- ---- sums

pub sum_append : (l m : List ℕ) → sum_of (l ++ m) ≡ sum_of l + sum_of m
unfolding sum_of
sum_append [] m = sym (zero-add (sum_of m))
sum_append (a ∷ l) m = let rest = sum_append l m in omega arith

-- A sum over a run is that over a shorter run and the last number's part.
pub sum_run_suc : (f : ℕ → ℕ) (start count : ℕ) → sum_of (map f (numbers_from start (suc count))) ≡ sum_of (map f (numbers_from start count)) + f (start + count)
unfolding sum_of
sum_run_suc f start count =
    ap (λ l. sum_of (map f l)) (range_suc start count)
    ∙ ap sum_of (map_append f (numbers_from start count) ((start + count) ∷ []))
    ∙ sum_append (map f (numbers_from start count)) (f (start + count) ∷ [])
    ∙ ap (λ n. sum_of (map f (numbers_from start count)) + n) (add-zero (f (start + count)))

-- No more elements have a part in a sum than the sum says.
pub tally_le_sum : {A : Type 0} (f : A → ℕ) (l : List A) → tally (λ a. ltb 0 (f a)) l ≤ sum_of (map f l)
unfolding sum_of
tally_le_sum f [] = rw tally_nil (omega arith)
tally_le_sum f (a ∷ l) =
    let rest = tally_le_sum f l in
    yes_or_no (ltb 0 (f a))
    (λ e. rw (tally_passed (λ x. ltb 0 (f x)) a l e) (omega (arith, ltb-true 0 (f a) e)))
    (λ e. rw (tally_failed (λ x. ltb 0 (f x)) a l e) (omega arith))
