-- Lists made from lists: what passes a test, lists joined end to end, runs in two parts.
use Prim.Native.Nat.{ℕ, zero, suc, ◌+◌, ◌*◌, ◌≤◌, ◌<◌}
use Rattle.std.specs.Prelude.{◌≡◌, ◌⊎◌, Bool, false}
use Rattle.std.proofs.Math.Path.{refl, sym, ap}
use Rattle.std.proofs.Common.{◌∙◌, ap₂, inl, inr, add-zero, add-suc, suc-add, zero-add}
use Rattle.std.proofs.Math.Bool.{true}
use mathlib.Core.List.Memᴰ
use mathlib.Core.List.{List, [], ◌∷◌, ◌++◌, map, flat_map, append_assoc, Memᴰ}
use Rattle.std.proofs.Math.Nat.{mul-zero, mul-suc}
use native.Mathlib.Omega.{arith}
use Rattle.std.proofs.Math.ListN.{length, get_or, length-append, get_or-append}
use Rattle.std.proofs.Math.Seq.{get_or-append-add}
use Rattle.numbers.specs.Lists.{numbers_from, keep}
use Rattle.numbers.proofs.Laws.Bools.{yes_or_no}

-- ---- what passes a test

module _ {A : Type 0} (test : A → Bool) where
  -- The first element is kept, or not.
  pub keep_passed : (x : A) (l : List A) → test x ≡ true → keep test (x ∷ l) ≡ x ∷ keep test l
  unfolding keep
  keep_passed x l e = rw (e, keep)

  pub keep_failed : (x : A) (l : List A) → test x ≡ false → keep test (x ∷ l) ≡ keep test l
  unfolding keep
  keep_failed x l e = rw (e, keep)

  -- Of appended lists the kept parts are appended.
  pub keep_append : (l more : List A) → keep test (l ++ more) ≡ keep test l ++ keep test more
  unfolding keep
  keep_append [] more = refl
  keep_append (a ∷ l) more =
      yes_or_no (test a)
      (λ e. keep_passed a (l ++ more) e ∙ ap (λ k. a ∷ k) (keep_append l more) ∙ ap (λ k. k ++ keep test more) (sym (keep_passed a l e)))
      (λ e. keep_failed a (l ++ more) e ∙ keep_append l more ∙ ap (λ k. k ++ keep test more) (sym (keep_failed a l e)))

  -- No more are kept than there are.
  pub keep_length : (l : List A) → length (keep test l) ≤ length l
  unfolding keep
  keep_length [] = omega arith
  keep_length (x ∷ l) =
      yes_or_no (test x)
      (λ e. rw (keep_passed x l e) (let h = keep_length l in omega arith))
      (λ e. rw (keep_failed x l e) (let h = keep_length l in omega arith))

  -- What is kept passes the test.
  pub kept_passes : (l : List A) (a : A) (k : ℕ) → k < length (keep test l) → test (get_or (keep test l) k a) ≡ true
  unfolding keep
  kept_passes [] a k h = absurd (omega arith)
  kept_passes (x ∷ l) a k h =
      yes_or_no (test x)
      (λ e. rw (keep_passed x l e) (here_or_later e k (rw (keep_passed x l e) at h) (λ m p. kept_passes l a m p)))
      (λ e. rw (keep_failed x l e) (kept_passes l a k (rw (keep_failed x l e) at h)))
    where
      here_or_later : test x ≡ true → (m : ℕ) → m < suc (length (keep test l)) → ((m : ℕ) → m < length (keep test l) → test (get_or (keep test l) m a) ≡ true) → test (get_or (x ∷ keep test l) m a) ≡ true
      here_or_later e zero p later = e
      here_or_later e (suc m) p later = later m (omega arith)

  -- What is kept was in the list.
  pub kept_from : (l : List A) (a : A) (k : ℕ) → k < length (keep test l) → (j : ℕ) × ((j < length l) × (get_or l j a ≡ get_or (keep test l) k a))
  unfolding keep
  kept_from [] a k h = absurd (omega arith)
  kept_from (x ∷ l) a k h =
      yes_or_no (test x)
      (λ e. rw (keep_passed x l e) (here_or_later k (rw (keep_passed x l e) at h) (λ m p. kept_from l a m p)))
      (λ e. rw (keep_failed x l e) (let r = kept_from l a k (rw (keep_failed x l e) at h) in (suc r.0, (omega arith, r.1.1))))
    where
      here_or_later : (m : ℕ) → m < suc (length (keep test l)) → ((m : ℕ) → m < length (keep test l) → (j : ℕ) × ((j < length l) × (get_or l j a ≡ get_or (keep test l) m a))) → (j : ℕ) × ((j < suc (length l)) × (get_or (x ∷ l) j a ≡ get_or (x ∷ keep test l) m a))
      here_or_later zero p later = (0, (omega arith, refl))
      here_or_later (suc m) p later = let r = later m (omega arith) in (suc r.0, (omega arith, r.1.1))

  -- What passes the test is kept.
  pub passed_kept : (l : List A) (a : A) (j : ℕ) → j < length l → test (get_or l j a) ≡ true → (k : ℕ) × ((k < length (keep test l)) × (get_or (keep test l) k a ≡ get_or l j a))
  unfolding keep
  passed_kept [] a j h e = absurd (omega arith)
  passed_kept (x ∷ l) a zero h e = rw (keep_passed x l e) (0, (omega arith, refl))
  passed_kept (x ∷ l) a (suc j) h e =
      let r = passed_kept l a j (omega arith) e in
      yes_or_no (test x)
      (λ t. rw (keep_passed x l t) (suc r.0, (omega arith, r.1.1)))
      (λ t. rw (keep_failed x l t) r)

  -- Where nothing passes, nothing is kept.
  pub keep_none : (l : List A) (a : A) → ((j : ℕ) → j < length l → test (get_or l j a) ≡ false) → keep test l ≡ []
  unfolding keep
  keep_none [] a h = refl
  keep_none (x ∷ l) a h = keep_failed x l (h 0 (omega arith)) ∙ keep_none l a (λ j p. h (suc j) (omega arith))

  -- Where everything passes, all is kept.
  pub keep_all : (l : List A) (a : A) → ((j : ℕ) → j < length l → test (get_or l j a) ≡ true) → keep test l ≡ l
  unfolding keep
  keep_all [] a h = refl
  keep_all (x ∷ l) a h = keep_passed x l (h 0 (omega arith)) ∙ ap (λ m. x ∷ m) (keep_all l a (λ j p. h (suc j) (omega arith)))

-- Equal tests keep the same.
pub keep_same : {A : Type 0} (left right : A → Bool) (l : List A) → ((a : A) → left a ≡ right a) → keep left l ≡ keep right l
unfolding keep
keep_same left right [] h = refl
keep_same left right (a ∷ l) h =
    yes_or_no (right a)
    (λ e. keep_passed left a l (h a ∙ e) ∙ ap (λ k. a ∷ k) (keep_same left right l h) ∙ sym (keep_passed right a l e))
    (λ e. keep_failed left a l (h a ∙ e) ∙ keep_same left right l h ∙ sym (keep_failed right a l e))

-- What is kept of a mapped list.
pub keep_map : {A B : Type 0} (f : A → B) (test : B → Bool) (l : List A) → keep test (map f l) ≡ map f (keep (λ a. test (f a)) l)
unfolding keep
keep_map f test [] = refl
keep_map f test (a ∷ l) =
    yes_or_no (test (f a))
    (λ e. keep_passed test (f a) (map f l) e ∙ ap (λ k. f a ∷ k) (keep_map f test l) ∙ ap (map f) (sym (keep_passed (λ a. test (f a)) a l e)))
    (λ e. keep_failed test (f a) (map f l) e ∙ keep_map f test l ∙ ap (map f) (sym (keep_failed (λ a. test (f a)) a l e)))

-- Elements changed in a way that the test does not see.
pub keep_unseen : {A : Type 0} (test : A → Bool) (f : A → A) (l : List A) → ((a : A) → test (f a) ≡ test a) → keep test (map f l) ≡ map f (keep test l)
keep_unseen test f l h = keep_map f test l ∙ ap (map f) (keep_same (λ a. test (f a)) test l h)

-- ---- what is among those that pass

module _ {A : Type 0} (test : A → Bool) where
  -- What is in the list and passes is kept.
  pub among_kept : {a : A} {l : List A} → Memᴰ a l → test a ≡ true → Memᴰ a (keep test l)
  unfolding keep
  among_kept (Memᴰ.head {x = x} {xs = l} e) h = rw (keep_passed test x l (ap test (sym e) ∙ h)) (Memᴰ.head e)
  among_kept (Memᴰ.tail {x = x} {xs = l} m) h =
      yes_or_no (test x)
      (λ e. rw (keep_passed test x l e) (Memᴰ.tail (among_kept m h)))
      (λ e. rw (keep_failed test x l e) (among_kept m h))

  -- What is kept is in the list and passes.
  pub kept_among : {a : A} (l : List A) → Memᴰ a (keep test l) → Memᴰ a l × (test a ≡ true)
  unfolding keep
  kept_among [] m = absurd (Memᴰ.not-nil m)
  kept_among {a} (x ∷ l) m =
      yes_or_no (test x)
      (λ e. first_or_later e (kept_among l) (Memᴰ.cases_cons (rw (keep_passed test x l e) at m)))
      (λ e. let r = kept_among l (rw (keep_failed test x l e) at m) in (Memᴰ.tail r.0, r.1))
    where
      first_or_later : test x ≡ true → (Memᴰ a (keep test l) → Memᴰ a l × (test a ≡ true)) → (a ≡ x) ⊎ Memᴰ a (keep test l) → Memᴰ a (x ∷ l) × (test a ≡ true)
      first_or_later e later (inl p) = (Memᴰ.head p, ap test p ∙ e)
      first_or_later e later (inr q) = let r = later q in (Memᴰ.tail r.0, r.1)

-- ---- lists joined end to end

module _ {A B : Type 0} (f : A → List B) where
  -- The parts of two lists.
  pub flat_map_append : (left right : List A) → flat_map f (left ++ right) ≡ flat_map f left ++ flat_map f right
  unfolding flat_map
  flat_map_append [] right = refl
  flat_map_append (x ∷ left) right = ap (λ m. f x ++ m) (flat_map_append left right) ∙ sym (append_assoc (f x) (flat_map f left) (flat_map f right))

  -- Parts of one size.
  module _ (size : ℕ) (each : (a : A) → length (f a) ≡ size) where
    -- So many times that size.
    pub length_flat_map : (l : List A) → length (flat_map f l) ≡ size * length l
    unfolding flat_map
    length_flat_map [] = sym (mul-zero size)
    length_flat_map (x ∷ l) =
        let h = length_flat_map l in
        let e = each x in
        length-append (f x) (flat_map f l) ∙ (let s : length (f x) + length (flat_map f l) ≡ size * suc (length l) = omega (arith, mul-suc size (length l)) in s)

    -- Element c of part k.
    pub get_d_flat_map : (l : List A) (a : A) (b : B) (k c : ℕ) → k < length l → c < size → get_or (flat_map f l) (size * k + c) b ≡ get_or (f (get_or l k a)) c b
    unfolding flat_map
    get_d_flat_map [] a b k c h m = absurd (omega arith)
    get_d_flat_map (x ∷ l) a b zero c h m =
        ap (λ p. get_or (f x ++ flat_map f l) p b) (let e : size * 0 + c ≡ c = omega (arith, mul-zero size) in e)
        ∙ get_or-append (f x) (flat_map f l) b c (let e = each x in omega arith)
    get_d_flat_map (x ∷ l) a b (suc k) c h m =
        ap (λ p. get_or (f x ++ flat_map f l) p b) (let e = each x in let s : size * suc k + c ≡ length (f x) + (size * k + c) = omega (arith, mul-suc size k) in s)
        ∙ get_or-append-add (f x) (flat_map f l) (size * k + c) b
        ∙ get_d_flat_map l a b k c (omega arith) m

-- Equal parts.
pub flat_map_same : {A B : Type 0} (f g : A → List B) (l : List A) → ((a : A) → f a ≡ g a) → flat_map f l ≡ flat_map g l
unfolding flat_map
flat_map_same f g [] h = refl
flat_map_same f g (x ∷ l) h = ap₂ (λ p m. p ++ m) (h x) (flat_map_same f g l h)

-- ---- runs in two parts

-- A run is its first numbers and those from there on.
pub range_add : (start left right : ℕ) → numbers_from start (left + right) ≡ numbers_from start left ++ numbers_from (start + left) right
unfolding numbers_from
range_add start zero right = ap₂ numbers_from (sym (add-zero start)) (zero-add right)
range_add start (suc left) right =
    ap (numbers_from start) (suc-add left right)
    ∙ ap (λ l. start ∷ l) (range_add (suc start) left right ∙ ap (λ m. numbers_from (suc start) left ++ numbers_from m right) (suc-add start left ∙ sym (add-suc start left)))
