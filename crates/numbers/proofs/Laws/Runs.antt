-- Runs of numbers: what of them passes a test whose front passes, two runs place by place, what stands in a run, and how many places it
-- takes to meet them all.
use Rattle.std.specs.Prelude.{ℕ, zero, suc, ◌+◌, ◌-◌, ◌≤◌, ◌<◌, ◌≡◌, refl, ◌⊎◌, Bool, true, false, cond, length, get_or, eqb, ltb}
use Rattle.std.proofs.Common.{sym, ◌∙◌, ap, ap₂, inl, inr, add-zero, add-suc, suc-add, arith, eqb-true, ltb-true, ltb-false, lt-ltb, le-ltb}
use mathlib.Core.List.Memᴰ
use mathlib.Core.List.{◌∷◌, ◌++◌, map, append-nil, Memᴰ}
use Rattle.std.proofs.lemmas.Bool.{eqb-false}
use Rattle.numbers.specs.Lists.{numbers_from, keep}
use Rattle.numbers.proofs.Laws.Bools.{yes_or_no}
use Rattle.numbers.proofs.Laws.Lists.{length_range, get_d_range}
use Rattle.numbers.proofs.Laws.Selections.{keep_append, keep_passed, keep_failed, keep_none, range_add}

-- What is kept of a run, where its front passes and the rest does not.
pub keep_front : (test : ℕ → Bool) (front rest : ℕ) → ((j : ℕ) → j < front → test j ≡ true) → ((j : ℕ) → front ≤ j → j < front + rest → test j ≡ false) → keep test (numbers_from 0 (front + rest)) ≡ numbers_from 0 front
unfolding numbers_from keep
keep_front test front rest pass fail =
    ap (keep test) (range_add 0 front rest)
    ∙ keep_append test (numbers_from 0 front) (numbers_from (0 + front) rest)
    ∙ ap₂ ◌++◌ (all 0 front (λ j p q. pass j (omega arith))) (keep_none test (numbers_from (0 + front) rest) 0 none)
    ∙ append-nil (numbers_from 0 front)
  where
    all : (start count : ℕ) → ((j : ℕ) → start ≤ j → j < start + count → test j ≡ true) → keep test (numbers_from start count) ≡ numbers_from start count
    all start zero passed = refl
    all start (suc count) passed = keep_passed test start (numbers_from (suc start) count) (passed start (omega arith) (omega arith)) ∙ ap (λ l. start ∷ l) (all (suc start) count (λ j p q. passed j (omega arith) (omega arith)))

    none : (j : ℕ) → j < length (numbers_from (0 + front) rest) → test (get_or (numbers_from (0 + front) rest) j 0) ≡ false
    none j l =
        let inside : j < rest = rw length_range at l in
        rw (get_d_range (0 + front) rest j 0 inside) (fail (0 + front + j) (omega arith) (omega arith))

-- Two runs of one length, place by place with one outcome and one image: what is kept of them has the same images.
pub kept_runs : {A : Type 0} (test other : ℕ → Bool) (f g : ℕ → A) (left right count : ℕ) → ((x : ℕ) → x < count → (test (left + x) ≡ other (right + x)) × (f (left + x) ≡ g (right + x))) → map f (keep test (numbers_from left count)) ≡ map g (keep other (numbers_from right count))
unfolding numbers_from keep
kept_runs test other f g left right zero h = refl
kept_runs test other f g left right (suc count) h =
    let here = rw (add-zero left, add-zero right) at (h 0 (omega arith)) in
    let rest = kept_runs test other f g (suc left) (suc right) count (λ x l. rw (suc-add left, suc-add right, ← (add-suc left x), ← (add-suc right x)) (h (suc x) (omega arith))) in
    yes_or_no (test left)
    (λ e. ap (map f) (keep_passed test left (numbers_from (suc left) count) e) ∙ ap₂ (λ a l. a ∷ l) here.1 rest ∙ sym (ap (map g) (keep_passed other right (numbers_from (suc right) count) (sym here.0 ∙ e))))
    (λ e. ap (map f) (keep_failed test left (numbers_from (suc left) count) e) ∙ rest ∙ sym (ap (map g) (keep_failed other right (numbers_from (suc right) count) (sym here.0 ∙ e))))

-- The same of the whole runs.
pub mapped_runs : {A : Type 0} (f g : ℕ → A) (left right count : ℕ) → ((x : ℕ) → x < count → f (left + x) ≡ g (right + x)) → map f (numbers_from left count) ≡ map g (numbers_from right count)
unfolding numbers_from
mapped_runs f g left right zero h = refl
mapped_runs f g left right (suc count) h =
    ap₂ (λ a l. a ∷ l)
    (rw (add-zero left, add-zero right) at (h 0 (omega arith)))
    (mapped_runs f g (suc left) (suc right) count (λ x l. rw (suc-add left, suc-add right, ← (add-suc left x), ← (add-suc right x)) (h (suc x) (omega arith))))

-- The numbers of a run.
pub run_among : (start count h : ℕ) → Memᴰ h (numbers_from start count) → (start ≤ h) × (h < start + count)
unfolding numbers_from
run_among start zero h m = absurd (Memᴰ.not-nil m)
run_among start (suc count) h m = first_or_later (run_among (suc start) count h) (Memᴰ.cases_cons m)
  where
    first_or_later : (Memᴰ h (numbers_from (suc start) count) → (suc start ≤ h) × (h < suc start + count)) → (h ≡ start) ⊎ Memᴰ h (numbers_from (suc start) count) → (start ≤ h) × (h < start + suc count)
    first_or_later later (inl e) = (omega arith, omega arith)
    first_or_later later (inr m) = let r = later m in let p = r.0 in let q = r.1 in (omega arith, omega arith)

pub among_run : (start count h : ℕ) → start ≤ h → h < start + count → Memᴰ h (numbers_from start count)
unfolding numbers_from
among_run start zero h p q = absurd (omega arith)
among_run start (suc count) h p q =
    yes_or_no (eqb h start)
    (λ e. Memᴰ.head (eqb-true h start e))
    (λ e. Memᴰ.tail (among_run (suc start) count h (let other : h ≡ start → ⊥ = eqb-false h start e in omega arith) (omega arith)))

-- Where each number below a is met among b places, a is at most b.
pub all_met : (b a : ℕ) (f : ℕ → ℕ) → ((c : ℕ) → c < a → (k : ℕ) × ((k < b) × (f k ≡ c))) → a ≤ b
all_met zero zero f met = omega arith
all_met zero (suc a) f met = let none = (met 0 (omega arith)).1.0 in absurd (omega arith)
all_met (suc b) zero f met = omega arith
all_met (suc b) (suc a) f met = let rest = all_met b a closed met_still in omega arith
  where
    -- The numbers without the last place's, the later ones moved up.
    closed : ℕ → ℕ
    closed k = cond (ltb (f b) (f k)) (f k - 1) (f k)

    moved : (c : ℕ) → c < a → (o : ℕ) → (o < suc a) → (o ≡ f b → ⊥) → ((k : ℕ) → f k ≡ o → closed k ≡ c) → (k : ℕ) × ((k < b) × (closed k ≡ c))
    moved c l o lo other back =
        let m = met o lo in
        let here = m.1.0 in
        (m.0, ((let q : m.0 ≡ b → ⊥ = (λ e. other (sym m.1.1 ∙ ap f e)) in omega arith), back m.0 m.1.1))

    met_still : (c : ℕ) → c < a → (k : ℕ) × ((k < b) × (closed k ≡ c))
    met_still c l =
        yes_or_no (ltb c (f b))
        (λ t. let under = ltb-true c (f b) t in moved c l c (omega arith) (λ e. omega arith) (λ k e. rw (le-ltb (f b) (f k) (omega arith)) e))
        (λ t. let over = ltb-false c (f b) t in moved c l (suc c) (omega arith) (λ e. omega arith) (λ k e. rw (lt-ltb (f b) (f k) (omega arith)) (omega arith)))
