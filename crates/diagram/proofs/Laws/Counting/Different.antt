-- Different lists, counted: each is met once, so there are no more of them than candidates.
use Rattle.std.specs.Prelude.{ℕ, zero, suc, ◌+◌, ◌≤◌, ◌<◌, ◌≡◌, refl, Bool, true, false, ◌&&◌, ◌||◌, length, get_or, ℤ}
use Rattle.std.proofs.Common.{sym, ◌∙◌, ap, ap₂, zero-add, add-zero, add-suc, suc-add, arith}
use Rattle.std.proofs.Math.Bool.{or-true, or_assoc}
use mathlib.Core.List.{List, [], ◌∷◌, ◌++◌, map, flat_map}
use Rattle.numbers.specs.Lists.{numbers_from, tally}
use Rattle.numbers.proofs.Laws.Bools.{yes_or_no}
use Rattle.numbers.proofs.Laws.Integers.{eq_z_refl}
use Rattle.numbers.proofs.Laws.Tallies.{tally_nil, tally_passed, tally_failed, tally_all, tally_none, tally_append, tally_either}
use Rattle.blocks.specs.Classes.{same, number_in, learn, learn_all, distinct}
use Rattle.blocks.proofs.Laws.Same.{same_true}
use Rattle.blocks.proofs.Laws.Known.{number_here, number_later, learn_known, learn_new, known_or_new, Among, distinct_seen}

-- ---- a list among candidates, as a test

unfoldable pub is_among : List (List ℤ) → List ℤ → Bool
is_among [] d = false
is_among (c ∷ candidates) d = same d c || is_among candidates d

-- Among these, or among those.
pub among_append : (candidates more : List (List ℤ)) (d : List ℤ) → is_among (candidates ++ more) d ≡ (is_among candidates d || is_among more d)
unfolding is_among
among_append [] more d = refl
among_append (c ∷ candidates) more d =
    ap (λ b. same d c || b) (among_append candidates more d) ∙ sym (or_assoc (same d c) (is_among candidates d) (is_among more d))

-- One first value before all.
pub among_cons : (v : ℤ) (candidates : List (List ℤ)) (d : List ℤ) → is_among (map (λ l. v ∷ l) candidates) (v ∷ d) ≡ is_among candidates d
unfolding is_among same
among_cons v [] d = refl
among_cons v (c ∷ candidates) d = ap₂ (λ a b. (a && same d c) || b) (eq_z_refl v) (among_cons v candidates d)

-- Among the candidates that some number of a run gives.
pub among_run : (f : ℕ → List (List ℤ)) (start count s : ℕ) (d : List ℤ) → s < count → is_among (f (start + s)) d ≡ true → is_among (flat_map f (numbers_from start count)) d ≡ true
unfolding flat_map numbers_from
among_run f start zero s d l h = absurd (omega arith)
among_run f start (suc count) zero d l h =
    among_append (f start) (flat_map f (numbers_from (suc start) count)) d
    ∙ ap (λ b. b || is_among (flat_map f (numbers_from (suc start) count)) d) (rw add-zero at h)
among_run f start (suc count) (suc s) d l h =
    among_append (f start) (flat_map f (numbers_from (suc start) count)) d
    ∙ ap (λ b. is_among (f start) d || b) (among_run f (suc start) count s d (omega arith) (rw (suc-add, ← add-suc) h))
    ∙ or-true (is_among (f start) d)

-- ---- no list is known twice

-- A list that gets the next new number is not yet known.
new_unknown : (known : List (List ℤ)) (d : List ℤ) → length known ≤ number_in known d → tally (λ k. same k d) known ≡ 0
new_unknown [] d h = tally_nil (λ k. same k d)
new_unknown (k ∷ known) d h =
    yes_or_no (same k d)
    (λ e. absurd (let l : suc (length known) ≤ 0 = rw (number_here k known d e) at h in omega arith))
    (λ e.
    tally_failed (λ x. same x d) k known e
    ∙ new_unknown known d (let l : suc (length known) ≤ suc (number_in known d) = rw (number_later k known d e) at h in omega arith))

-- Learning keeps each list at most once.
once_learn : (known : List (List ℤ)) (d : List ℤ) → ((c : List ℤ) → tally (λ k. same k c) known ≤ 1) → (c : List ℤ) → tally (λ k. same k c) (learn known d) ≤ 1
once_learn known d once c =
    known_or_new known d
    (λ old. rw (learn_known known d old) (once c))
    (λ new.
    rw (learn_new known d new, tally_append (λ k. same k c) known (d ∷ []))
    (yes_or_no (same d c)
    (λ e. rw (tally_passed (λ k. same k c) d [] e, tally_nil (λ k. same k c)) (let z : tally (λ k. same k c) known ≡ 0 = rw (same_true d c e) at (new_unknown known d new) in omega arith))
    (λ e. rw (tally_failed (λ k. same k c) d [] e, tally_nil (λ k. same k c)) (let o = once c in omega arith))))

once_learn_all : (known ds : List (List ℤ)) → ((c : List ℤ) → tally (λ k. same k c) known ≤ 1) → (c : List ℤ) → tally (λ k. same k c) (learn_all known ds) ≤ 1
unfolding learn_all
once_learn_all known [] once = once
once_learn_all known (d ∷ ds) once = once_learn_all (learn known d) ds (once_learn known d once)

-- A list stands at most once among the different ones.
pub distinct_once : (ds : List (List ℤ)) (c : List ℤ) → tally (λ k. same k c) (distinct ds) ≤ 1
unfolding distinct
distinct_once ds = once_learn_all [] ds (λ c. rw (tally_nil (λ k. same k c)) (omega arith))

-- ---- what passes a test

-- A list learnt adds itself at most.
learn_tally : (test : List ℤ → Bool) (known : List (List ℤ)) (d : List ℤ) → tally test (learn known d) ≤ tally test known + tally test (d ∷ [])
learn_tally test known d =
    known_or_new known d
    (λ old. rw (learn_known known d old) (omega arith))
    (λ new. rw (learn_new known d new, tally_append test known (d ∷ [])) (omega arith))

learn_all_tally : (test : List ℤ → Bool) (known ds : List (List ℤ)) → tally test (learn_all known ds) ≤ tally test known + tally test ds
unfolding learn_all
learn_all_tally test known [] = omega arith
learn_all_tally test known (d ∷ ds) =
    let rest = learn_all_tally test (learn known d) ds in
    omega (arith, learn_tally test known d, tally_append test (d ∷ []) ds)

-- Of the different lists no more pass a test than of all.
pub distinct_tally : (test : List ℤ → Bool) (ds : List (List ℤ)) → tally test (distinct ds) ≤ tally test ds
unfolding distinct
distinct_tally test ds = rw (tally_nil test, zero-add) at (learn_all_tally test [] ds)

-- ---- no more different lists than candidates

-- Of lists known once, no more are among the candidates than there are candidates.
among_le : (candidates known : List (List ℤ)) → ((c : List ℤ) → tally (λ k. same k c) known ≤ 1) → tally (is_among candidates) known ≤ length candidates
unfolding is_among
among_le [] known once = rw (tally_none (is_among []) known (λ d. refl)) (omega arith)
among_le (c ∷ candidates) known once =
    let rest = among_le candidates known once in
    let either = tally_either (λ k. same k c) (is_among candidates) known in
    let o = once c in
    omega arith

-- Where each list passes a test or is among the candidates, the different ones are no more than those that pass and the candidates.
pub distinct_le : (test : List ℤ → Bool) (candidates ds : List (List ℤ)) → ((j : ℕ) → j < length ds → (test (get_or ds j []) || is_among candidates (get_or ds j [])) ≡ true) → length (distinct ds) ≤ tally test ds + length candidates
unfolding Among
distinct_le test candidates ds covered =
    let either = tally_either test (is_among candidates) (distinct ds) in
    let all = tally_all (λ d. test d || is_among candidates d) [] (distinct ds) (λ k h. let seen = distinct_seen ds k h in rw seen.1.1 at (covered seen.0 seen.1.0)) in
    let few = among_le candidates (distinct ds) (distinct_once ds) in
    let fewer = distinct_tally test ds in
    omega arith
