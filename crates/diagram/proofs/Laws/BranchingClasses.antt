-- The kinds of a height are the branching classes of its cut, in their order; and the number of each among them.
use Prim.Native.Nat.{ℕ, suc, ◌+◌, ◌-◌, ◌≤◌, ◌<◌}
use Rattle.std.specs.Prelude.{◌≡◌, Bool, true, false, length, take, ℤ}
use Rattle.std.proofs.Math.Path.{refl, ap}
use Rattle.std.proofs.Common.{sym, ◌∙◌}
use mathlib.Core.List.{List, [], ◌∷◌, ◌++◌, map, append-nil}
use native.Mathlib.Omega.{arith}
use Rattle.std.proofs.Math.Decide.{dec_lt}
use Rattle.std.proofs.Math.ListN.{get_or}
use Rattle.numbers.specs.Lists.{keep}
use Rattle.numbers.proofs.Laws.Bools.{yes_or_no}
use Rattle.numbers.proofs.Laws.Rows.{keep_one, keep_other, kept_at, kept_below}
use Rattle.numbers.proofs.Laws.Selections.{keep_append, keep_passed, keep_failed, kept_from, passed_kept, keep_unseen}
use Rattle.blocks.specs.Blocks.{blocks, differences}
use Rattle.blocks.specs.Classes.{number_in, learn, learn_all, distinct, classes}
use Rattle.blocks.proofs.Laws.Known.{number_at, number_by, learn_known, learn_new, known_or_new, own_distinct}
use Rattle.diagram.specs.Records.{branches, kinds}
use Rattle.diagram.proofs.Laws.Shifts.{branches_differences}

-- ---- different lists, and those of them that pass a test

module _ (test : List ℤ → Bool) where
  -- A list that passes is known among the kept exactly when it is known.
  still_known : (known : List (List ℤ)) (d : List ℤ) → test d ≡ true → number_in known d < length known → number_in (keep test known) d < length (keep test known)
  still_known known d e l =
      let stands = number_at known d l in
      let k = passed_kept test known [] (number_in known d) l (ap test stands ∙ e) in
      let b = number_by (keep test known) d k.0 (k.1.1 ∙ stands) in
      let p = k.1.0 in
      omega arith

  still_new : (known : List (List ℤ)) (d : List ℤ) → length known ≤ number_in known d → length (keep test known) ≤ number_in (keep test known) d
  still_new known d l = at_least (dec_lt (number_in (keep test known) d) (length (keep test known)))
    where
      at_least : Dec (number_in (keep test known) d < length (keep test known)) → length (keep test known) ≤ number_in (keep test known) d
      at_least (no m) = omega arith
      at_least (yes m) =
          absurd
          (let j = kept_from test known [] (number_in (keep test known) d) m in
          let b = number_by known d j.0 (j.1.1 ∙ number_at (keep test known) d m) in
          let p = j.1.0 in
          omega arith)

  learn_kept : (known : List (List ℤ)) (d : List ℤ) → test d ≡ true → learn (keep test known) d ≡ keep test (learn known d)
  learn_kept known d e =
      known_or_new known d
      (λ old. learn_known (keep test known) d (still_known known d e old) ∙ ap (keep test) (sym (learn_known known d old)))
      (λ new.
      learn_new (keep test known) d (still_new known d new)
      ∙ sym (ap (keep test) (learn_new known d new) ∙ keep_append test known (d ∷ []) ∙ ap (λ k. keep test known ++ k) (keep_one test d e)))

  learn_passed_over : (known : List (List ℤ)) (d : List ℤ) → test d ≡ false → keep test (learn known d) ≡ keep test known
  learn_passed_over known d e =
      known_or_new known d
      (λ old. ap (keep test) (learn_known known d old))
      (λ new. ap (keep test) (learn_new known d new) ∙ keep_append test known (d ∷ []) ∙ ap (λ k. keep test known ++ k) (keep_other test d e) ∙ append-nil (keep test known))

  learn_all_kept : (known ds : List (List ℤ)) → learn_all (keep test known) (keep test ds) ≡ keep test (learn_all known ds)
  unfolding learn_all keep
  learn_all_kept known [] = refl
  learn_all_kept known (d ∷ ds) =
      let rest = learn_all_kept (learn known d) ds in
      yes_or_no (test d)
      (λ e. ap (learn_all (keep test known)) (keep_passed test d ds e) ∙ ap (λ k. learn_all k (keep test ds)) (learn_kept known d e) ∙ rest)
      (λ e. ap (learn_all (keep test known)) (keep_failed test d ds e) ∙ ap (λ k. learn_all k (keep test ds)) (sym (learn_passed_over known d e)) ∙ rest)

  -- The different lists of those that pass are those that pass of the different lists.
  pub distinct_kept : (ds : List (List ℤ)) → distinct (keep test ds) ≡ keep test (distinct ds)
  unfolding distinct keep
  distinct_kept ds = learn_all_kept [] ds

-- ---- the kinds of a height

module _ (n h i : ℕ) (cut : h + suc i ≡ n) (table : List ℤ) where
  -- They are the branching classes of the cut.
  pub kinds_are : kinds n table i ≡ keep (branches i) (classes n table h)
  unfolding kinds classes
  kinds_are =
      ap distinct (sym (keep_unseen (branches i) differences (blocks n table (suc i)) (branches_differences i)))
      ∙ distinct_kept (branches i) (map differences (blocks n table (suc i)))
      ∙ ap (λ k. keep (branches i) (distinct (map differences (blocks n table k)))) (let e : suc i ≡ n - h = omega arith in e)

  -- Class c is a kind whose number is that of the branching classes before it.
  module _ (c : ℕ) (below : c < length (classes n table h)) (e : branches i (get_or (classes n table h) c []) ≡ true) where
    pub kind_below : length (keep (branches i) (take c (classes n table h))) < length (kinds n table i)
    kind_below = rw kinds_are (kept_below (branches i) (classes n table h) [] c below e)

    pub kind_number : number_in (kinds n table i) (get_or (classes n table h) c []) ≡ length (keep (branches i) (take c (classes n table h)))
    unfolding kinds
    kind_number =
        ap (number_in (kinds n table i)) (sym (ap (λ l. get_or l (length (keep (branches i) (take c (classes n table h)))) []) kinds_are ∙ kept_at (branches i) (classes n table h) [] c below e))
        ∙ own_distinct (map differences (keep (branches i) (blocks n table (suc i)))) (length (keep (branches i) (take c (classes n table h)))) kind_below
