-- The branching classes of a cut, counted at once and one by one, and those of all cuts.
use Rattle.std.specs.Prelude.{ℕ, zero, suc, ◌+◌, ◌-◌, ◌*◌, ◌≤◌, ◌<◌, ◌≡◌, refl, Bool, true, false, List, [], ◌∷◌, length, get_or, take, map, filter, ℤ}
use Rattle.std.specs.List.{range_with_len, sum_by}
use Rattle.std.proofs.Common.{sym, ap, ◌∙◌, zero-add, add-zero, add-one, one-add, mul-suc, pow_mono, take-suc, arith}
use Rattle.std.proofs.lemmas.List.Sums.{sum_by-cons}
use Rattle.std.proofs.Math.Seq.{take-length}
use Rattle.numbers.specs.Lists.{numbers_from, tally, sum_of}
use Rattle.numbers.proofs.Laws.Bools.{yes_or_no}
use Rattle.numbers.proofs.Laws.Tallies.{tally_nil, tally_passed, tally_failed, tally_append, tally_le_length, sum_run_suc}
use Rattle.blocks.specs.Classes.{classes, class_count}
use Rattle.blocks.specs.Inner.Layout.{class_at}
use Rattle.blocks.specs.Rows.{all_firsts, all_counts}
use Rattle.blocks.proofs.Laws.Classes.{class_count_le}
use Rattle.blocks.proofs.Laws.Places.{length_counts}
use Rattle.diagram.specs.Accepted.{Accepted}
use Rattle.diagram.specs.Records.{branches, node_count}
use Rattle.diagram.specs.Inner.Building.{ClassOfCut}
use Rattle.diagram.proofs.Laws.NodeCount.{node_count_by_classes}
use Rattle.cascade.proofs.Laws.Cells.{variables_most}
use Rattle.compiler.specs.Inner.Counted.{branching_at}

-- ---- one cut

-- The numbers of the elements that pass a test are as many as those elements.
tally_places : {A : Type 0} (test : A → Bool) (d : A) (at : ℕ → Bool) (from : ℕ) (l : List A) → ((k : ℕ) → k < length l → at (from + k) ≡ test (get_or l k d)) → length (filter at (range_with_len from (length l))) ≡ tally test l
tally_places test d at from [] e = sym (tally_nil test)
tally_places test d at from (a ∷ l) e =
    let rest = tally_places test d at (from + 1) l (λ k b. ap at (let e : from + 1 + k ≡ from + suc k = omega arith in e) ∙ e (suc k) (omega arith)) in
    let here : at from ≡ test a = ap at (sym (add-zero from)) ∙ e 0 (omega arith) in
    yes_or_no (test a)
    (λ t. rw (here, t, tally_passed test a l t) (ap suc rest))
    (λ f. rw (here, f, tally_failed test a l f) rest)

module _ (n : ℕ) (table : List ℤ) (h : ℕ) where
  -- The classes of cut h that branch are as many as their numbers.
  pub branching_places : length (filter (λ c. branches (n - suc h) (class_at n table h c)) (range_with_len 0 (class_count n table h))) ≡ branching_at n table h
  unfolding branching_at class_count class_at
  branching_places = tally_places (branches (n - suc h)) [] (λ c. branches (n - suc h) (class_at n table h c)) 0 (classes n table h) (λ k b. ap (λ c. branches (n - suc h) (get_or (classes n table h) c [])) (zero-add k))

-- Of the first c classes of cut h so many branch.
pub record BranchingTo (n h : ℕ) (table : List ℤ) (c branching : ℕ) : Type 0 where
  pub inside : c ≤ class_count n table h
  pub counted : branching ≡ tally (branches (n - suc h)) (take c (classes n table h))
  pub few : branching ≤ c

module _ {n h : ℕ} {table : List ℤ} (admitted : Accepted n table) (cut : h < n) {count : ℕ} (class_counted : count ≡ class_count n table h) where
  pub none_branching : BranchingTo n h table 0 0
  none_branching = record { inside = omega arith; counted = sym (tally_nil (branches (n - suc h))); few = omega arith }

  pub class_of_cut : {first_row : List ℕ} → first_row ≡ all_firsts n table → (c : ℕ) → c < count → ClassOfCut n h c table first_row
  class_of_cut placed c l = record { admitted = admitted; cut = cut; known = omega arith; placed = placed }

  module _ (c branching : ℕ) (s : BranchingTo n h table c branching) (l : c < count) where
    below : c < class_count n table h
    below = omega arith

    one_more : tally (branches (n - suc h)) (take (c + 1) (classes n table h)) ≡ tally (branches (n - suc h)) (take c (classes n table h)) + tally (branches (n - suc h)) (class_at n table h c ∷ [])
    unfolding class_at class_count
    one_more = ap (λ k. tally (branches (n - suc h)) (take k (classes n table h))) (add-one c) ∙ ap (tally (branches (n - suc h))) (take-suc (classes n table h) c [] below) ∙ tally_append (branches (n - suc h)) (take c (classes n table h)) (get_or (classes n table h) c [] ∷ [])

    pub one_branching : branches (n - suc h) (class_at n table h c) ≡ true → BranchingTo n h table (c + 1) (branching + 1)
    one_branching e = record {
      inside = let b = below in omega arith;
      counted = let m = one_more in let p = tally_passed (branches (n - suc h)) (class_at n table h c) [] e in let z = tally_nil (branches (n - suc h)) in let k = s.counted in omega arith;
      few = let f = s.few in omega arith;
    }

    pub one_passing : branches (n - suc h) (class_at n table h c) ≡ false → BranchingTo n h table (c + 1) branching
    one_passing e = record {
      inside = let b = below in omega arith;
      counted = let m = one_more in let p = tally_failed (branches (n - suc h)) (class_at n table h c) [] e in let z = tally_nil (branches (n - suc h)) in let k = s.counted in omega arith;
      few = let f = s.few in omega arith;
    }

  pub all_branching : (c branching : ℕ) → BranchingTo n h table c branching → count ≤ c → branching ≡ branching_at n table h
  unfolding branching_at class_count
  all_branching c branching s l = s.counted ∙ ap (tally (branches (n - suc h))) (ap (λ k. take k (classes n table h)) (let i = s.inside in let w : c ≡ length (classes n table h) = omega arith in w) ∙ take-length (classes n table h))

  -- There are few classes.
  pub few_classes : count ≤ 4096
  few_classes = let m = class_count_le n table h (omega arith) in let p = pow_mono {i = h} {j = 12} (let f = variables_most n table admitted in omega arith) in omega arith

-- ---- all cuts

-- The terminal and the branching classes of the first h cuts.
pub record NodesTo (n : ℕ) (table : List ℤ) (h nodes : ℕ) : Type 0 where
  pub inside : h ≤ n
  pub counted : nodes ≡ suc (sum_of (map (branching_at n table) (numbers_from 0 h)))
  pub few : nodes ≤ 1 + 4096 * h

module _ (f : ℕ → ℕ) where
  -- A sum over a run of numbers,
  sum_run : (from m : ℕ) → sum_by f (range_with_len from m) ≡ sum_of (map f (numbers_from from m))
  unfolding sum_of numbers_from
  sum_run from zero = refl
  sum_run from (suc m) = sum_by-cons f from (range_with_len (from + 1) m) ∙ ap (λ rest. f from + rest) (ap (λ next. sum_by f (range_with_len next m)) (add-one from) ∙ sum_run (suc from) m)

  -- and a bound of it.
  sum_run_le : (most from m : ℕ) → ((k : ℕ) → from ≤ k → k < from + m → f k ≤ most) → sum_by f (range_with_len from m) ≤ most * m
  sum_run_le most from zero each = omega arith
  sum_run_le most from (suc m) each =
      let e = sum_by-cons f from (range_with_len (from + 1) m) in
      let here = each from (omega arith) (omega arith) in
      let rest = sum_run_le most (from + 1) m (λ k a b. each k (omega arith) (omega arith)) in
      omega (arith, mul-suc most m)

module _ {n : ℕ} {table : List ℤ} (a : Accepted n table) where
  pub terminal_alone : NodesTo n table 0 1
  unfolding sum_of numbers_from
  terminal_alone = record { inside = omega arith; counted = refl; few = omega arith }

  pub cut_place_lem : {count_row : List ℕ} → count_row ≡ all_counts n table → (h : ℕ) → h < n → h < length count_row
  cut_place_lem counted h l = rw (counted, length_counts n table) (omega arith)

  pub cuts_small : n ≤ 12
  cuts_small = variables_most n table a

  branching_few : (h : ℕ) → h < n → branching_at n table h ≤ 4096
  unfolding branching_at class_count
  branching_few h l = let t = tally_le_length (branches (n - suc h)) (classes n table h) in let f = few_classes a l refl in omega arith

  pub one_cut : (h nodes : ℕ) → NodesTo n table h nodes → h < n → NodesTo n table (h + 1) (nodes + branching_at n table h)
  one_cut h nodes s l = record {
    inside = omega arith;
    counted = let k = s.counted in let e = ap (λ m. sum_of (map (branching_at n table) (numbers_from 0 m))) (add-one h) ∙ sum_run_suc (branching_at n table) 0 h ∙ ap (λ m. sum_of (map (branching_at n table) (numbers_from 0 h)) + branching_at n table m) (zero-add h) in omega arith;
    few = let f = s.few in let b = branching_few h l in omega arith;
  }

  pub all_cuts : (h nodes : ℕ) → NodesTo n table h nodes → n ≤ h → nodes ≡ node_count n table
  unfolding branching_at
  all_cuts h nodes s l = s.counted ∙ ap (λ m. suc (sum_of (map (branching_at n table) (numbers_from 0 m)))) (let i = s.inside in let e : h ≡ n = omega arith in e) ∙ sym (node_count_by_classes n table)

  -- The branching classes of all cuts are few,
  pub nodes_few : sum_by (branching_at n table) (range_with_len 0 n) ≤ 49152
  nodes_few = let s = sum_run_le (branching_at n table) 4096 0 n (λ h z l. branching_few h (omega arith)) in let f = variables_most n table a in omega arith

-- and with the terminal they are the nodes.
pub nodes_counted : (n : ℕ) (table : List ℤ) → 1 + sum_by (branching_at n table) (range_with_len 0 n) ≡ node_count n table
unfolding branching_at
nodes_counted n table = ap (λ sum. 1 + sum) (sum_run (branching_at n table) 0 n) ∙ one-add _ ∙ sym (node_count_by_classes n table)
