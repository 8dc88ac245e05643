-- The node count: by the records of all heights, and by the branching classes of all cuts.
use Rattle.std.specs.Prelude.{ℕ, zero, suc, ◌+◌, ◌-◌, ◌≤◌, ◌≡◌, List, map, length, ℤ}
use Rattle.std.proofs.Common.{sym, ◌∙◌, ap, zero-add, add-zero, arith}
use Rattle.std.proofs.Math.Nat.{sub_self, sub-zero}
use Rattle.numbers.specs.Lists.{numbers_from, tally, sum_of}
use Rattle.numbers.proofs.Laws.Tallies.{sum_run_suc}
use Rattle.blocks.specs.Classes.{classes}
use Rattle.diagram.specs.Records.{branches, kinds, records_below, node_count}
use Rattle.diagram.proofs.Laws.BranchingClasses.{kinds_are}
use Rattle.diagram.proofs.Laws.Numbering.{records_count}

-- The records of all heights and the terminal.
pub node_count_lem : (n : ℕ) (table : List ℤ) → node_count n table ≡ suc (records_below n table n)
unfolding node_count
node_count_lem n table = ap suc (records_count n table)

-- How many classes of cut h branch: those of the blocks whose halves have height n - (h + 1).
abbrev pub branching_classes : ℕ → List ℤ → ℕ → ℕ
branching_classes n table h = tally (branches (n - suc h)) (classes n table h)

-- They are the records of one variable.
branching_kinds : (n : ℕ) (table : List ℤ) (h : ℕ) → suc h ≤ n → length (kinds n table (n - suc h)) ≡ branching_classes n table h
unfolding tally
branching_kinds n table h l = ap length (kinds_are n h (n - suc h) (omega arith) table)

-- The records of the variables that the first cuts lie above, cut by cut.
records_of_cuts : (n : ℕ) (table : List ℤ) (cuts : ℕ) → cuts ≤ n → records_below n table n ≡ records_below n table (n - cuts) + sum_of (map (branching_classes n table) (numbers_from 0 cuts))
unfolding numbers_from sum_of records_below
records_of_cuts n table zero l = sym (add-zero (records_below n table (n - 0)) ∙ ap (records_below n table) (sub-zero n))
records_of_cuts n table (suc h) l =
    let sum = sum_run_suc (branching_classes n table) 0 h ∙ ap (λ k. sum_of (map (branching_classes n table) (numbers_from 0 h)) + branching_classes n table k) (zero-add h) in
    let below : records_below n table (n - h) ≡ records_below n table (n - suc h) + branching_classes n table h =
    ap (records_below n table) (let e : n - h ≡ suc (n - suc h) = omega arith in e) ∙ ap (λ k. records_below n table (n - suc h) + k) (branching_kinds n table h l) in
    let rest = records_of_cuts n table h (omega arith) in
    omega arith

-- The node count is the terminal and, over the cuts above the variables, the classes that branch.
pub node_count_by_classes : (n : ℕ) (table : List ℤ) → node_count n table ≡ suc (sum_of (map (branching_classes n table) (numbers_from 0 n)))
unfolding records_below
node_count_by_classes n table =
    node_count_lem n table
    ∙ ap suc
    (records_of_cuts n table n (omega arith)
    ∙ ap (λ k. records_below n table k + sum_of (map (branching_classes n table) (numbers_from 0 n))) (sub_self n)
    ∙ zero-add (sum_of (map (branching_classes n table) (numbers_from 0 n))))
