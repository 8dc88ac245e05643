-- The least and the greatest that records carry: in a list that passes Walk's check, in what Build writes, and what an untrue one meets.
use Rattle.std.specs.Prelude.{ℕ, ◌%◌, ◌≤◌, ◌≡◌, true, List, length, ℤ}
use Rattle.std.proofs.Common.{arith}
use Rattle.numbers.specs.Answers.{refused}
use Rattle.numbers.specs.Conditions.{Variables, TableValue, Domain, LeastOver, GreatestOver, Signed32}
use Rattle.numbers.proofs.Laws.Bools.{yes_or_no}
use Rattle.diagram.specs.Accepted.{Accepted, written, node_function}
use Rattle.diagram.specs.Build.{node_room}
use Rattle.diagram.specs.Records.{records, record_size}
use Rattle.diagram.specs.Walk.{least_at, greatest_at, edges_fit, path_weight, record_fits, record_count, list_fits, walk}
use Rattle.diagram.proofs.Laws.Edges.{record_passes}
use Rattle.diagram.proofs.Laws.Fits.{fits_by_records}
use Rattle.diagram.proofs.Laws.Lists.{list_before_x}
use Rattle.diagram.proofs.Laws.NodeRanges.{passing_least, passing_greatest, true_range_passes, fitting_small}
use Rattle.diagram.proofs.Laws.Numbering.{written_count}
use Rattle.diagram.proofs.Laws.Walks.{records_pass}

-- ---- lists that pass

module _ (n : ℕ) (list : List ℤ) (fits : list_fits n list ≡ true) (k : ℕ) (one : 1 ≤ k) (most : k ≤ record_count list) where
  pub least_of_record : LeastOver (Domain n) (path_weight list n k) (least_at list k)
  least_of_record = passing_least n list k (record_passes n list fits k one most)

  pub greatest_of_record : GreatestOver (Domain n) (path_weight list n k) (greatest_at list k)
  greatest_of_record = passing_greatest n list k (record_passes n list fits k one most)

-- So it is in what Build writes.
module _ (n : ℕ) (table : List ℤ) (admitted : Accepted n table) (k : ℕ) (one : 1 ≤ k) (most : k ≤ length (records n table)) where
  in_list : k ≤ record_count (written n table)
  in_list = let c = written_count n table in omega arith

  pub build_least : LeastOver (Domain n) (node_function n table k) (least_at (written n table) k)
  build_least = least_of_record n (written n table) (records_pass n table admitted) k one in_list

  pub build_greatest : GreatestOver (Domain n) (node_function n table k) (greatest_at (written n table) k)
  build_greatest = greatest_of_record n (written n table) (records_pass n table admitted) k one in_list

-- ---- an untrue number

module _ (n : ℕ) (start : ℤ) (list : List ℤ) (variables : Variables n) (value : TableValue start) (k : ℕ) (one : 1 ≤ k) (most : k ≤ record_count list) where
  -- A list with a record that does not fit is refused.
  unfit_refused : ¬ (record_fits n list k ≡ true) → (x : ℕ) → walk n start list x ≡ refused 6
  unfit_refused unfit x =
      yes_or_no (list_fits n list)
      (λ e. absurd (unfit (record_passes n list e k one most)))
      (λ e. list_before_x n start list variables value e x)

  pub untrue_least_refused : ¬ LeastOver (Domain n) (path_weight list n k) (least_at list k) → (x : ℕ) → walk n start list x ≡ refused 6
  untrue_least_refused untrue = unfit_refused (λ fits. untrue (passing_least n list k fits))

  pub untrue_greatest_refused : ¬ GreatestOver (Domain n) (path_weight list n k) (greatest_at list k) → (x : ℕ) → walk n start list x ≡ refused 6
  untrue_greatest_refused untrue = unfit_refused (λ fits. untrue (passing_greatest n list k fits))

-- ---- true numbers

module _ (n : ℕ) (list : List ℤ) (edges : (k : ℕ) → 1 ≤ k → k ≤ record_count list → edges_fit n list k ≡ true) where
  pub true_numbers_pass : length list % record_size ≡ 0 → length list ≤ node_room n
      → ((k : ℕ) → 1 ≤ k → k ≤ record_count list → LeastOver (Domain n) (path_weight list n k) (least_at list k) × GreatestOver (Domain n) (path_weight list n k) (greatest_at list k))
      → list_fits n list ≡ true
  true_numbers_pass whole room true_numbers =
      fits_by_records n list whole room (λ k one l. let t = true_numbers k one l in true_range_passes n list k (edges k one l) t.0 t.1)

  -- What is least or greatest is a value, and so fits 32 bits.
  module _ (v : n ≤ 12) (k : ℕ) (l : k ≤ record_count list) (z : ℤ) where
    pub true_least_fits : LeastOver (Domain n) (path_weight list n k) z → Signed32 z
    true_least_fits r = rw r.met.1.1 (fitting_small n list edges v k l r.met.0)

    pub true_greatest_fits : GreatestOver (Domain n) (path_weight list n k) z → Signed32 z
    true_greatest_fits r = rw r.met.1.1 (fitting_small n list edges v k l r.met.0)
