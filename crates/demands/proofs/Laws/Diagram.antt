-- Build and Walk go by the paper's checks.
use Rattle.std.specs.Prelude.{ℕ, ◌-◌, ◌*◌, ◌/◌, ◌%◌, ◌^◌, ◌≡◌, ◌↔◌, true, ◌&&◌, ◌||◌, List, ◌++◌, length, drop, ℤ, pos, neg_ℤ, nat_abs, leb, ltb, eqb}
use Rattle.std.proofs.Common.{◌∙◌, ap}
use Rattle.std.specs.Int.Signed.{lt_z}
use Rattle.numbers.specs.Answers.{Answer, accepted}
use Rattle.numbers.specs.Extremes.{least_of, greatest_of}
use Rattle.numbers.specs.Lists.{every, numbers_from}
use Rattle.numbers.specs.Ranges.{is_variables, is_value, is_weight, within, eq_z}
use Rattle.diagram.specs.Accepted.{written, Accepted}
use Rattle.diagram.specs.Records.{record_size, records}
use Rattle.diagram.specs.Build.{of_table, node_room, build, build_answer, build_buffer, summary_of}
use Rattle.diagram.proofs.Theorems.{build_answers, build_leaves}
use Rattle.diagram.proofs.Laws.Builds.{summary_length}
use Rattle.diagram.proofs.Laws.NodeRanges.{least_test, greatest_test}
use Rattle.diagram.specs.Walk.{variable_at, low_at, high_at, weight_at, least_at, greatest_at, child_fits, edges_fit, node_values, range_fits, record_fits, record_count, list_fits, of_list, walk, walk_value}
use Rattle.demands.specs.Checks.{Check, AllHold, Decided}
use Rattle.demands.specs.Admitted.{table_checks, build_checks, ListedChild, ListedRecord, RecordList, walk_checks}
use Rattle.demands.proofs.Laws.Checks.{decided_accepted, decided_unless, decided_map, answers_value, unless_only, accepted_only}
use Rattle.numbers.proofs.Laws.Tests.{le_test, lt_test, eq_test, less_test, same_test, and_test, or_test, between_test, variables_test, value_test, every_test, every_from_one}

-- The checks on a table, and what follows them.
pub decided_table : {A : Type 0} (n : ℕ) (table : List ℤ) {rest : Answer A} {checks : List Check} → Decided rest checks → Decided (of_table n table rest) (table_checks n table ++ checks)
unfolding of_table table_checks
decided_table n table d =
    decided_unless (is_variables n) (variables_test n)
    (decided_unless (eqb (length table) (2 ^ n)) (eq_test (length table) (2 ^ n))
    (decided_unless (every is_value table) (every_test is_value table (pos 0) value_test)
    d))

-- What passes them is an accepted table.
pub accepted_table : (n : ℕ) (table : List ℤ) → AllHold (table_checks n table) ↔ Accepted n table
unfolding table_checks AllHold
accepted_table n table = (
  (λ h. record { variables = (variables_test n).1 h.0; size = h.1.0; values = (every_test is_value table (pos 0) value_test).1 h.1.1.0 }),
  (λ a. ((variables_test n).0 a.variables, (a.size, ((every_test is_value table (pos 0) value_test).0 a.values, tt)))),
)

-- Build: the table, then the room for the records.
pub decided_build : (n : ℕ) (table : List ℤ) (room : ℕ) → Decided (build_answer n table room) (build_checks n table room)
unfolding build_answer build build_checks node_room record_size
decided_build n table room =
    decided_map (λ rs. summary_of n table) (build n table room)
    (decided_table n table (decided_unless (leb (6 * (2 ^ n - 1)) room) (le_test (6 * (2 ^ n - 1)) room) (decided_accepted (records n table))))

-- ---- a record list

-- A child.
child_test : (list : List ℤ) (k : ℕ) (child : ℤ) → (child_fits list k child ≡ true) ↔ ListedChild list k child
unfolding child_fits
child_test list k child =
    let range = within (pos 0) (pos (k - 1)) child in
    let is_zero = eq_z child (pos 0) in
    let below = lt_z (variable_at list (nat_abs child)) (variable_at list k) in
    let i = and_test range (is_zero || below) (between_test (pos 0) (pos (k - 1)) child) (or_test is_zero below (same_test child (pos 0)) (less_test (variable_at list (nat_abs child)) (variable_at list k))) in (
      (λ h. let r = i.0 h in record { earlier = r.0; lower = r.1 }),
      (λ r. i.1 (r.earlier, r.lower)),
    )

-- A record.
record_test : (n : ℕ) (list : List ℤ) (k : ℕ) → (record_fits n list k ≡ true) ↔ ListedRecord n list k
unfolding record_fits edges_fit range_fits is_weight
record_test n list k =
    let variable = within (pos 0) (pos (n - 1)) (variable_at list k) in
    let low = child_fits list k (low_at list k) in
    let high = child_fits list k (high_at list k) in
    let weight = is_weight (weight_at list k) in
    let least = eq_z (least_at list k) (least_of (node_values n list k)) in
    let greatest = eq_z (greatest_at list k) (greatest_of (node_values n list k)) in
    let i =
    and_test (variable && low && high && weight) (least && greatest)
    (and_test (variable && low && high) weight
    (and_test (variable && low) high
    (and_test variable low (between_test (pos 0) (pos (n - 1)) (variable_at list k)) (child_test list k (low_at list k)))
    (child_test list k (high_at list k)))
    (between_test (neg_ℤ (pos 16777215)) (pos 16777215) (weight_at list k)))
    (and_test least greatest (least_test n list k) (greatest_test n list k))
    in (
      (λ h. let r = i.0 h in record { variable = r.0.0.0.0; low = r.0.0.0.1; high = r.0.0.1; weight = r.0.1; least = r.1.0; greatest = r.1.1 }),
      (λ r. i.1 ((((r.variable, r.low), r.high), r.weight), (r.least, r.greatest))),
    )

-- All of the list.
pub list_test : (n : ℕ) (list : List ℤ) → (list_fits n list ≡ true) ↔ RecordList n list
unfolding list_fits node_room record_size record_count
list_test n list =
    let whole = eqb (length list % 6) 0 in
    let most = leb (length list) (6 * (2 ^ n - 1)) in
    let each = every (record_fits n list) (numbers_from 1 (length list / 6)) in
    let i =
    and_test (whole && most) each
    (and_test whole most (eq_test (length list % 6) 0) (le_test (length list) (6 * (2 ^ n - 1))))
    (every_from_one (record_fits n list) (length list / 6) (record_test n list))
    in (
      (λ h. let r = i.0 h in record { whole = r.0.0; most = r.0.1; records = r.1 }),
      (λ r. i.1 ((r.whole, r.most), r.records)),
    )

-- Walk: n, the offset, the list, X.
pub decided_walk : (n : ℕ) (offset : ℤ) (list : List ℤ) (x : ℕ) → Decided (walk n offset list x) (walk_checks n offset list x)
unfolding walk of_list walk_checks
decided_walk n offset list x =
    decided_unless (is_variables n) (variables_test n)
    (decided_unless (is_value offset) (value_test offset)
    (decided_unless (list_fits n list) (list_test n list)
    (decided_unless (ltb x (2 ^ n)) (lt_test x (2 ^ n))
    (decided_accepted (walk_value n offset list x)))))

-- ---- what is answered

-- Build: node count and offset.
pub build_value : (n : ℕ) (table : List ℤ) (room : ℕ) → AllHold (build_checks n table room) → build_answer n table room ≡ accepted (summary_of n table)
build_value n table room = answers_value (decided_build n table room) (summary_of n table) (build_answers n table room)

-- The records stand in front, and nothing behind them is changed.
pub build_buffer_lem : (n : ℕ) (table buffer : List ℤ) → AllHold (build_checks n table (length buffer)) → build_buffer n table buffer ≡ written n table ++ drop (length (written n table)) buffer
build_buffer_lem n table buffer h =
    let e = build_value n table (length buffer) h in
    build_leaves n table buffer (summary_of n table) e
    ∙ ap (λ count. written n table ++ drop count buffer) (summary_length n table buffer (summary_of n table) e)

-- Walk: the value on the path.
pub walk_value_lem : (n : ℕ) (offset : ℤ) (list : List ℤ) (x : ℕ) → AllHold (walk_checks n offset list x) → walk n offset list x ≡ accepted (walk_value n offset list x)
unfolding walk of_list
walk_value_lem n offset list x =
    answers_value (decided_walk n offset list x) (walk_value n offset list x)
    (unless_only (is_variables n) 1 (unless_only (is_value offset) 5 (unless_only (list_fits n list) 6 (unless_only (ltb x (2 ^ n)) 7 (accepted_only (walk_value n offset list x))))))
