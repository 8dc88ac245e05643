-- The report: which calls it answers and what turns the others away, what its figures are, and how wide its sum is.
use Rattle.std.specs.Prelude.{ℕ, suc, ◌+◌, ◌-◌, ◌^◌, ◌≤◌, ◌<◌, ◌≡◌, ◌↔◌, true, false, List, get_or, take, drop, ℤ, pos, ◌+ℤ◌}
use Rattle.numbers.specs.Answers.{accepted, refused}
use Rattle.numbers.specs.Conditions.{Variables, TableValue, Part, LeastOver, GreatestOver}
use Rattle.numbers.specs.Lists.{exact_sum}
use Rattle.numbers.specs.Widths.{holds}
use Rattle.diagram.specs.Accepted.{Accepted, written}
use Rattle.diagram.specs.Records.{offset}
use Rattle.diagram.specs.Walk.{list_fits, walk_value, walk}
use Rattle.report.specs.Report.{values_from, Figures, figures_of, report}
use Rattle.report.proofs.Laws.Answers as proved
use Rattle.report.proofs.Laws.Reports.{sum_one, sum_more}

module _ (n : ℕ) (start : ℤ) (list : List ℤ) (a b : ℕ) where
  -- ---- which calls are answered

  -- Exactly those that pass Walk's checks but that of X, with a not above b and b in the domain.
  pub report_accepts : (Variables n × TableValue start × (list_fits n list ≡ true) × (a ≤ b) × (b < 2 ^ n))
      ↔ ((f : Figures) × (report n start list a b ≡ accepted f))
  report_accepts = proved.report_accepts n start list a b

  -- 1, 5 and 6 are given as by Walk, each before those that follow, and before 15.
  pub one_before_all : ¬ Variables n → report n start list a b ≡ refused 1
  one_before_all = proved.one_before_all n start list a b

  pub five_before_six : Variables n → ¬ TableValue start → report n start list a b ≡ refused 5
  five_before_six = proved.five_before_six n start list a b

  pub six_before_fifteen : Variables n → TableValue start → list_fits n list ≡ false
      → report n start list a b ≡ refused 6
  six_before_fifteen = proved.six_before_fifteen n start list a b

  module _ (variables : Variables n) (value : TableValue start) (fits : list_fits n list ≡ true) where
    -- 15: a above b.
    pub turned_refused : b < a → report n start list a b ≡ refused 15
    turned_refused = proved.turned_refused n start list a b variables value fits

    -- 15: b outside the domain.
    pub past_refused : 2 ^ n ≤ b → report n start list a b ≡ refused 15
    past_refused = proved.past_refused n start list a b variables value fits

  -- ---- what its figures are

  module _ (f : Figures) (e : report n start list a b ≡ accepted f) where
    -- Those of the list of values from a to b.
    pub figures_of_values : f ≡ figures_of (values_from n start list a b)
    figures_of_values = proved.figures_of_values n start list a b f e

    -- Its entries are what Walk answers at X from a to b, both included, and there are no others.
    pub values_are_walks : (x : ℕ) → a ≤ x → x ≤ b
        → walk n start list x ≡ accepted (get_or (values_from n start list a b) (x - a) (pos 0))
    values_are_walks = proved.values_are_walks n start list a b f e

    -- How many they are.
    pub counts_both_ends : f.count ≡ b - a + 1
    counts_both_ends = proved.counts_both_ends n start list a b f e

    -- Walk's value at each X from a to b, and over these X the least and the greatest of them.
    pub walked_there : (x : ℕ) → a ≤ x → x ≤ b → walk n start list x ≡ accepted (walk_value n start list x)
    walked_there = proved.walked_there n start list a b f e

    pub least_of_walks : LeastOver (Part a b) (walk_value n start list) f.least
    least_of_walks = proved.least_of_walks n start list a b f e

    pub greatest_of_walks : GreatestOver (Part a b) (walk_value n start list) f.greatest
    greatest_of_walks = proved.greatest_of_walks n start list a b f e

    -- ---- how wide its sum is

    -- 41 bits in two's complement hold every sum, so 64 do.
    pub sum_in_41_bits : holds 41 f.sum ≡ true
    sum_in_41_bits = proved.sum_in_41_bits n start list a b f e

-- ---- its sum, X by X

module _ (n : ℕ) (start : ℤ) (list : List ℤ) (a : ℕ) where
  -- The sum of the values from a to b.
  abbrev sum_to : ℕ → ℤ
  sum_to b = exact_sum (values_from n start list a b)

  -- The sum over one X is its value.
  pub sum_of_one : sum_to a ≡ walk_value n start list a
  sum_of_one = sum_one n start list a

  -- With one X more, its value is added.
  pub sum_of_one_more : (b : ℕ) → a ≤ b → sum_to (b + 1) ≡ sum_to b +ℤ walk_value n start list (b + 1)
  sum_of_one_more = sum_more n start list a

-- ---- the records of a table

-- On what Build writes for a table, with its offset, the report gives the figures of the table's values from a to b.
pub report_on_table : (n : ℕ) (table : List ℤ) → Accepted n table → (a b : ℕ) → a ≤ b → b < 2 ^ n
    → report n (offset table) (written n table) a b ≡ accepted (figures_of (take (suc b - a) (drop a table)))
report_on_table = proved.report_on_table
