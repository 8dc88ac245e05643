-- The report goes by its checks, and its figures are those of Walk's values.
use Prim.Native.Nat.{ℕ, suc, ◌+◌, ◌-◌, ◌/◌, ◌^◌, ◌≤◌, ◌<◌}
use Rattle.std.specs.Prelude.{◌≡◌, refl, ◌↔◌, true, ℤ, pos, leb, ltb, length, get_or}
use Rattle.std.proofs.Common.{◌∙◌, inl, inr}
use Rattle.std.proofs.Math.Path.{ap}
use mathlib.Core.List.{List, [], ◌∷◌, map, flat_map}
use native.Mathlib.Omega.{arith}
use Rattle.numbers.specs.Answers.{accepted, refused}
use Rattle.numbers.specs.Conditions.{Variables, TableValue, Domain, Part, LeastOver, GreatestOver}
use Rattle.numbers.specs.Lists.{numbers_from, exact_sum}
use Rattle.numbers.specs.Ranges.{is_variables, is_value}
use Rattle.numbers.proofs.Laws.Tests.{le_test, lt_test, and_test, variables_test, value_test}
use Rattle.diagram.specs.Walk.{least_at, greatest_at, path_weight, list_fits, of_list, walk, walk_value}
use Rattle.lines.specs.Text.{ascii, decimal_digits, decimal, fields, line}
use Rattle.listing.specs.Listing.{listing}
use Rattle.listing.proofs.Theorems as listings
use Rattle.report.specs.Report.{values_from, Figures, figures_of, is_part, report}
use Rattle.report.proofs.Theorems as reports
use Rattle.demands.specs.Checks.{AllHold, FirstFails, Decided}
use Rattle.demands.specs.Admitted.{RecordList, walk_checks}
use Rattle.demands.specs.Requested.{report_checks, FiguresOver}
use Rattle.demands.proofs.Laws.Checks.{decided_accepted, decided_unless}
use Rattle.demands.proofs.Laws.Diagram.{list_test, decided_walk, walk_value_lem}

module _ (n : ℕ) (offset : ℤ) (list : List ℤ) (a b : ℕ) where
  part_test : (is_part n a b ≡ true) ↔ ((a ≤ b) × (b < 2 ^ n))
  unfolding is_part
  part_test = and_test (leb a b) (ltb b (2 ^ n)) (le_test a b) (lt_test b (2 ^ n))

  pub decided_report : Decided (report n offset list a b) (report_checks n offset list a b)
  unfolding report of_list report_checks
  decided_report =
      decided_unless (is_variables n) (variables_test n)
      (decided_unless (is_value offset) (value_test offset)
      (decided_unless (list_fits n list) (list_test n list)
      (decided_unless (is_part n a b) part_test
      (decided_accepted (figures_of (values_from n offset list a b))))))

  -- The figures of an accepted call.
  figures_over : (f : Figures) → report n offset list a b ≡ accepted f → a ≤ b → FiguresOver n offset list a b f
  unfolding figures_of values_from
  figures_over f e h = record {
    counted = reports.counts_both_ends n offset list a b f e;
    least = reports.least_of_walks n offset list a b f e;
    greatest = reports.greatest_of_walks n offset list a b f e;
    summed =
        ap (λ g. g.sum) (reports.figures_of_values n offset list a b f e)
        ∙ ap (λ count. exact_sum (map (walk_value n offset list) (numbers_from a count))) (let many : suc b - a ≡ b - a + 1 = omega arith in many);
  }

  module _ (all : AllHold (report_checks n offset list a b)) where
    pub report_figures : (f : Figures) × ((report n offset list a b ≡ accepted f) × FiguresOver n offset list a b f)
    unfolding report_checks AllHold
    report_figures = let s = decided_report.accepts.0 all in (s.0, (s.1, figures_over s.0 s.1 all.1.1.1.0.0))

    -- Walk answers at each of these X.
    pub walks_there : (x : ℕ) → Part a b x → walk n offset list x ≡ accepted (walk_value n offset list x)
    unfolding report_checks walk_checks AllHold
    walks_there x p = let inside = all.1.1.1.0.1 in walk_value_lem n offset list x (all.0, (all.1.0, (all.1.1.0, ((let q = p.1 in omega arith), tt))))

-- A list that is no record list is refused with 6, by Walk at every X and by the report over every part.
pub no_record_list : (n : ℕ) (offset : ℤ) (list : List ℤ) → Variables n → TableValue offset → ¬ RecordList n list
    → ((x : ℕ) → walk n offset list x ≡ refused 6) × ((a b : ℕ) → report n offset list a b ≡ refused 6)
unfolding FirstFails walk_checks report_checks
no_record_list n offset list v t fails = (
  (λ x. ((decided_walk n offset list x).refuses 6).0 (inr (v, inr (t, inl (fails, refl))))),
  (λ a b. ((decided_report n offset list a b).refuses 6).0 (inr (v, inr (t, inl (fails, refl))))),
)

-- A list with an untrue number in some record is none.
pub least_untrue : (n : ℕ) (list : List ℤ) (k : ℕ) → 1 ≤ k → k ≤ length list / 6 → ¬ LeastOver (Domain n) (path_weight list n k) (least_at list k) → ¬ RecordList n list
least_untrue n list k one most untrue good = untrue (good.records k one most).least

pub greatest_untrue : (n : ℕ) (list : List ℤ) (k : ℕ) → 1 ≤ k → k ≤ length list / 6 → ¬ GreatestOver (Domain n) (path_weight list n k) (greatest_at list k) → ¬ RecordList n list
greatest_untrue n list k one most untrue good = untrue (good.records k one most).greatest

-- The line that an n outside 1..11 prints.
pub refused_by_1 : (input : List ℕ) → 2 ≤ length input → ¬ ((1 ≤ get_or input 0 0) × (get_or input 0 0 ≤ 11)) → listing input ≡ line "refused" (pos 1 ∷ [])
unfolding line ascii fields decimal decimal_digits flat_map
refused_by_1 input long outside = listings.variables_outside input long outside
