-- The report's answer: its refusals in their order, and its figures.
use Rattle.std.proofs.Common.{ℕ, suc, ◌+◌, ◌-◌, ◌^◌, ◌≤◌, ◌<◌, arith}
use Rattle.std.specs.Prelude.{◌≡◌, ◌↔◌, true, false, List, get_or, take, drop, leb, ltb, ℤ, pos}
use Rattle.std.proofs.Common.{sym, ◌∙◌}
use Rattle.std.proofs.Math.Path.{ap}
use Rattle.std.proofs.Math.Bool.{and-false}
use Rattle.std.specs.Int.Signed.{mag}
use borrow.Author.Tests.{leb-true, ltb-true, le-leb, lt-ltb, lt-leb, le-ltb}
use Rattle.numbers.specs.Answers.{accepted, refused, unless}
use Rattle.numbers.specs.Conditions.{Variables, TableValue, Part, LeastOver, GreatestOver}
use Rattle.numbers.specs.Ranges.{is_variables, is_value}
use Rattle.numbers.specs.Widths.{holds}
use Rattle.numbers.proofs.Laws.Answers.{unless_accepted}
use Rattle.numbers.proofs.Laws.Bools.{both, and_both}
use Rattle.numbers.proofs.Laws.Extremal.{leasts, greatests, first_is_least, first_is_greatest}
use Rattle.numbers.proofs.Laws.Tests.{fails_test, variables_test, value_test}
use Rattle.numbers.proofs.Laws.Widths.{holds_suc}
use Rattle.diagram.specs.Accepted.{Accepted, written}
use Rattle.diagram.specs.Records.{offset as table_offset}
use Rattle.diagram.specs.Walk.{list_fits, of_list, walk_value, walk}
use Rattle.diagram.specs.Inner.Edges.{Passing}
use Rattle.diagram.proofs.Laws.Lists.{list_passes, walk_inside}
use Rattle.diagram.proofs.Laws.Walks.{written_passing}
use Rattle.report.specs.Report.{values_from, Figures, figures_of, is_part, report}
use Rattle.report.proofs.Laws.Reports.{values_count, values_at_lem, values_first, part_sum_small, values_of_table}

-- ---- a part of the domain

pub part_inside : (n a b : ℕ) → a ≤ b → b < 2 ^ n → is_part n a b ≡ true
unfolding is_part
part_inside n a b h k = and_both (leb a b) (ltb b (2 ^ n)) (le-leb a b h) (lt-ltb b (2 ^ n) k)

pub part_order : (n a b : ℕ) → is_part n a b ≡ true → (a ≤ b) × (b < 2 ^ n)
unfolding is_part
part_order n a b e = let p = both (leb a b) (ltb b (2 ^ n)) e in (leb-true a b p.0, ltb-true b (2 ^ n) p.1)

pub part_turned : (n a b : ℕ) → b < a → is_part n a b ≡ false
unfolding is_part
part_turned n a b h = rw (lt-leb a b h)

pub part_left : (n a b : ℕ) → a ≤ b → is_part n a b ≡ ltb b (2 ^ n)
unfolding is_part
part_left n a b h = rw (le-leb a b h)

pub part_past : (n a b : ℕ) → 2 ^ n ≤ b → is_part n a b ≡ false
unfolding is_part
part_past n a b h = rw (le-ltb b (2 ^ n) h) (and-false (leb a b))

-- ---- the answer

module _ (n : ℕ) (offset : ℤ) (list : List ℤ) (a b : ℕ) where
  -- Walk's own refusals.
  pub one_before_all : ¬ Variables n → report n offset list a b ≡ refused 1
  unfolding report of_list
  one_before_all outside = rw ((fails_test (is_variables n) (variables_test n)).1 outside)

  pub five_before_six : Variables n → ¬ TableValue offset → report n offset list a b ≡ refused 5
  unfolding report of_list
  five_before_six inside outside = rw ((variables_test n).1 inside, (fails_test (is_value offset) (value_test offset)).1 outside)

  pub six_before_fifteen : Variables n → TableValue offset → list_fits n list ≡ false → report n offset list a b ≡ refused 6
  unfolding report of_list
  six_before_fifteen inside ranged unfit = rw ((variables_test n).1 inside, (value_test offset).1 ranged, unfit)

  -- What follows them.
  pub report_outside : Passing n offset list → is_part n a b ≡ false → report n offset list a b ≡ refused 15
  unfolding report
  report_outside p e = list_passes n offset list _ p ∙ ap (λ t. unless t 15 (accepted (figures_of (values_from n offset list a b)))) e

  pub report_inside : Passing n offset list → is_part n a b ≡ true → report n offset list a b ≡ accepted (figures_of (values_from n offset list a b))
  unfolding report
  report_inside p e = list_passes n offset list _ p ∙ ap (λ t. unless t 15 (accepted (figures_of (values_from n offset list a b)))) e

  module _ (inside : Variables n) (ranged : TableValue offset) (fits : list_fits n list ≡ true) where
    passing : Passing n offset list
    passing = record { variables = (variables_test n).1 inside; start = (value_test offset).1 ranged; records = fits }

    pub turned_refused : b < a → report n offset list a b ≡ refused 15
    turned_refused h = report_outside passing (part_turned n a b h)

    pub past_refused : 2 ^ n ≤ b → report n offset list a b ≡ refused 15
    past_refused h = report_outside passing (part_past n a b h)

    part_answered : a ≤ b → b < 2 ^ n → report n offset list a b ≡ accepted (figures_of (values_from n offset list a b))
    part_answered h k = report_inside passing (part_inside n a b h k)

  -- What an answer shows.
  module _ (f : Figures) (e : report n offset list a b ≡ accepted f) where
    shown : Passing n offset list × (is_part n a b ≡ true) × (accepted (figures_of (values_from n offset list a b)) ≡ accepted f)
    unfolding report of_list
    shown =
        let one = unless_accepted (is_variables n) 1 _ f e in
        let two = unless_accepted (is_value offset) 5 _ f one.1 in
        let three = unless_accepted (list_fits n list) 6 _ f two.1 in
        let four = unless_accepted (is_part n a b) 15 _ f three.1 in
        (record { variables = one.0; start = two.0; records = three.0 }, four.0, four.1)

    answer_passing : Passing n offset list
    answer_passing = shown.0

    answer_part : (a ≤ b) × (b < 2 ^ n)
    answer_part = part_order n a b shown.1

    pub figures_of_values : f ≡ figures_of (values_from n offset list a b)
    figures_of_values = let h = shown.2 in sym (let g : figures_of (values_from n offset list a b) ≡ f = cc in g)

    -- What Walk answers at X from a to b, and the entry there.
    pub walked_there : (x : ℕ) → a ≤ x → x ≤ b → walk n offset list x ≡ accepted (walk_value n offset list x)
    walked_there x h k = walk_inside n offset list x answer_passing (let p = answer_part.1 in omega arith)

    pub values_are_walks : (x : ℕ) → a ≤ x → x ≤ b → walk n offset list x ≡ accepted (get_or (values_from n offset list a b) (x - a) (pos 0))
    values_are_walks x h k =
        walked_there x h k
        ∙ ap accepted (sym (values_at_lem n offset list a b (x - a) (omega arith) ∙ ap (walk_value n offset list) (let p : a + (x - a) ≡ x = omega arith in p)))

    pub counts_both_ends : f.count ≡ b - a + 1
    unfolding figures_of
    counts_both_ends =
        ap (λ g. g.count) figures_of_values
        ∙ values_count n offset list a b
        ∙ (let o = answer_part.0 in let p : suc b - a ≡ b - a + 1 = omega arith in p)

    -- Its extremes.
    pub least_of_walks : LeastOver (Part a b) (walk_value n offset list) f.least
    unfolding figures_of
    least_of_walks =
        rw figures_of_values ((first_is_least (Part a b) (walk_value n offset list) _).0 (values_first n offset list a leasts b answer_part.0))

    pub greatest_of_walks : GreatestOver (Part a b) (walk_value n offset list) f.greatest
    unfolding figures_of
    greatest_of_walks =
        rw figures_of_values ((first_is_greatest (Part a b) (walk_value n offset list) _).0 (values_first n offset list a greatests b answer_part.0))

    -- Its sum lies between -2^40 and 2^40.
    pub sum_in_41_bits : holds 41 f.sum ≡ true
    unfolding figures_of
    sum_in_41_bits =
        holds_suc 40 f.sum
        ∙ lt-ltb (mag f.sum) (2 ^ 40) (rw figures_of_values (part_sum_small n offset list answer_passing a b answer_part.1))

  -- Which calls have one.
  pub report_accepts : (Variables n × TableValue offset × (list_fits n list ≡ true) × (a ≤ b) × (b < 2 ^ n)) ↔ ((f : Figures) × (report n offset list a b ≡ accepted f))
  report_accepts = (
    (λ p. (figures_of (values_from n offset list a b), part_answered p.0 p.1 p.2 p.3 p.4)),
    (λ f.
        let p = answer_passing f.0 f.1 in
        let q = answer_part f.0 f.1 in
        ((variables_test n).0 p.variables, (value_test offset).0 p.start, p.records, q.0, q.1)),
  )

-- ---- the records of a table

pub report_on_table : (n : ℕ) (table : List ℤ) → Accepted n table → (a b : ℕ) → a ≤ b → b < 2 ^ n → report n (table_offset table) (written n table) a b ≡ accepted (figures_of (take (suc b - a) (drop a table)))
report_on_table n table admitted a b h k =
    report_inside n (table_offset table) (written n table) a b (written_passing n table admitted) (part_inside n a b h k)
    ∙ ap (λ values. accepted (figures_of values)) (values_of_table n table admitted.size a b k)
