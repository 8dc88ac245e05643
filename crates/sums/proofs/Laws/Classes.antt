-- The remainders' table: it is accepted, its blocks are told apart by remainders, and so its cuts have few classes and narrow cells fit.
use Rattle.std.specs.Prelude.{ℕ, ◌+◌, ◌-◌, ◌^◌, ◌≤◌, ◌<◌, ◌≡◌, ◌↔◌, true, List, map, length, get_or, take, drop, leb, ℤ, ◌+ℤ◌}
use Rattle.std.proofs.Common.{sym, ◌∙◌, arith, pow_pos, pow_mono}
use Rattle.std.proofs.Math.Path.{ap}
use Rattle.std.proofs.Math.ListN.{length-map}
use Rattle.std.proofs.Math.IntN.{pos}
use Rattle.numbers.specs.Lists.{every}
use Rattle.numbers.specs.Ranges.{is_value}
use Rattle.numbers.proofs.Laws.Bounds.{natural_value}
use Rattle.numbers.proofs.Laws.Lists.{every_from, get_d_map, map_same}
use Rattle.numbers.proofs.Laws.Runs.{all_met}
use Rattle.numbers.proofs.Laws.Tests.{le_test, and_test}
use Rattle.numbers.proofs.Laws.Widths.{rail_width_least}
use Rattle.blocks.specs.Blocks.{block}
use Rattle.blocks.specs.Classes.{class_count, class_of, rail_at}
use Rattle.blocks.proofs.Laws.Classes.{class_used}
use Rattle.cascade.specs.Groupings.{address_width}
use Rattle.reach.specs.Reach.{is_reached}
use Rattle.reach.proofs.Laws.Reached.{reached_narrow}
use Rattle.sums.specs.Sums.{sum_at, sum_table, remainder_by, remainder_table, is_remainder_bits, RemainderBits}
use Rattle.sums.proofs.Laws.Blocks.{block_of_remainders}
use Rattle.sums.proofs.Laws.Remainders.{remainder_below, remainder_of_sum}
use Rattle.sums.proofs.Laws.Split.{table_length, table_at}

pub bits_test : (q : ℕ) → (is_remainder_bits q ≡ true) ↔ RemainderBits q
unfolding is_remainder_bits
bits_test q = and_test (leb 1 q) (leb q 11) (le_test 1 q) (le_test q 11)

module _ (q : ℕ) (weights : List ℤ) where
  pub remainders_length : length (remainder_table q weights) ≡ 2 ^ length weights
  unfolding remainder_table
  remainders_length = length-map (sum_table weights) (λ z. pos (remainder_by (2 ^ q) z)) ∙ table_length weights

  pub remainders_at : (x : ℕ) → x < 2 ^ length weights → get_or (remainder_table q weights) x (pos 0) ≡ pos (remainder_by (2 ^ q) (sum_at weights x))
  unfolding remainder_table
  remainders_at x l =
      get_d_map (λ z. pos (remainder_by (2 ^ q) z)) (sum_table weights) x (pos 0) (pos 0) (rw table_length l)
      ∙ ap (λ z. pos (remainder_by (2 ^ q) z)) (table_at weights x l)

  -- Every remainder is a value.
  pub remainders_values : q ≤ 11 → every is_value (remainder_table q weights) ≡ true
  remainders_values most =
      every_from is_value (remainder_table q weights) (pos 0)
      (λ x l. ap is_value (remainders_at x (rw remainders_length at l)) ∙ small (remainder_by (2 ^ q) (sum_at weights x)) (remainder_below (2 ^ q) (pow_pos q) (sum_at weights x)))
    where
      small : (r : ℕ) → r < 2 ^ q → is_value (pos r) ≡ true
      small r l = natural_value r (let p = pow_mono {i = q} {j = 11} most in omega arith)

  module _ (h : ℕ) (cut : h ≤ length weights) where
    -- The values of a block whose number has sums of such a remainder.
    abbrev block_for : ℕ → List ℤ
    block_for r = map (λ v. pos (remainder_by (2 ^ q) (v +ℤ pos r))) (sum_table (take (length weights - h) weights))

    abbrev remainder_of : ℕ → ℕ
    remainder_of j = remainder_by (2 ^ q) (sum_at (drop (length weights - h) weights) j)

    block_by_remainder : (j : ℕ) → j < 2 ^ h → block (remainder_table q weights) (length weights - h) j ≡ block_for (remainder_of j)
    block_by_remainder j l =
        let i = length weights - h in
        let back : length weights - i ≡ h = omega arith in
        block_of_remainders weights i j (omega arith) (rw back l) q
        ∙ map_same (λ v. pos (remainder_by (2 ^ q) (v +ℤ sum_at (drop i weights) j))) (λ v. pos (remainder_by (2 ^ q) (v +ℤ pos (remainder_of j)))) (sum_table (take i weights))
        (λ v. ap pos (remainder_of_sum (2 ^ q) (pow_pos q) v (sum_at (drop i weights) j)))

    pub few_classes : class_count (length weights) (remainder_table q weights) h ≤ 2 ^ q
    few_classes =
        let n = length weights in
        let table = remainder_table q weights in
        all_met (2 ^ q) (class_count n table h) (λ r. class_of n table h (block_for r))
        (λ c l.
        let used = class_used n table h cut c l in (
          remainder_of used.0,
          (
            remainder_below (2 ^ q) (pow_pos q) (sum_at (drop (n - h) weights) used.0),
            ap (class_of n table h) (sym (block_by_remainder used.0 used.1.0)) ∙ used.1.1,
          ),
        ))

    narrow_rail : rail_at (length weights) (remainder_table q weights) h ≤ q
    unfolding rail_at
    narrow_rail = rail_width_least (class_count (length weights) (remainder_table q weights) h) q few_classes

  -- Cells of one variable each fit the limit q + 1, and every greater one.
  pub bottom_reached : (limit : ℕ) → q + 1 ≤ limit → is_reached (length weights) (remainder_table q weights) limit (length weights) ≡ true
  unfolding address_width
  bottom_reached limit enough =
      (reached_narrow (length weights) (remainder_table q weights) limit remainders_length (length weights) (omega arith)).1
      (λ c l. let r = narrow_rail c (omega arith) in omega arith)
