-- What is printed for an input: a refusal's line, or the text of the table and of its best grouping.
use Rattle.std.specs.Prelude.{ℕ, ◌+◌, ◌*◌, ◌^◌, ◌≤◌, ◌<◌, ◌≡◌, true, false, List, [], ◌∷◌, length, get_or, ℤ, pos}
use Rattle.std.proofs.Common.{◌∙◌, arith}
use Rattle.std.proofs.Math.Path.{ap}
use Rattle.std.proofs.Math.Logic.Iff
use Rattle.numbers.specs.Answers.{refused}
use Rattle.numbers.specs.Conditions.{Limit, TableValue}
use Rattle.numbers.specs.Lists.{every}
use Rattle.numbers.specs.Ranges.{is_limit, is_value}
use Rattle.numbers.proofs.Laws.Tests.{fails_test, limit_test, value_test, every_test}
use Rattle.cascade.specs.Groupings.{BestGrouping, chosen, fits, is_grouping}
use Rattle.cascade.proofs.Laws.Chosen.{chosen_refuses, best_chosen}
use Rattle.lines.specs.Text.{ascii, fields, line}
use Rattle.lines.proofs.Laws.Decimals.{decimal_small}
use Rattle.listing.specs.Listing.{is_listed, table_of, listed, table_text, answer_text, listing}
use Rattle.listing.proofs.Laws.Listed.{variables_listed, listed_under_two, listed_outside, listed_miscounted, listed_counted, listed_refused, refusal_listed}

-- The bytes of the line `refused` with a number of one digit.
abbrev refused_by : ℕ → List ℕ
refused_by number = 114 ∷ 101 ∷ 102 ∷ 117 ∷ 115 ∷ 101 ∷ 100 ∷ 32 ∷ (48 + number) ∷ 10 ∷ []

refusal_bytes : (number : ℕ) → number < 10 → line "refused" (pos number ∷ []) ≡ refused_by number
unfolding line ascii fields
refusal_bytes number small = rw (decimal_small number small)

module _ (input : List ℕ) where
  -- n, A and the values, as the input gives them.
  abbrev n : ℕ
  n = get_or input 0 0

  abbrev limit : ℕ
  limit = get_or input 1 0

  abbrev values : List ℤ
  values = table_of input

  -- Every refusal has one digit.
  printed : (number : ℕ) → listed input ≡ refused number → listing input ≡ refused_by number
  printed number e = refusal_listed input number e ∙ refusal_bytes number (let most = listed_refused input number e in omega arith)

  pub under_two_bytes : length input < 2 → listing input ≡ refused_by 2
  under_two_bytes short = printed 2 (listed_under_two input short)

  pub variables_outside : 2 ≤ length input → ¬ ((1 ≤ n) × (n ≤ 11)) → listing input ≡ refused_by 1
  variables_outside two outside = printed 1 (listed_outside input two ((fails_test (is_listed n) (Iff.symm (variables_listed n))).1 outside))

  module _ (inside : (1 ≤ n) × (n ≤ 11)) where
    pub byte_count_wrong : 2 ≤ length input → ¬ (length input ≡ 2 + 4 * 2 ^ n) → listing input ≡ refused_by 2
    byte_count_wrong two other = printed 2 (listed_miscounted input two ((variables_listed n).0 inside) other)

    module _ (count : length input ≡ 2 + 4 * 2 ^ n) where
      pub value_outside : (j : ℕ) → j < length values → ¬ TableValue (get_or values j (pos 0)) → listing input ≡ refused_by 3
      value_outside j l outside =
          printed 3
          (listed_counted input ((variables_listed n).0 inside) count
          ∙ rw ((fails_test (every is_value values) (every_test is_value values (pos 0) value_test)).1 (λ ranged. outside (ranged j l))))

      module _ (ranged : (j : ℕ) → j < length values → TableValue (get_or values j (pos 0))) where
        all_ranged : every is_value values ≡ true
        all_ranged = (every_test is_value values (pos 0) value_test).1 ranged

        pub limit_outside : ¬ Limit limit → listing input ≡ refused_by 8
        limit_outside outside =
            printed 8 (listed_counted input ((variables_listed n).0 inside) count ∙ rw (all_ranged, (fails_test (is_limit limit) (limit_test limit)).1 outside))

        module _ (limited : Limit limit) where
          -- What is listed is chosen.
          chosen_listed : listed input ≡ chosen n values limit
          chosen_listed = listed_counted input ((variables_listed n).0 inside) count ∙ rw (all_ranged, (limit_test limit).1 limited)

          pub no_grouping : ((sizes : List ℕ) → is_grouping n sizes ≡ true → fits n values limit sizes ≡ false) → listing input ≡ refused_by 9
          no_grouping none = printed 9 (chosen_listed ∙ (chosen_refuses n values limit).1 none)

          pub best_listed : (best : List ℕ) → BestGrouping n values limit best → listing input ≡ table_text n values best
          unfolding listing answer_text
          best_listed best b = ap (answer_text n values) (chosen_listed ∙ best_chosen n values limit best b)
