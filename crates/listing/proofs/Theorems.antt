-- What the listing program writes, for every input: which line each refusal prints and when, the table's text
-- otherwise, numbers that are read back, and an input's bytes beyond the longest admitted one.
use Rattle.std.specs.Prelude.{ℕ, ◌+◌, ◌*◌, ◌^◌, ◌≤◌, ◌<◌, ◌↔◌, ◌≡◌, true, false, length, get_or, take, ℤ, pos}
use Rattle.std.proofs.Common.{List, [], ◌∷◌}
use mathlib.Core.List.{flat_map}
use Rattle.numbers.specs.Answers.{refused}
use Rattle.numbers.specs.Conditions.{Limit, TableValue, Signed32}
use Rattle.operands.specs.Bytes.{signed_bytes}
use Rattle.cascade.specs.Groupings.{BestGrouping, fits, is_grouping}
use Rattle.lines.specs.Reading.{read_lines}
use Rattle.listing.specs.Listing.{is_listed, table_of, listed, table_text, listing}
use Rattle.listing.specs.Lines.{table_lines}
use Rattle.listing.proofs.Laws.Apart.{text_apart}
use Rattle.listing.proofs.Laws.Inputs.{input_back}
use Rattle.listing.proofs.Laws.Lengths.{listing_length_lem}
use Rattle.listing.proofs.Laws.Listed as listed_inputs
use Rattle.listing.proofs.Laws.Printed as proved

-- The numbers of variables that are listed: 1 to 11.
pub variables_listed : (n : ℕ) → ((1 ≤ n) × (n ≤ 11)) ↔ (is_listed n ≡ true)
variables_listed = listed_inputs.variables_listed

-- ---- which line is printed

-- The bytes of the line `refused` with a number of one digit.
abbrev refused_by : ℕ → List ℕ
refused_by number = 114 ∷ 101 ∷ 102 ∷ 117 ∷ 115 ∷ 101 ∷ 100 ∷ 32 ∷ (48 + number) ∷ 10 ∷ []

module _ (input : List ℕ) where
  -- n, A and the values, as the input gives them.
  abbrev n : ℕ
  n = get_or input 0 0

  abbrev limit : ℕ
  limit = get_or input 1 0

  abbrev values : List ℤ
  values = table_of input

  -- Under two bytes.
  pub under_two_bytes : length input < 2 → listing input ≡ refused_by 2
  under_two_bytes = proved.under_two_bytes input

  -- n outside 1..11.
  pub variables_outside : 2 ≤ length input → ¬ ((1 ≤ n) × (n ≤ 11)) → listing input ≡ refused_by 1
  variables_outside = proved.variables_outside input

  module _ (inside : (1 ≤ n) × (n ≤ 11)) where
    -- A wrong byte count.
    pub byte_count_wrong : 2 ≤ length input → ¬ (length input ≡ 2 + 4 * 2 ^ n) → listing input ≡ refused_by 2
    byte_count_wrong = proved.byte_count_wrong input inside

    module _ (count : length input ≡ 2 + 4 * 2 ^ n) where
      -- A value out of range.
      pub value_outside : (j : ℕ) → j < length values → ¬ TableValue (get_or values j (pos 0))
          → listing input ≡ refused_by 3
      value_outside = proved.value_outside input inside count

      module _ (ranged : (j : ℕ) → j < length values → TableValue (get_or values j (pos 0))) where
        -- A outside 1..12.
        pub limit_outside : ¬ Limit limit → listing input ≡ refused_by 8
        limit_outside = proved.limit_outside input inside count ranged

        module _ (limited : Limit limit) where
          -- No grouping within A.
          pub no_grouping : ((sizes : List ℕ) → is_grouping n sizes ≡ true → fits n values limit sizes ≡ false)
              → listing input ≡ refused_by 9
          no_grouping = proved.no_grouping input inside count ranged limited

          -- Else the text of the table and of its best grouping.
          pub best_listed : (best : List ℕ) → BestGrouping n values limit best → listing input ≡ table_text n values best
          best_listed = proved.best_listed input inside count ranged limited

-- ---- the text taken apart

-- The lines of a table's text, with their fields, give n, offset, variable, low, high and weight of each record, the
-- node count, the cells and the total back.
pub text_read_back : (n : ℕ) (table : List ℤ) (sizes : List ℕ)
    → read_lines (table_text n table sizes) ≡ table_lines n table sizes
text_read_back = text_apart

-- ---- the input of a table

-- n, A, then the values, 4 bytes each: the table is read back.
pub input_read_back : (n limit : ℕ) (table : List ℤ) → ((j : ℕ) → j < length table → Signed32 (get_or table j (pos 0)))
    → table_of (n ∷ limit ∷ flat_map signed_bytes table) ≡ table
input_read_back = input_back

-- ---- lengths

-- Every text has at most 113,248 bytes.
pub text_fits : (input : List ℕ) → length (listing input) ≤ 113248
text_fits = listing_length_lem

-- The image always has room: 10 never occurs.
pub never_ten : (input : List ℕ) → ¬ (listed input ≡ refused 10)
never_ten = listed_inputs.never_ten

-- Bytes beyond one more than those of the longest admitted input do not matter.
pub bytes_beyond : (input : List ℕ) → listing (take (3 + 4 * 2 ^ 11) input) ≡ listing input
bytes_beyond = listed_inputs.bytes_beyond
