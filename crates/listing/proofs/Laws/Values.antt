-- Values read one after the other.
use Rattle.std.specs.Prelude.{ℕ, suc, ◌+◌, ◌-◌, ◌*◌, ◌/◌, ◌≤◌, ◌<◌, ◌≡◌, List, [], ◌∷◌, ◌++◌, map, length, set, ℤ}
use Rattle.std.proofs.Math.Path.{sym}
use Rattle.std.proofs.Common.{◌∙◌, ap, append-nil, zero-add, add-one, arith, drop_of_length-le}
use Rattle.std.proofs.lemmas.List.{length-map}
use Rattle.numbers.specs.Lists.{numbers_from, overwritten}
use Rattle.numbers.proofs.Laws.Lists.{length_range, range_suc, map_append}
use Rattle.numbers.proofs.Laws.Overwriting.{length_overwritten}
use Rattle.numbers.proofs.Laws.Rows.{overwritten_none, overwritten_front}
use Rattle.numbers.proofs.Laws.Written.{stored_behind}
use Rattle.operands.specs.Bytes.{signed_at}
use Rattle.listing.specs.Listing.{table_of}
use Rattle.listing.specs.Inner.Values.{values_of}

-- As many values as are asked for.
pub values_length : (input : List ℕ) (count : ℕ) → length (values_of input count) ≡ count
unfolding values_of
values_length input count = length-map (numbers_from 0 count) (λ j. signed_at input (2 + 4 * j)) ∙ length_range 0 count

-- One value more.
values_next : (input : List ℕ) (count : ℕ) → values_of input (suc count) ≡ values_of input count ++ signed_at input (2 + 4 * count) ∷ []
unfolding values_of
values_next input count = ap (map (λ j. signed_at input (2 + 4 * j))) (range_suc 0 count ∙ ap (λ k. numbers_from 0 count ++ k ∷ []) (zero-add count)) ∙ map_append (λ j. signed_at input (2 + 4 * j)) (numbers_from 0 count) (count ∷ [])

-- The table of an input with so many values.
pub values_table : (input : List ℕ) (count : ℕ) → length input ≡ 2 + 4 * count → values_of input count ≡ table_of input
unfolding values_of table_of
values_table input count e = ap (λ k. map (λ j. signed_at input (2 + 4 * j)) (numbers_from 0 k)) (let h : count ≡ (length input - 2) / 4 = omega arith in h)

-- The first so many values stand in a row's front.
pub record ValuesRead (input : List ℕ) (row : List ℤ) (count : ℕ) (row' : List ℤ) : Type 0 where
  pub inside : count ≤ length row
  pub read : row' ≡ overwritten row 0 (values_of input count)

module _ (input : List ℕ) (row : List ℤ) where
  pub no_values : ValuesRead input row 0 row
  unfolding values_of numbers_from
  no_values = record { inside = omega arith; read = sym (overwritten_none row 0) }

  module _ {count : ℕ} {row' : List ℤ} (v : ValuesRead input row count row') where
    pub values_kept : length row' ≡ length row
    values_kept = ap length v.read ∙ length_overwritten row 0 (values_of input count) (let l = values_length input count in let i = v.inside in omega arith)

    pub next_value : count < length row → ValuesRead input row (count + 1) (set row' count (signed_at input (2 + 4 * count)))
    next_value l = record {
      inside = omega arith;
      read =
          stored_behind row 0 (values_of input count) v.read count (signed_at input (2 + 4 * count)) (let n = values_length input count in omega arith) l
          ∙ ap (overwritten row 0) (sym (values_next input count) ∙ ap (values_of input) (sym (add-one count)));
    }

    pub all_values : length row ≤ count → row' ≡ values_of input (length row)
    all_values l =
        let e : count ≡ length row = (let i = v.inside in omega arith) in
        let n = values_length input count in
        v.read
        ∙ overwritten_front row (values_of input count)
        ∙ ap (λ rest. values_of input count ++ rest) (drop_of_length-le row {i = length (values_of input count)} (omega arith))
        ∙ append-nil (values_of input count)
        ∙ ap (values_of input) e
