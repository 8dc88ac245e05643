-- The diagram of a plain sum: every block of one height has the same differences, and branches where its top variable's weight is not 0.
use Prim.Native.Nat.{ℕ, zero, suc, ◌+◌, ◌-◌, ◌^◌, ◌≤◌, ◌<◌}
use Rattle.std.specs.Prelude.{◌≡◌, get_or, ℤ, pos, ◌+ℤ◌, ◌-ℤ◌}
use Rattle.std.proofs.Math.Path.{sym, ap, ap₂}
use Rattle.std.proofs.Common.{◌∙◌, arith, take-suc, length-take-le, pow_pos}
use Rattle.std.proofs.Math.Bool.{not}
use Rattle.std.proofs.lemmas.Bool.{false≢true}
use mathlib.Core.List.{List, [], ◌∷◌, ◌++◌, map, map-id}
use Rattle.std.proofs.Math.Nat.{zero-add}
use Rattle.std.proofs.Math.ListN.{length, take, drop, length-map}
use Rattle.std.proofs.Math.Seq.{take-append_seam, drop-append_seam, take-length}
use Rattle.std.proofs.Math.IntN.{+ℤ_idl, +ℤ_idr, +ℤ_invr, +ℤ-neg_ℤ_cancel}
use Rattle.numbers.specs.Lists.{numbers_from, tally}
use Rattle.numbers.specs.Ranges.{eq_z}
use Rattle.numbers.proofs.Laws.Bools.{yes_or_no}
use Rattle.numbers.proofs.Laws.Integers.{eq_z_true, eq_z_refl}
use Rattle.numbers.proofs.Laws.Lists.{length_range, get_d_range, get_d_map, map_append, map_same}
use Rattle.numbers.proofs.Laws.Selections.{keep_none, keep_all}
use Rattle.numbers.proofs.Laws.Tallies.{tally_nil, tally_passed, tally_failed, tally_append}
use Rattle.blocks.specs.Blocks.{block, blocks, lower_half, upper_half, differences}
use Rattle.blocks.specs.Classes.{same, learn_all, distinct}
use Rattle.blocks.proofs.Laws.Blocks.{blocks_count}
use Rattle.blocks.proofs.Laws.Differences.{differences_more}
use Rattle.blocks.proofs.Laws.Known.{distinct_one}
use Rattle.blocks.proofs.Laws.Same.{same_true, equal_same}
use Rattle.diagram.specs.Records.{branches, kinds, records_below, node_count}
use Rattle.diagram.proofs.Laws.NodeCount.{node_count_lem}
use Rattle.sums.specs.Sums.{sum_at, sum_table, is_nonzero}
use Rattle.sums.proofs.Laws.Split.{sum_at_0, table_length, table_at, table_more}
use Rattle.sums.proofs.Laws.Blocks.{block_of_sums}

-- ---- one block

-- A table of sums with its highest weight, all of it shifted by a constant.
module _ (weights : List ℤ) (w c : ℤ) where
  abbrev shifted : List ℤ
  shifted = map (λ v. v +ℤ c) (sum_table (weights ++ w ∷ []))

  abbrev low : List ℤ
  low = map (λ v. v +ℤ c) (sum_table weights)

  abbrev high : List ℤ
  high = map (λ v. v +ℤ c) (map (λ v. v +ℤ w) (sum_table weights))

  in_halves : shifted ≡ low ++ high
  in_halves = ap (map (λ v. v +ℤ c)) (table_more weights w) ∙ map_append (λ v. v +ℤ c) (sum_table weights) (map (λ v. v +ℤ w) (sum_table weights))

  low_length : length low ≡ 2 ^ length weights
  low_length = length-map (sum_table weights) (λ v. v +ℤ c) ∙ table_length weights

  lower : lower_half (length weights) shifted ≡ low
  unfolding lower_half
  lower = ap₂ take (sym low_length) in_halves ∙ take-append_seam low high

  upper : upper_half (length weights) shifted ≡ high
  unfolding upper_half
  upper = ap₂ drop (sym low_length) in_halves ∙ drop-append_seam low high

  -- The halves begin with the constant, and with the weight and it.
  some_sum : 0 < length (sum_table weights)
  some_sum = rw table_length (pow_pos (length weights))

  begins : get_or (sum_table weights) 0 (pos 0) ≡ pos 0
  begins = table_at weights 0 (pow_pos (length weights)) ∙ sum_at_0 weights

  low_begins : get_or low 0 (pos 0) ≡ c
  low_begins = get_d_map (λ v. v +ℤ c) (sum_table weights) 0 (pos 0) (pos 0) some_sum ∙ ap (λ v. v +ℤ c) begins ∙ +ℤ_idl c

  high_begins : get_or high 0 (pos 0) ≡ w +ℤ c
  high_begins =
      get_d_map (λ v. v +ℤ c) (map (λ v. v +ℤ w) (sum_table weights)) 0 (pos 0) (pos 0) (rw length-map some_sum)
      ∙ ap (λ v. v +ℤ c) (get_d_map (λ v. v +ℤ w) (sum_table weights) 0 (pos 0) (pos 0) some_sum ∙ ap (λ v. v +ℤ w) begins ∙ +ℤ_idl w)

  -- It branches exactly where the weight is not 0.
  halves_alike : same low high ≡ eq_z w (pos 0)
  halves_alike =
      yes_or_no (eq_z w (pos 0))
      (λ e. equal_same low high (ap (map (λ v. v +ℤ c)) (sym (unchanged (eq_z_true w (pos 0) e)))) ∙ sym e)
      (λ e.
      yes_or_no (same low high)
      (λ s. absurd (false≢true (sym e ∙ ap (λ z. eq_z z (pos 0)) (no_weight (same_true low high s)) ∙ eq_z_refl (pos 0))))
      (λ s. s ∙ sym e))
    where
      unchanged : w ≡ pos 0 → map (λ v. v +ℤ w) (sum_table weights) ≡ sum_table weights
      unchanged z = ap (λ k. map (λ v. v +ℤ k) (sum_table weights)) z ∙ map_same (λ v. v +ℤ pos 0) (λ v. v) (sum_table weights) +ℤ_idr ∙ map-id (sum_table weights)

      no_weight : low ≡ high → w ≡ pos 0
      no_weight s = sym (+ℤ-neg_ℤ_cancel w c) ∙ ap (λ z. z -ℤ c) (sym (sym low_begins ∙ ap (λ l. get_or l 0 (pos 0)) s ∙ high_begins)) ∙ +ℤ_invr c

  shifted_branches : branches (length weights) shifted ≡ is_nonzero w
  unfolding branches is_nonzero
  shifted_branches = ap not (ap₂ same lower upper ∙ halves_alike)

-- ---- all blocks of one height

module _ (weights : List ℤ) (i : ℕ) (inside : i < length weights) where
  abbrev top : ℤ
  top = get_or weights i (pos 0)

  abbrev part : List ℤ
  part = sum_table (take (suc i) weights)

  block_is : (j : ℕ) → j < 2 ^ (length weights - suc i) → block (sum_table weights) (suc i) j ≡ map (λ v. v +ℤ sum_at (drop (suc i) weights) j) part
  block_is j l = block_of_sums weights (suc i) j inside l

  block_branches : (j : ℕ) → j < 2 ^ (length weights - suc i) → branches i (block (sum_table weights) (suc i) j) ≡ is_nonzero top
  block_branches j l =
      ap₂ branches (sym (length-take-le i weights (omega arith)))
      (block_is j l ∙ ap (λ ws. map (λ v. v +ℤ sum_at (drop (suc i) weights) j) (sum_table ws)) (take-suc weights i (pos 0) inside))
      ∙ shifted_branches (take i weights) top (sum_at (drop (suc i) weights) j)

  abbrev all : List (List ℤ)
  all = blocks (length weights) (sum_table weights) (suc i)

  block_there : (j : ℕ) → j < length all → (j < 2 ^ (length weights - suc i)) × (get_or all j [] ≡ block (sum_table weights) (suc i) j)
  unfolding blocks
  block_there j l =
      let count = 2 ^ (length weights - suc i) in
      let k : j < count = rw (blocks_count (length weights) (sum_table weights) (suc i)) at l in
      (k, get_d_map (block (sum_table weights) (suc i)) (numbers_from 0 count) j 0 [] (rw length_range k) ∙ ap (block (sum_table weights) (suc i)) (get_d_range 0 count j 0 k ∙ zero-add j))

  -- One record where the weight is not 0, none where it is.
  kinds_count : length (kinds (length weights) (sum_table weights) i) ≡ tally is_nonzero (top ∷ [])
  unfolding kinds distinct learn_all
  kinds_count =
      yes_or_no (is_nonzero top)
      (λ e.
      ap (λ l. length (distinct (map differences l))) (keep_all (branches i) all [] (λ j l. ap (branches i) (block_there j l).1 ∙ block_branches j (block_there j l).0 ∙ e))
      ∙ distinct_one (differences part) (map differences all)
      (λ j l. let k : j < length all = rw length-map at l in get_d_map differences all j [] [] k ∙ ap differences ((block_there j k).1 ∙ block_is j (block_there j k).0) ∙ differences_more part (sum_at (drop (suc i) weights) j))
      (rw (length-map, blocks_count) (pow_pos (length weights - suc i)))
      ∙ sym (tally_passed is_nonzero top [] e ∙ ap suc (tally_nil is_nonzero)))
      (λ e.
      ap (λ l. length (distinct (map differences l))) (keep_none (branches i) all [] (λ j l. ap (branches i) (block_there j l).1 ∙ block_branches j (block_there j l).0 ∙ e))
      ∙ sym (tally_failed is_nonzero top [] e ∙ tally_nil is_nonzero))

-- ---- the node count

records_of_sums : (weights : List ℤ) (i : ℕ) → i ≤ length weights → records_below (length weights) (sum_table weights) i ≡ tally is_nonzero (take i weights)
unfolding records_below
records_of_sums weights zero l = sym (tally_nil is_nonzero)
records_of_sums weights (suc i) l =
    ap₂ ◌+◌ (records_of_sums weights i (omega arith)) (kinds_count weights i l)
    ∙ sym (ap (tally is_nonzero) (take-suc weights i (pos 0) l) ∙ tally_append is_nonzero (take i weights) (get_or weights i (pos 0) ∷ []))

pub sum_nodes : (weights : List ℤ) → node_count (length weights) (sum_table weights) ≡ suc (tally is_nonzero weights)
sum_nodes weights =
    node_count_lem (length weights) (sum_table weights)
    ∙ ap suc (records_of_sums weights (length weights) (omega arith) ∙ ap (tally is_nonzero) (take-length weights))
