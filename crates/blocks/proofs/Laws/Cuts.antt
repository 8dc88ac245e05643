-- The rows of all cuts: where each cut lies in them.
use Prim.Native.Nat.{ℕ, suc, ◌+◌, ◌-◌, ◌*◌, ◌^◌, ◌≤◌}
use Rattle.std.specs.Prelude.{◌≡◌, length, ℤ}
use Rattle.std.proofs.Common.{◌∙◌, ap, mul_comm, arith}
use mathlib.Core.List.{List, map}
use Rattle.std.proofs.Math.Nat.{two-pow-succ}
use Rattle.std.proofs.Math.ListN.{length-map}
use Rattle.std.proofs.Math.Pow.{pow_pos, pow_mono}
use Rattle.numbers.proofs.Laws.Padding.{length_padded}
use Rattle.numbers.proofs.Laws.Powers.{power_split}
use Rattle.blocks.specs.Blocks.{blocks, differences}
use Rattle.blocks.specs.Classes.{number_in, distinct}
use Rattle.blocks.specs.Rows.{numbers_of, firsts_of, cut_numbers, cut_firsts, cut_place}
use Rattle.blocks.proofs.Laws.Known.{distinct_length}
use Rattle.blocks.proofs.Laws.Blocks.{blocks_count}

module _ (n h : ℕ) (cut : h ≤ n) where
  pub lists_length : (table : List ℤ) → length (map differences (blocks n table (n - h))) ≡ 2 ^ h
  lists_length table =
      length-map (blocks n table (n - h)) differences
      ∙ blocks_count n table (n - h)
      ∙ ap (λ k. 2 ^ k) (let e : n - (n - h) ≡ h = omega arith in e)

  pub length_cut_numbers : (table : List ℤ) → length (cut_numbers n table h) ≡ 2 ^ h
  unfolding cut_numbers numbers_of
  length_cut_numbers table = length-map (map differences (blocks n table (n - h))) (number_in (distinct (map differences (blocks n table (n - h))))) ∙ lists_length table

  pub length_cut_firsts : (table : List ℤ) → length (cut_firsts n table h) ≡ 2 ^ h
  unfolding cut_firsts firsts_of
  length_cut_firsts table =
      length_padded 0 (2 ^ h) (map (number_in lists) (distinct lists))
      (rw length-map (let d = distinct_length lists in let l = lists_length table in omega arith))
    where
      lists : List (List ℤ)
      lists = map differences (blocks n table (n - h))

  -- Cut h ends where the next begins, within the rows.
  pub cut_end : cut_place h + 2 ^ h ≡ cut_place (suc h)
  unfolding cut_place
  cut_end = let p = pow_pos h in let e : 2 ^ h - 1 + 2 ^ h ≡ 2 ^ suc h - 1 = omega (arith, two-pow-succ h) in e

  pub cut_within : cut_place h + 2 ^ h ≤ cut_place (suc n)
  unfolding cut_place
  cut_within = let p = pow_pos h in let m : 2 ^ suc h ≤ 2 ^ suc n = pow_mono (omega arith) in omega (arith, two-pow-succ h)

  -- A table of 2^n values has 2^h blocks of 2^(n-h).
  pub cut_whole : 2 ^ h * 2 ^ (n - h) ≡ 2 ^ n
  cut_whole = mul_comm (2 ^ h) (2 ^ (n - h)) ∙ power_split n h cut

-- The rows of all cuts have few places.
pub places_most : (n : ℕ) → n ≤ 12 → cut_place (suc n) ≤ 8191
unfolding cut_place
places_most n few = let m = pow_mono {i = suc n} {j = 13} (omega arith) in omega arith
