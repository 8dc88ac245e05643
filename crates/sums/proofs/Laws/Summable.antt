-- Which weights can be summed up: those of an accepted list, and the first of such weights; and how one is read.
use Rattle.std.specs.Prelude.{ℕ, ◌^◌, ◌≤◌, ◌<◌, min, ◌≡◌, true, List, length, get_or, take, ℤ, pos}
use Rattle.std.proofs.Common.{◌∙◌, ap, arith, length-take, get_or-take, to_z, of_z, w32}
use Rattle.std.proofs.lemmas.Int.{to_z-of_z}
use Rattle.std.specs.Int.Signed.{mag}
use Rattle.numbers.specs.Conditions.{Variables}
use Rattle.numbers.specs.Lists.{every}
use Rattle.numbers.specs.Ranges.{is_value}
use Rattle.numbers.proofs.Laws.Bounds.{value_mag}
use Rattle.numbers.proofs.Laws.Lists.{every_at, every_from}
use Rattle.sums.specs.Sums.{sum_at, Weighted}
use Rattle.sums.specs.Inner.Summable.{Summable}
use Rattle.sums.proofs.Laws.Answers.{weights_test}
use Rattle.sums.proofs.Laws.Extremes.{sum_at_small}

module _ (n : ℕ) (weights : List ℤ) (w : Weighted n weights) where
  pub few_variables : n ≤ 12
  unfolding Variables
  few_variables = w.variables.1

  pub weighted_values : every is_value weights ≡ true
  weighted_values = (weights_test n weights w.size).1 w.values

  pub weighted_summable : Summable weights
  weighted_summable = record { few = (let v = few_variables in let s = w.size in omega arith); values = weighted_values }

  -- Every sum of them fits 32 bits.
  pub sums_fit : (x : ℕ) → mag (sum_at weights x) < 2 ^ 31
  sums_fit x =
      let few = few_variables in
      let size = w.size in
      let s = sum_at_small weights weighted_values x in
      omega arith

pub first_values : (weights : List ℤ) (j : ℕ) → every is_value weights ≡ true → every is_value (take j weights) ≡ true
first_values weights j values =
    every_from is_value (take j weights) (pos 0)
    (λ k l.
    let m : k < min j (length weights) = rw length-take at l in
    ap is_value (get_or-take j weights k (pos 0) (omega arith)) ∙ every_at is_value weights (pos 0) values k (omega arith))

-- A weight is a number of the machine's, so it is read as it is.
pub weight_read : (weights : List ℤ) (j : ℕ) → Summable weights → j < length weights → to_z w32 (of_z w32 (get_or weights j (pos 0))) ≡ get_or weights j (pos 0)
weight_read weights j s inside =
    let w = get_or weights j (pos 0) in
    let m = value_mag w (every_at is_value weights (pos 0) s.values j inside) in
    let l : mag w < 2 ^ 31 = omega arith in
    to_z-of_z w32 w (record { sfits = l })
