-- `weight_lists::sums_fit` meets its contract. The loop's invariant: the least and the greatest sum of the first weights.
use Rattle.std.specs.Prelude.{◌&&◌}
use Rattle.std.specs.Int.Signed.{mag, lt_z}
use Rattle.std.proofs.Common.{◌≡◌, refl, sym, ◌∙◌, ap, ap₂, true, false, ℕ, ◌+◌, ◌*◌, ◌^◌, ◌≤◌, ◌<◌, List, [], ◌∷◌, ◌++◌, length, get_or, take, ℤ, pos, ◌+ℤ◌, FitsSigned, to_z, of_z, w32, arith, add-one, take-suc, length-take-le}
use Rattle.std.proofs.Math.Seq.{take-length}
use Rattle.std.proofs.lemmas.Grind.{common_steps}
use Rattle.std.proofs.lemmas.Int.{to_z-of_z}
use Rattle.numbers.specs.Lists.{every, keep, exact_sum}
use Rattle.numbers.specs.Ranges.{is_value}
use Rattle.numbers.proofs.Laws.Bounds.{value_mag}
use Rattle.numbers.proofs.Laws.Lists.{every_at}
use Rattle.numbers.proofs.Laws.Machine.{mag_add}
use Rattle.sums.specs.Sums.{sum_table, least_sum, greatest_sum}
use Rattle.sums.proofs.Laws.Extremes.{values_by_extremes, least_more, least_still, greatest_more, greatest_still, least_small, greatest_small}
use Rattle.sums.proofs.Laws.Summable.{first_values, weight_read}
use Rattle.sums.proofs.weight_lists.sums_fit.Goals as goal
use Rattle.sums.proofs.weight_lists.sums_fit.Goals.{After-loop-weight, In-loop-weight, then-weight-lt0, else-weight-lt0}

pub loop-weight-init : goal.loop-weight-init
unfolding least_sum greatest_sum keep exact_sum
loop-weight-init c = record { low = refl; high = refl }

-- One weight more: it is added to the least sum where it is negative, else to the greatest.
module _ (c : In-loop-weight) where
  abbrev weights : List ℤ
  weights = c.args.weights.now

  abbrev j : ℕ
  j = c.loop-weight.weight-index

  abbrev weight : ℤ
  weight = get_or weights j (pos 0)

  abbrev so_far : List ℤ
  so_far = take j weights

  inside : j < length weights
  inside = c.loop-weight-test.true

  read : to_z w32 (of_z w32 weight) ≡ weight
  read = weight_read weights j c.requires inside

  one_more : take (j + 1) weights ≡ so_far ++ weight ∷ []
  one_more = ap (λ k. take k weights) (add-one j) ∙ take-suc weights j (pos 0) inside

  -- A sum of the first weights and this one is of 32 bits, whichever it is.
  adds : (z : ℤ) → mag z ≤ length so_far * 8388608 → FitsSigned w32 (z +ℤ weight)
  adds z small =
      let few = c.requires.few in
      let i = inside in
      let k = length-take-le j weights (omega arith) in
      let v = value_mag weight (every_at is_value weights (pos 0) c.requires.values j inside) in
      let m = mag_add z weight in
      let s : mag (z +ℤ weight) < 2 ^ 31 = omega arith in
      record { sfits = s }

  first : every is_value so_far ≡ true
  first = first_values weights j c.requires.values

  least_adds : FitsSigned w32 (to_z w32 c.loop-weight.least-bits +ℤ weight)
  least_adds = adds (to_z w32 c.loop-weight.least-bits) (rw c.loop-weight.invariant.low (least_small so_far first))

  greatest_adds : FitsSigned w32 (to_z w32 c.loop-weight.greatest-bits +ℤ weight)
  greatest_adds = adds (to_z w32 c.loop-weight.greatest-bits) (rw c.loop-weight.invariant.high (greatest_small so_far first))

  module _ (negative : lt_z weight (pos 0) ≡ true) where
    least_added : to_z w32 c.loop-weight.least-bits +ℤ weight ≡ least_sum (take (j + 1) weights)
    least_added = ap (λ z. z +ℤ weight) c.loop-weight.invariant.low ∙ sym (ap least_sum one_more ∙ least_more so_far weight negative)

    greatest_kept : to_z w32 c.loop-weight.greatest-bits ≡ greatest_sum (take (j + 1) weights)
    greatest_kept = c.loop-weight.invariant.high ∙ sym (ap greatest_sum one_more ∙ greatest_still so_far weight negative)

  module _ (other : lt_z weight (pos 0) ≡ false) where
    greatest_added : to_z w32 c.loop-weight.greatest-bits +ℤ weight ≡ greatest_sum (take (j + 1) weights)
    greatest_added = ap (λ z. z +ℤ weight) c.loop-weight.invariant.high ∙ sym (ap greatest_sum one_more ∙ greatest_more so_far weight other)

    least_kept : to_z w32 c.loop-weight.least-bits ≡ least_sum (take (j + 1) weights)
    least_kept = c.loop-weight.invariant.low ∙ sym (ap least_sum one_more ∙ least_still so_far weight other)

pub overflow_add-least : goal.overflow_add-least
overflow_add-least c = let d = (goal.at.overflow_add-least c).In-loop-weight in rw (read d) (least_adds d)

pub overflow_add-greatest : goal.overflow_add-greatest
overflow_add-greatest c = let d = (goal.at.overflow_add-greatest c).In-loop-weight in rw (read d) (greatest_adds d)

pub loop-weight-preserved : goal.loop-weight-preserved
loop-weight-preserved c =
    let d = (goal.at.loop-weight-preserved c).In-loop-weight in
    elim c.if-weight-lt0.branch [
      | then-weight-lt0 w ↦
          let negative = rw (read d) at w.if-weight-lt0.true in record {
            low = rw (read d) at w.least-is ∙ to_z-of_z w32 _ (least_adds d) ∙ least_added d negative;
            high = w.greatest-is ∙ greatest_kept d negative;
          }
      | else-weight-lt0 w ↦
          let other = rw (read d) at w.if-weight-lt0.false in record {
            low = w.least-is ∙ least_kept d other;
            high = rw (read d) at w.greatest-is ∙ to_z-of_z w32 _ (greatest_adds d) ∙ greatest_added d other;
          }
    ]

-- All weights: both sums are judged.
module _ (c : After-loop-weight) where
  whole : take c.loop-weight.weight-index c.args.weights.now ≡ c.args.weights.now
  whole =
      let all = c.args.weights.now in
      let t = c.loop-weight-test.false in
      let m = c.loop-weight.auto in
      let last : c.loop-weight.weight-index ≡ length all = omega arith in
      ap (λ k. take k all) last ∙ take-length all

  judged : every is_value (sum_table c.args.weights.now) ≡ (is_value (to_z w32 c.loop-weight.least-bits) && is_value (to_z w32 c.loop-weight.greatest-bits))
  judged =
      values_by_extremes c.args.weights.now
      ∙ ap₂ (λ a b. is_value a && is_value b) (sym (c.loop-weight.invariant.low ∙ ap least_sum whole)) (sym (c.loop-weight.invariant.high ∙ ap greatest_sum whole))

pub returns-then-is_value : goal.returns-then-is_value
returns-then-is_value c = let law = judged (goal.at.returns-then-is_value c).After-loop-weight in grind (arith, common_steps)

pub returns-else-is_value : goal.returns-else-is_value
returns-else-is_value c = let law = judged (goal.at.returns-else-is_value c).After-loop-weight in grind (arith, common_steps)
