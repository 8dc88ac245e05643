-- The commonest outgoing classes of Plan's cells.
use Rattle.std.specs.Prelude.{ℕ, suc, ◌+◌, ◌^◌, ◌≤◌, ◌<◌, ◌≡◌, true, List, length, get_or, take, ℤ}
use Rattle.std.proofs.Common.{sym, ◌∙◌, ap₂, zero-add, arith, take_all}
use Rattle.std.proofs.Math.Path.{ap}
use Rattle.numbers.specs.Lists.{sum_of}
use Rattle.blocks.specs.Classes.{class_count}
use Rattle.blocks.specs.Uses.{use_count, classes_at, commonest_at}
use Rattle.blocks.proofs.UseTheorems.{commonest_known, commonest_uses, commonest_most, commonest_smallest, commonest_at_bottom}
use Rattle.cascade.specs.Cascade.{cell_of}
use Rattle.cascade.specs.Groupings.{is_grouping}
use Rattle.cascade.specs.Plan.{plan_cell, plan_cells, no_cell}
use Rattle.cascade.specs.declared.Cell.{Cell as PlanCell}
use Rattle.cascade.proofs.Laws.Cards.{grouping_sum}
use Rattle.cascade.proofs.Laws.Planned.{sum_next, sum_within, planned_at}

module _ (n : ℕ) (table : List ℤ) (sizes : List ℕ) (grouping : is_grouping n sizes ≡ true) (k : ℕ) (below : k < length sizes) where
  -- Cell k as Plan answers it, and the cut where it ends.
  abbrev planned : PlanCell
  planned = get_or (plan_cells n table 0 sizes) k no_cell

  abbrev end : ℕ
  end = sum_of (take (suc k) sizes)

  is : planned ≡ plan_cell (cell_of n table (sum_of (take k sizes)) (get_or sizes k 0)) (commonest_at n table end)
  is = planned_at n table 0 sizes k below no_cell ∙ ap₂ (λ cut last. plan_cell (cell_of n table cut (get_or sizes k 0)) (commonest_at n table last)) (zero-add (sum_of (take k sizes))) (let s = sum_next sizes k below in let e : 0 + sum_of (take k sizes) + get_or sizes k 0 ≡ end = omega arith in e)

  inside : end ≤ n
  inside = let s = sum_next sizes k below in let w = sum_within sizes k below in let g = grouping_sum n sizes grouping in omega arith

  -- Its outgoing classes are those of that cut,
  pub outgoing_there : planned.outgoing ≡ class_count n table end
  unfolding plan_cell cell_of
  outgoing_there = ap (λ cell. cell.outgoing) is ∙ ap (class_count n table) (sym (sum_next sizes k below))

  -- its commonest class is one of them,
  pub common_known : planned.common < planned.outgoing
  unfolding plan_cell
  common_known = rw (outgoing_there, ap (λ cell. cell.common) is) (commonest_known n table end inside)

  -- with the use count that the class has there,
  pub common_uses : planned.uses ≡ use_count (classes_at n table end) planned.common
  unfolding plan_cell
  common_uses = ap (λ cell. cell.uses) is ∙ commonest_uses n table end inside ∙ ap (use_count (classes_at n table end)) (sym (ap (λ cell. cell.common) is))

  -- no outgoing class is used more,
  pub common_most : (class : ℕ) → class < planned.outgoing → use_count (classes_at n table end) class ≤ planned.uses
  unfolding plan_cell
  common_most class l = rw (ap (λ cell. cell.uses) is) (commonest_most n table end inside class (rw outgoing_there at l))

  -- and of those used as much it has the smallest number.
  pub common_smallest : (class : ℕ) → class < planned.outgoing → use_count (classes_at n table end) class ≡ planned.uses → planned.common ≤ class
  unfolding plan_cell
  common_smallest class l tie = rw (ap (λ cell. cell.common) is) (commonest_smallest n table end inside class (rw outgoing_there at l) (tie ∙ ap (λ cell. cell.uses) is))

  -- The last cell has class 0, which all values have.
  pub common_of_last : length table ≡ 2 ^ n → suc k ≡ length sizes → (planned.common ≡ 0) × (planned.uses ≡ 2 ^ n)
  unfolding plan_cell
  common_of_last whole last =
      let bottom : end ≡ n = ap sum_of (take_all (suc k) sizes (omega arith)) ∙ grouping_sum n sizes grouping in
      let common = ap (commonest_at n table) bottom ∙ commonest_at_bottom n table whole in
      (ap (λ cell. cell.common) is ∙ ap (λ c. c.class) common, ap (λ cell. cell.uses) is ∙ ap (λ c. c.uses) common)
