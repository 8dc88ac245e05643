-- The commonest outgoing class of each cell that Plan and Compile answer.
use Rattle.std.specs.Prelude.{ℕ, suc, ◌<◌, ◌≡◌, true, List, length, get_or, take, ℤ}
use Rattle.std.proofs.Common.{sym}
use Rattle.std.proofs.Math.Path.{subst}
use Rattle.numbers.specs.Answers.{accepted}
use Rattle.numbers.specs.Lists.{sum_of}
use Rattle.numbers.specs.Ranges.{most_variables}
use Rattle.numbers.proofs.Laws.Padding.{padded_entry}
use Rattle.cascade.specs.Compile.{compile, compile_cells}
use Rattle.cascade.specs.Groupings.{is_grouping}
use Rattle.cascade.specs.Plan.{plan, plan_cells, no_cell, entries, cell_array}
use Rattle.cascade.proofs.Theorems as cascades
use Rattle.cascade.proofs.Laws.Admitting.{plan_admits, compile_admits}
use Rattle.cascade.proofs.Laws.Chosen.{chosen_best}
use Rattle.cascade.proofs.Laws.Planned.{planned_count}
use Rattle.cascade.specs.declared.Cell.{Cell as PlanCell}
use Rattle.demands.specs.Requested.{Commonest}

module _ (n : ℕ) (table : List ℤ) (sizes : List ℕ) (grouping : is_grouping n sizes ≡ true) (k : ℕ) (below : k < length sizes) where
  -- Cell k of a grouping, and where it ends.
  abbrev cell : PlanCell
  cell = get_or (plan_cells n table 0 sizes) k no_cell

  abbrev end : ℕ
  end = sum_of (take (suc k) sizes)

  cell_commonest : Commonest n table end cell.common cell.uses
  cell_commonest =
      let there = cascades.outgoing_there n table sizes grouping k below in
      record {
        known = rw there at (cascades.common_known n table sizes grouping k below);
        used = cascades.common_uses n table sizes grouping k below;
        most = λ other l. cascades.common_most n table sizes grouping k below other (rw there l);
        smallest = λ other l. cascades.common_smallest n table sizes grouping k below other (rw there l);
      }

  -- In the array it stands at its place.
  pub array_commonest : Commonest n table end (get_or (cell_array n table (accepted sizes)) k no_cell).common (get_or (cell_array n table (accepted sizes)) k no_cell).uses
  unfolding cell_array entries
  array_commonest =
      subst (λ (c : PlanCell). Commonest n table end c.common c.uses)
      (sym (padded_entry no_cell most_variables (plan_cells n table 0 sizes) k (rw planned_count below)))
      cell_commonest

module _ (n : ℕ) (table : List ℤ) (limit : ℕ) (sizes : List ℕ) where
  pub plan_commonest : plan n table limit ≡ accepted sizes → (k : ℕ) → k < length sizes
      → Commonest n table (sum_of (take (suc k) sizes)) (get_or (cell_array n table (plan n table limit)) k no_cell).common (get_or (cell_array n table (plan n table limit)) k no_cell).uses
  plan_commonest e k below =
      subst (λ answer. Commonest n table (sum_of (take (suc k) sizes)) (get_or (cell_array n table answer) k no_cell).common (get_or (cell_array n table answer) k no_cell).uses) (sym e)
      (array_commonest n table sizes (chosen_best n table limit sizes (plan_admits n table limit sizes e).1.1).grouping k below)

  pub compile_commonest : (room : ℕ) → compile n table limit room ≡ accepted sizes → (k : ℕ) → k < length sizes
      → Commonest n table (sum_of (take (suc k) sizes)) (get_or (compile_cells n table limit room) k no_cell).common (get_or (compile_cells n table limit room) k no_cell).uses
  unfolding compile_cells
  compile_commonest room e k below =
      let planned = (compile_admits n table limit room sizes e).0 in
      subst (λ answer. Commonest n table (sum_of (take (suc k) sizes)) (get_or (cell_array n table answer) k no_cell).common (get_or (cell_array n table answer) k no_cell).uses) (sym e)
      (array_commonest n table sizes (chosen_best n table limit sizes (plan_admits n table limit sizes planned).1.1).grouping k below)
