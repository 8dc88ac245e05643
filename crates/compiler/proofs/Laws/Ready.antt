-- What Plan leaves is what compiling goes by.
use Rattle.std.specs.Prelude.{ℕ, suc, ◌^◌, ◌≡◌, true, List, length, take, ℤ, Ok}
use Rattle.std.proofs.Common.{sym, ◌∙◌, ap, ap₂, zero-add, arith, eq-eqb}
use Rattle.numbers.specs.Lists.{overwritten}
use Rattle.numbers.proofs.Laws.Overwriting.{take_overwritten}
use Rattle.blocks.specs.Rows.{cut_place, all_numbers, all_firsts, all_counts}
use Rattle.blocks.specs.Inner.Layout.{AllClassed}
use Rattle.blocks.proofs.Laws.Places.{length_numbers, length_firsts, length_counts}
use Rattle.diagram.specs.Accepted.{Accepted}
use Rattle.cascade.specs.Plan.{Plans}
use Rattle.cascade.specs.Inner.Planned.{groups, Chosen, PlannedAs}
use Rattle.cascade.specs.declared.Grouping.{Grouping}
use Rattle.cascade.specs.declared.Planned.{Planned}
use Rattle.cascade.proofs.Laws.Admitting.{plan_admits}
use Rattle.cascade.proofs.Laws.Planned.{plan_chosen, plan_accepts, groups_are}
use Rattle.planner.specs.Inner.Rows.{is_classed, RowsLeft}

-- The front of a row that was overwritten.
front_of : {A : Type 0} (row new : List A) → take (length new) (overwritten row 0 new) ≡ new
front_of row new = ap (λ k. take k (overwritten row 0 new)) (sym (zero-add (length new))) ∙ take_overwritten row 0 new (omega arith)

front_is : {A : Type 0} (row new : List A) (row' : List A) (k : ℕ) → length new ≡ k → row' ≡ overwritten row 0 new → take k row' ≡ new
front_is row new row' k e f = ap₂ take (sym e) f ∙ front_of row new

module _ (n : ℕ) (table : List ℤ) (limit : ℕ) (p : Planned) (plans : Plans n table limit p) (g : Grouping) (grouped : p.verdict ≡ Ok g) where
  chosen : Chosen n table limit p.cells g.cells g.bits
  chosen = plan_chosen n table limit p plans g grouped

  admitted : Accepted n table
  admitted = plan_accepts n table limit p plans g grouped

  -- The planned cells are those of Plan's sizes.
  pub planned_ready : PlannedAs n table (groups p.cells g.cells) p.cells g.cells g.bits
  planned_ready = rw (groups_are admitted chosen.planned) chosen.planned

  passes : is_classed n table limit ≡ true
  unfolding is_classed
  passes = rw (admitted.variables, eq-eqb (length table) (2 ^ n) admitted.size, admitted.values) (plan_admits n table limit chosen.sizes chosen.chosen).1.0

  -- The classes of all cuts stand in front of the rows.
  pub classes_ready : {class_row first_row count_row class_row' first_row' count_row' : List ℕ} → RowsLeft n table limit class_row first_row count_row class_row' first_row' count_row' → AllClassed n table (take (cut_place (suc n)) class_row') (take (cut_place (suc n)) first_row') (take (suc n) count_row')
  classes_ready {class_row} {first_row} {count_row} {class_row'} {first_row'} {count_row'} rows = record {
    numbered = front_is class_row (all_numbers n table) class_row' _ (length_numbers n table) (rw passes at rows.numbered);
    placed = front_is first_row (all_firsts n table) first_row' _ (length_firsts n table) (rw passes at rows.placed);
    counted = front_is count_row (all_counts n table) count_row' _ (length_counts n table) (rw passes at rows.counted);
  }
