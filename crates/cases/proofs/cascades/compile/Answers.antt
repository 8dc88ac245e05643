-- `cascades::compile` meets its contract: what Compile answered and left decides.
use Rattle.std.proofs.Common.{◌≡◌, ◌≤◌, ◌&&◌, Bool, List, ℕ, map, pos, length, take, replicate, refl, sym, ap, ap₂, ◌∙◌, length-take-le, take_at}
use Rattle.std.proofs.Math.Bool.{and_assoc}
use mathlib.Core.List.{flat_map}
use Rattle.cascade.specs.Plan.{no_cell}
use Rattle.numbers.specs.Ranges.{most_variables}
use Rattle.cascade.specs.Compile.{outcome, compiled_cells}
use Rattle.cascade.specs.Rows.{cell_row}
use Rattle.cases.specs.Rows.{byte_lent, front_holds, sizes_are}
use Rattle.cases.specs.CascadeCases.{outcome_is, compile_passes}
use Rattle.cases.proofs.Laws.Tests.{passed, failed, lent_front}
use Rattle.cases.proofs.Laws.CascadeCases.{compile_too_many, compile_judged}
use Rattle.cases.proofs.cascades.compile.Goals as goal
use Rattle.cases.proofs.cascades.compile.Goals.{in-Ok, in-Err, Joined-outcome_is, then-outcome_is, else-outcome_is}

pub returns-then-places-gt-MOST_BYTES : goal.returns-then-places-gt-MOST_BYTES
returns-then-places-gt-MOST_BYTES c =
    let a = c.args in
    let n = c.size_at-places.ensures.value in
    sym (compile_too_many a.numbers.now a.table.now refl refl a.cells.now a.front.now n c.if-places-gt-MOST_BYTES.true)

-- The answer and the cells that it lists.
module _ (c : Joined-outcome_is) where
  same : c.compile-answer.result ≡ c.match-answer.answer
  same =
      elim c.match-answer.branch [
        | in-Ok w ↦ w.in-Ok.is ∙ sym w.answer-is
        | in-Err w ↦ sym w.answer-is
      ]

  listed : c.match-answer.list ≡ compiled_cells c.compile-answer.result
  unfolding compiled_cells most_variables no_cell
  listed =
      elim c.match-answer.branch [
        | in-Ok w ↦ w.list-is ∙ sym (ap compiled_cells w.in-Ok.is)
        | in-Err w ↦ w.list-is ∙ sym (ap compiled_cells w.in-Err.is)
      ]

  -- The outcome, the cells and the image decide, and the first two are told.
  abbrev left : List ℕ
  left = c.compile-answer.new.image

  few : c.size_at-places.result ≤ 512
  few = c.if-places-gt-MOST_BYTES.false

  kept : length left ≡ c.size_at-places.result
  kept = c.compile-answer.auto.image ∙ length-take-le _ _ few

  abbrev outcome_told : Bool
  outcome_told = outcome_is c.args.numbers.now (outcome c.match-answer.answer)

  abbrev cells_told : Bool
  cells_told = sizes_are (flat_map cell_row c.match-answer.list) c.args.cells.now

  told : c.if-outcome_is.value ≡ (outcome_told && cells_told)
  told =
      elim c.if-outcome_is.branch [
        | then-outcome_is w ↦
            w.value-is
            ∙ w.sizes_are.ensures
            ∙ ap (λ row. sizes_are row c.args.cells.now) w.cell_rows.ensures
            ∙ sym (passed _ (sym c.outcome_is.ensures ∙ w.if-outcome_is.true))
        | else-outcome_is w ↦ w.value-is ∙ w.if-outcome_is.false ∙ sym (failed _ (sym c.outcome_is.ensures ∙ w.if-outcome_is.false))
      ]

  judged : compile_passes c.args.numbers.now c.args.table.now c.args.cells.now c.args.front.now ≡ ((outcome_told && cells_told) && front_holds (pos byte_lent) (map pos left) c.args.front.now)
  judged =
      compile_judged c.args.numbers.now c.args.table.now c.size_at-n.ensures.value c.size_at-limit.ensures.value c.args.cells.now c.args.front.now c.size_at-places.ensures.value
      (take c.size_at-places.result (replicate 512 byte_lent)) c.compile-answer.result left few (lent_front byte_lent c.size_at-places.result 512 few) c.compile-answer.ensures
      ∙ ap₂ (λ answer list. outcome_is c.args.numbers.now (outcome answer) && (sizes_are (flat_map cell_row list) c.args.cells.now && front_holds (pos byte_lent) (map pos left) c.args.front.now)) same (sym listed)
      ∙ sym (and_assoc outcome_told cells_told (front_holds (pos byte_lent) (map pos left) c.args.front.now))

pub returns-then-sizes_are : goal.returns-then-sizes_are
returns-then-sizes_are c =
    let j = (goal.at.returns-then-sizes_are c).Joined-outcome_is in
    c.bytes_hold.ensures
    ∙ ap (λ row. front_holds (pos byte_lent) (map pos row) c.args.front.now) (take_at (left j) _ c.size_at-places.result (kept j))
    ∙ sym (judged j ∙ passed _ (sym (told j) ∙ c.if-sizes_are.true))

pub returns-else-sizes_are : goal.returns-else-sizes_are
returns-else-sizes_are c =
    let j = (goal.at.returns-else-sizes_are c).Joined-outcome_is in
    c.if-sizes_are.false ∙ sym (judged j ∙ failed _ (sym (told j) ∙ c.if-sizes_are.false))
