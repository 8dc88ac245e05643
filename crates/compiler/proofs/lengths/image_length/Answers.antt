-- `lengths::image_length` meets its contract: the sum of the cells' lengths is small.
use Rattle.std.specs.Prelude.{◌+◌, ◌≡◌}
use Rattle.std.specs.List.{sum_by}
use Rattle.std.proofs.Common.{rules, sym, ◌∙◌, ap, subst, arith, tests}
use Rattle.std.proofs.lemmas.Iterator.{YieldsList-from_slice, YieldsList-from_map}
use Rattle.std.proofs.lemmas.Iterator.Adapters.{serves_from_places}
use Rattle.std.proofs.lemmas.Iterator.Consumers.{sum_by_from_yields_List, fits_by_from_yields_list}
use Rattle.std.proofs.lemmas.List.{get_or_default}
use mir.Facts.{Fits-of_lt}
use Rattle.cascade.specs.Plan.{no_cell}
use Rattle.cascade.specs.declared.Cell.{Cell}
use Rattle.compiler.specs.Inner.Lengths.{planned_bytes, SmallCell}
use Rattle.compiler.proofs.Laws.Measuring.{measured, few_bytes}
use Rattle.compiler.proofs.lengths.image_length.Goals as goal
use Rattle.compiler.proofs.lengths.image_length.Goals.{After-sum}

pub sum-requires-clause-can : goal.sum-requires-clause-can
sum-requires-clause-can c = (
  tt,
  serves_from_places (YieldsList-from_slice c.args.cells.now cc) (λ x q k. search rules)
      (λ x k l e. subst (λ (cell : Cell). SmallCell cell) (get_or_default c.args.cells.now k no_cell x.now l ∙ sym e) (c.requires.each k l)),
)

pub sum-requires-clause-fits : goal.sum-requires-clause-fits
sum-requires-clause-fits c =
    fits_by_from_yields_list planned_bytes c.args.cells.now c.map.result _
    (YieldsList-from_map _ planned_bytes (YieldsList-from_slice c.args.cells.now cc) c.map.ensures.closure (λ x r q k. search (rules, tests)))
    (let f = few_bytes c.requires in omega arith)

-- The sum.
is_sum : (c : After-sum) → c.sum.result ≡ sum_by planned_bytes c.args.cells.now
is_sum c =
    sum_by_from_yields_List planned_bytes c.args.cells.now c.map.result _ c.sum.ensures.ran
    (YieldsList-from_map _ planned_bytes (YieldsList-from_slice c.args.cells.now cc) c.map.ensures.closure (λ x r q k. search (rules, tests)))

pub overflow_add-result : goal.overflow_add-result
overflow_add-result c = let s = is_sum (goal.at.overflow_add-result c).After-sum in let f = few_bytes c.requires in Fits-of_lt (omega arith)

pub returns : goal.returns
returns c = ap (λ sum. 11 + sum) (is_sum (goal.at.returns c).After-sum) ∙ measured c.args.cells.now
