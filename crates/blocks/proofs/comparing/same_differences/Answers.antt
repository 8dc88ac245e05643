-- `comparing::same_differences` meets its contract: past the first values, one constant leads from block to block.
use Rattle.std.proofs.Common.{rules, sym, ◌∙◌, ap, ap₂}
use Rattle.blocks.specs.Blocks.{differences}
use Rattle.blocks.specs.Classes.{same}
use Rattle.blocks.proofs.Laws.Comparing.{none_left, none_right_of_some, by_first_values}
use Rattle.blocks.proofs.comparing.same_differences.Goals as goal

pub returns-in_default : goal.returns-in_default
returns-in_default c = c.is_empty.ensures ∙ none_left c.args.left.now c.args.right.now c.in_default.ensures.cases

pub returns-in_default-split_first : goal.returns-in_default-split_first
returns-in_default-split_first c =
    none_right_of_some c.in-Some.y.now c.in-Some.lefts.now c.args.right.now c.in_default-split_first.ensures.cases
    ∙ ap (λ left. same (differences left) (differences c.args.right.now)) (sym c.in-Some.ensures.cases.0)

pub returns : goal.returns
returns c =
    let y = c.in-Some in
    let z = c.in-Some-split_first in
    let step = by_first_values y.y.now z.z.now y.lefts.now z.rights.now in
    let whole = ap₂ (λ left right. same (differences left) (differences right)) (sym y.ensures.cases.0) (sym z.ensures.cases.0) in
    search rules
