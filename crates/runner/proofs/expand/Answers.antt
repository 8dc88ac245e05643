-- `runner::expand` meets its contract: what refuses the image refuses the call.
use Rattle.std.proofs.Common.{sym, length, arith}
use Rattle.std.proofs.lemmas.Grind.{common_steps}
use Rattle.numbers.specs.Refusals.{answer_of, number}
use Rattle.image.proofs.Laws.Reading.{done}
use Rattle.image.proofs.Laws.Running.{check_refuses, expand_refused, expands_refused}
use Rattle.runner.proofs.expand.Goals as goal

pub returns-in_err-check : goal.returns-in_err-check
unfolding answer_of done
returns-in_err-check c =
    let image = c.args.image.now in
    let table = c.args.table.now in
    let r = c.in_err-check.field-0.0 in
    let refuses = check_refuses image (number r) (sym c.in_err-check.ensures) in
    let refused = expands_refused image table r (expand_refused image (length table) (number r) refuses) in
    grind (arith, common_steps)
