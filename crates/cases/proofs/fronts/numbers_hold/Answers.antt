-- `fronts::numbers_hold` meets its contract.
use borrow.Author.Tests.{tests}
use Rattle.std.proofs.Common.{rules, ◌∙◌, ap₂}
use Rattle.std.proofs.lemmas.List.{map-id}
use Rattle.numbers.proofs.Laws.Machine.{bits_equal}
use Rattle.cases.specs.Rows.{number_lent, front_holds}
use Rattle.cases.proofs.fronts.numbers_hold.Goals as goal

pub returns : goal.returns
returns c =
    c.holds.ensures (λ z. z) (λ z. z) (λ found wanted told q. search (rules, tests, bits_equal))
    ∙ ap₂ (front_holds number_lent) (map-id c.args.row.now) (map-id c.args.front.now)
