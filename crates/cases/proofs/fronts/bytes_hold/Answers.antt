-- `fronts::bytes_hold` meets its contract.
use borrow.Author.Tests.{tests}
use Rattle.std.proofs.Common.{rules, ◌≡◌, ◌∙◌, ap, map, pos, w32, to_z, of_z}
use Rattle.std.proofs.lemmas.List.{map-id}
use Rattle.numbers.proofs.Laws.Machine.{bits_equal}
use Rattle.cases.specs.Rows.{byte_lent, front_holds}
use Rattle.cases.proofs.fronts.bytes_hold.Goals as goal

pub returns : goal.returns
returns c =
    let lent : to_z w32 (of_z w32 c.from.result) ≡ pos byte_lent = search rules in
    c.holds.ensures pos (λ z. z) (λ found wanted told q. search (rules, tests, bits_equal))
    ∙ ap (λ z. front_holds z (map pos c.args.row.now) (map (λ z. z) c.args.front.now)) lent
    ∙ ap (front_holds (pos byte_lent) (map pos c.args.row.now)) (map-id c.args.front.now)
