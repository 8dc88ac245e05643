-- `fronts::sizes_are` meets its contract.
use borrow.Author.Tests.{tests}
use Rattle.std.proofs.Common.{rules, pos}
use Rattle.std.specs.Int.Signed.{mag}
use Rattle.numbers.specs.Ranges.{eq_z}
use Rattle.cases.specs.Rows.{sizes_are}
use Rattle.cases.proofs.fronts.sizes_are.Goals as goal

pub returns : goal.returns
unfolding sizes_are eq_z
returns c = c.holds.ensures pos (λ z. pos (mag z)) (λ found wanted told q. search (rules, tests))
