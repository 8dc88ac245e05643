-- Reach's answer from the class counts of all cuts.
use Rattle.std.specs.Prelude.{ℕ, suc, List}
use Rattle.numbers.specs.Lists.{numbers_from, padded}
use Rattle.reach.specs.Inner.Narrowest.{furthest, widest_above}
use Rattle.reach.specs.declared.Reached.{Reached}
use Rattle.reach.specs.Inner.NarrowCells.{narrowest_in}

-- The number of cuts from 0 to the furthest and the least limit, beside those cuts.
unfoldable pub reached_in : ℕ → ℕ → List ℕ → Reached
reached_in n limit count_row =
    let last = furthest (narrowest_in count_row) limit n in
    record { count = suc last; least = widest_above (narrowest_in count_row) n; cuts = padded 13 0 (numbers_from 0 (suc last)) }
