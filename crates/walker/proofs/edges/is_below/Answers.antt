-- `edges::is_below` meets its contract.
use Rattle.std.proofs.Common.{◌≡◌, false, arith, pos, w32, to_z-of_z}
use Rattle.std.proofs.lemmas.Int.{ints}
use Rattle.std.specs.Int.Signed.{lt_z}
use Rattle.numbers.specs.Ranges.{within}
use Rattle.diagram.proofs.Laws.Checks.{below_count}
use Rattle.walker.proofs.edges.is_below.Goals as goal
use Rattle.walker.proofs.edges.is_below.Goals.{Then-number-ge0}

-- The number is not under 0.
natural : (c : Then-number-ge0) → lt_z c.args.number (pos 0) ≡ false
natural c = let h = rw (to_z-of_z {w = w32} c.ranges.number) at c.if-number-ge0.true in grind (arith, ints)

pub returns-then-number-ge0 : goal.returns-then-number-ge0
returns-then-number-ge0 c = rw (to_z-of_z {w = w32} c.ranges.number) (below_count c.args.count c.args.number c.requires (natural c))

pub returns-else-number-ge0 : goal.returns-else-number-ge0
unfolding within
returns-else-number-ge0 c =
    let h = rw (to_z-of_z {w = w32} c.ranges.number) at c.if-number-ge0.false in rw (to_z-of_z {w = w32} c.ranges.number, h)
