use Rattle.std.proofs.Common.{ℕ, ◌+◌, ◌*◌, ◌^◌, ◌≤◌, ◌≡◌, List, ℤ}
use Rattle.planner.specs.Inner.Extremes.{extremes_of}
use Rattle.planner.proofs.prices.class_extremes.Given as goal

-- At a place so many steps from the start, the extremes with as many words of the class.
pub record Gathered (n h g class : ℕ) (table : List ℤ) (step start place : ℕ) (low high : ℤ) : Type 0 where
  pub passed : ℕ
  pub most : passed ≤ 2 ^ g
  pub reached : place ≡ start + passed * step
  pub extremes : record { least = low; greatest = high } ≡ extremes_of n table h g (class * 2 ^ g + passed)

abbrev pub invariant-loop-place : goal.invariant-loop-place
invariant-loop-place l = Gathered l.cuts.n l.h l.g l.class l.cuts.table.now l.step l.start l.place (l.least) (l.greatest)
