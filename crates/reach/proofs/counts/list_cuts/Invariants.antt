use mathlib.Core.Path.{◌≡◌}
use Rattle.numbers.specs.Lists.{numbers_from, padded}
use Rattle.reach.proofs.counts.list_cuts.Given as goal

abbrev pub invariant-loop-h : goal.invariant-loop-h
invariant-loop-h l = l.cuts ≡ padded 13 0 (numbers_from 0 l.h)
