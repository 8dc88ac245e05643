use Rattle.std.proofs.Common.{◌≡◌, map, take, pos}
use Rattle.numbers.specs.Lists.{overwritten}
use Rattle.sums.specs.Sums.{remainder_by}
use Rattle.sums.proofs.sum_tables.reduce.Given as goal

abbrev pub invariant-loop-value : goal.invariant-loop-value
invariant-loop-value l = l.table ≡ overwritten l.initial.table 0 (map (λ z. pos (remainder_by l.modulus z)) (take l.value-index l.initial.table))
