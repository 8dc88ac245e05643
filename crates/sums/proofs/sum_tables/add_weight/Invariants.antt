use Rattle.std.proofs.Common.{◌≡◌, map, take, ◌+ℤ◌}
use Rattle.numbers.specs.Lists.{overwritten}
use Rattle.sums.proofs.sum_tables.add_weight.Given as goal

abbrev pub invariant-loop-x : goal.invariant-loop-x
invariant-loop-x l = l.table ≡ overwritten l.initial.table l.half (map (λ v. v +ℤ l.weight) (take l.x l.initial.table))
