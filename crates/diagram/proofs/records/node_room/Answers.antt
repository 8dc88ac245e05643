-- `records::node_room` meets its contract.
use Prim.Native.Nat.{◌-◌, ◌*◌}
use mathlib.Core.Path.{ap}
use native.Mathlib.Omega.{arith}
use lib.Pow.{pow_pos, pow_mono}
use Rattle.diagram.specs.Build.{node_room}
use Rattle.diagram.specs.Records.{record_size}
use Rattle.diagram.proofs.records.node_room.Goals as goal

pub overflow_sub-result : goal.overflow_sub-result
overflow_sub-result c = let e = c.power.ensures in omega (arith, pow_pos c.args.n)

pub overflow_mul-result : goal.overflow_mul-result
overflow_mul-result c = let e = c.power.ensures in let l = pow_mono {i = c.args.n} {j = 12} c.requires in record { fits = omega arith }

pub returns : goal.returns
unfolding node_room record_size
returns c = ap (λ p. 6 * (p - 1)) c.power.ensures
