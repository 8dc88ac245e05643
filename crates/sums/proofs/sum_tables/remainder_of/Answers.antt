-- `sum_tables::remainder_of` meets its contract: the library's Euclidean remainder.
use Rattle.std.proofs.Common.{arith}
use Rattle.std.proofs.lemmas.Int.{to_z-of_z, to_z_pos}
use Rattle.std.proofs.lemmas.Grind.{common_steps}
use Rattle.sums.proofs.Laws.Remainders.{euclidean}
use Rattle.sums.proofs.sum_tables.remainder_of.Goals as goal

pub returns : goal.returns
returns c = let law = euclidean c.args.modulus c.args.value in grind (arith, common_steps, to_z-of_z, to_z_pos)
