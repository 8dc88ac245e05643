-- `pairs::pair_run` meets its contract: a good m is small.
use Rattle.std.proofs.Common.{arith, sym}
use Rattle.std.proofs.lemmas.Grind.{common_steps}
use Rattle.pairs.proofs.Laws.Answers.{bits_test}
use Rattle.pairs.proofs.pair_run.Goals as goal

pub overflow_mul-m : goal.overflow_mul-m
overflow_mul-m c = let most = ((bits_test c.args.m).0 (sym c.if-not-is_pair_bits.ensures)).1 in grind (arith, common_steps)
