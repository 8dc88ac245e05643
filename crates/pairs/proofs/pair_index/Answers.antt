-- `pairs::pair_index` meets its contract: its numbers are small.
use Rattle.std.proofs.Common.{arith}
use Rattle.std.proofs.Math.Pow.{pow_mono}
use Rattle.std.proofs.lemmas.Grind.{common_steps}
use Rattle.pairs.proofs.Laws.Answers.{bits_test, pair_test}
use Rattle.pairs.proofs.Laws.Indices.{product_small}
use Rattle.pairs.proofs.pair_index.Goals as goal

pub power-requires : goal.power-requires
power-requires c = let most = ((bits_test c.args.m).0 c.requires.0).1 in omega arith

pub overflow_mul-result : goal.overflow_mul-result
overflow_mul-result c =
    let most = ((bits_test c.args.m).0 c.requires.0).1 in
    let inside = (pair_test c.args.m c.args.x c.args.y).0 c.requires.1 in
    let small = product_small c.args.m most c.args.x inside.0 in
    grind (arith, common_steps)

pub overflow_add-result : goal.overflow_add-result
overflow_add-result c =
    let most = ((bits_test c.args.m).0 c.requires.0).1 in
    let inside = (pair_test c.args.m c.args.x c.args.y).0 c.requires.1 in
    let x = product_small c.args.m most c.args.x inside.0 in
    let y = c.ranges.y.fits in
    let side = pow_mono {i = c.args.m} {j = 6} most in
    let below = inside.1 in
    grind (arith, common_steps)
