-- `words::word_block` meets its contract.
use Prim.Native.Nat.{◌+◌, ◌*◌, ◌%◌, ◌^◌}
use mathlib.Core.Path.{◌≡◌}
use native.Mathlib.Omega.{arith}
use lib.Pow.{pow_pos}
use Rattle.numbers.proofs.Laws.Pieces.{shifted_one}
use Rattle.cascade.specs.Inner.Words.{word_block}
use Rattle.cascade.proofs.words.word_block.Goals as goal
use Rattle.cascade.proofs.words.word_block.Goals.{After-in_cut, Start}

-- As many words a class as group values.
values : (c : Start) → 1 * 2 ^ c.args.g % 18446744073709551616 ≡ 2 ^ c.args.g
values c = shifted_one c.args.g c.requires.group

pub overflow_shl-values : goal.overflow_shl-values
overflow_shl-values c = c.requires.group

pub nonzero_div-k : goal.nonzero_div-k
nonzero_div-k c = rw (values (goal.at.nonzero_div-k c).Start) (pow_pos c.args.g)

pub in_cut-requires : goal.in_cut-requires
in_cut-requires c = (c.requires.cut, rw (values (goal.at.in_cut-requires c).Start) c.requires.place)

-- What is worked out.
is_block : (c : After-in_cut) → let a = c.args in c.in_cut.result * (1 * 2 ^ a.g % 18446744073709551616) + a.k % (1 * 2 ^ a.g % 18446744073709551616) ≡ word_block a.firsts.now a.h a.g a.k
unfolding word_block
is_block c = rw (c.in_cut.ensures, values (goal.at.overflow_mul-result c).Start)

pub overflow_mul-result : goal.overflow_mul-result
overflow_mul-result c = let e = is_block c in let b = c.requires.small in record { fits = omega arith }

pub nonzero_rem-result : goal.nonzero_rem-result
nonzero_rem-result c = rw (values (goal.at.nonzero_rem-result c).Start) (pow_pos c.args.g)

pub overflow_add-result : goal.overflow_add-result
overflow_add-result c = let e = is_block c in let b = c.requires.small in record { fits = omega arith }

pub returns : goal.returns
returns c = is_block c
