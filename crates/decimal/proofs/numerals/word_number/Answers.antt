-- `numerals::word_number` meets its contract: what digits give is a size of a value.
use Rattle.std.proofs.Common.{sym, drop}
use Rattle.decimal.specs.Inner.Numbers.{largest_size}
use Rattle.decimal.proofs.Laws.Numbers.{small_few}
use Rattle.decimal.proofs.numerals.word_number.Goals as goal

pub signed-requires : goal.signed-requires
unfolding largest_size
signed-requires c = rw (sym c.in_ok-size.ensures) at (small_few (drop c.sign_length.result c.args.word.now))
