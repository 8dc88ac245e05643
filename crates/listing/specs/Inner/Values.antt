-- The values of an input, as they are read.
use Rattle.std.specs.Prelude.{ℕ, ◌+◌, ◌*◌, List, map, ℤ}
use Rattle.numbers.specs.Lists.{numbers_from}
use Rattle.operands.specs.Bytes.{signed_at}

-- The first so many values behind the first two bytes.
unfoldable pub values_of : List ℕ → ℕ → List ℤ
values_of input count = map (λ j. signed_at input (2 + 4 * j)) (numbers_from 0 count)
