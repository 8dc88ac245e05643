-- The bits of an unsigned part, from which both widths are worked out. The unsigned part of an integer (`mag`) is what two's complement writes
-- beside the sign: n both for n and for -(n + 1).
use Rattle.std.specs.Prelude.{ℕ, ◌^◌, max, List, [], ◌∷◌, ltb, ℤ}
use Rattle.std.specs.Int.Signed.{mag}
use Rattle.numbers.specs.Lists.{least}

-- The least number of bits that holds a number, unsigned.
unfoldable pub bit_length : ℕ → ℕ
bit_length number = least (λ k. ltb number (2 ^ k)) number

-- The greatest unsigned part of a cell's weights.
unfoldable pub greatest_part : List ℤ → ℕ
greatest_part [] = 0
greatest_part (z ∷ weights) = max (mag z) (greatest_part weights)
