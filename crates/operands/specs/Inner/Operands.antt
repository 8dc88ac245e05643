-- What reading an operand promises.
use Rattle.std.specs.Prelude.{ℕ, ◌^◌, ◌<◌, ◌≡◌, List}
use Rattle.operands.specs.Bytes.{unsigned_at}

-- An operand of so many bytes.
pub record Operand (image : List ℕ) (at count r : ℕ) : Type 0 where
  pub read : r ≡ unsigned_at image at count
  pub small : r < 256 ^ count
