-- Operands: big-endian numbers of fixed width, signed ones in two's complement.
use Rattle.std.specs.Prelude.{ℕ, zero, suc, ◌+◌, ◌*◌, ◌/◌, ◌%◌, ◌^◌, ◌<◌, List, [], ◌∷◌, length, get_or, take, drop, ℤ}
use Rattle.std.specs.Int.{w32}
use Rattle.std.proofs.Common.{of_z, to_z}

-- So many bytes of a number, the highest first.
unfoldable pub big_endian : ℕ → ℕ → List ℕ
big_endian zero value = []
big_endian (suc count) value = value / 256 ^ count % 256 ∷ big_endian count value

-- A signed number of 4 bytes.
unfoldable pub signed_bytes : ℤ → List ℕ
signed_bytes z = big_endian 4 (of_z w32 z)

-- The number that bytes stand for, the highest first.
unfoldable pub number : List ℕ → ℕ
number [] = 0
number (b ∷ bytes) = b * 256 ^ length bytes + number bytes

-- The unsigned operand of so many bytes at a place.
unfoldable pub unsigned_at : List ℕ → ℕ → ℕ → ℕ
unsigned_at image at count = number (take count (drop at image))

-- The signed operand of 4 bytes at a place.
unfoldable pub signed_at : List ℕ → ℕ → ℤ
signed_at image at = to_z w32 (unsigned_at image at 4)

-- Every element is a byte.
unfoldable pub AreBytes : List ℕ → Type 0
AreBytes image = (i : ℕ) → get_or image i 0 < 256
