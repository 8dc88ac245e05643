-- What a known case of an answer says.
use Rattle.std.specs.Prelude.{ℕ, ◌≤◌, ◌<◌, ◌≡◌, Result, Ok, Option, Some}
use Rattle.std.specs.declared.io.Error.{Error}
use Rattle.std.proofs.Common.{subst}
use Rattle.stdin.specs.Inner.{PieceWithin}
use Rattle.stdin.specs.Input.{KeptWithin}

-- The bytes of a piece.
pub piece_bytes : (room : ℕ) (piece : Result (Option ℕ) Error) (count : ℕ) → PieceWithin room piece → piece ≡ Ok (Some count) → (0 < count) × (count ≤ room)
unfolding PieceWithin
piece_bytes room piece count within is = subst (PieceWithin room) is within

-- The count of the kept bytes.
pub kept_count : (room : ℕ) (input : Result ℕ Error) (count : ℕ) → KeptWithin room input → input ≡ Ok count → count ≤ room
unfolding KeptWithin
kept_count room input count within is = subst (KeptWithin room) is within
