-- What one read promises.
use Rattle.std.specs.Prelude.{ℕ, ◌≤◌, ◌<◌, Result, Ok, Err, Option, Some, None}
use Rattle.std.specs.declared.io.Error.{Error}

-- A read that gives bytes gives at least one, and no more than there is room for.
unfoldable pub PieceWithin : ℕ → Result (Option ℕ) Error → Type 0
PieceWithin room (Ok (Some count)) = (0 < count) × (count ≤ room)
PieceWithin room (Ok None) = Unit {0}
PieceWithin room (Err error) = Unit {0}
