-- What is kept of the input. Which bytes a read puts into a buffer, no contract can say.
use Rattle.std.specs.Prelude.{ℕ, ◌≤◌, ◌≡◌, List, length, Result, Ok, Err}
use Rattle.std.specs.declared.io.Error.{Error}

-- No more bytes are kept than there is room for.
unfoldable pub KeptWithin : ℕ → Result ℕ Error → Type 0
KeptWithin room (Ok count) = count ≤ room
KeptWithin room (Err error) = Unit {0}

-- What reading the input leaves in a buffer of so many bytes: how many of them are the input's.
pub record Keeps (size : ℕ) (buffer : List ℕ) (input : Result ℕ Error) : Type 0 where
  pub room : length buffer ≡ size
  pub within : KeptWithin size input
