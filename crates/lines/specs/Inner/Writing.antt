-- A piece of text written into a buffer.
use Rattle.std.specs.Prelude.{ℕ, ◌+◌, ◌≡◌, List, ◌∷◌, length, ℤ}
use Rattle.numbers.specs.Lists.{overwritten}
use Rattle.lines.specs.Text.{decimal}

-- The piece stands in the buffer from a place on, all else is as before, and the answer is the place behind it.
pub record Writes (row : List ℕ) (at : ℕ) (piece : List ℕ) (next : ℕ) (row' : List ℕ) : Type 0 where
  pub behind : next ≡ at + length piece
  pub written : row' ≡ overwritten row at piece

-- A field behind its space.
unfoldable pub field : ℤ → List ℕ
field z = 32 ∷ decimal z
