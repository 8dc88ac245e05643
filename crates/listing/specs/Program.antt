-- The listing function: its answer, and what the lent text buffer then holds.
use Rattle.std.specs.Prelude.{ℕ, ◌≡◌, cond, List, ◌++◌, length, drop, leb, Result, Ok, Err}
use Rattle.listing.specs.Listing.{listing}
use Rattle.listing.specs.declared.TooShort.{TooShort}

-- The bytes of a text buffer that holds the text of every input.
unfoldable pub text_room : ℕ
text_room = 113248

-- The text's length; a buffer that does not hold the text of every input is too short.
unfoldable pub list_answer : List ℕ → ℕ → Result ℕ TooShort
list_answer input room = cond (leb text_room room) (Ok (length (listing input))) (Err (record {}))

-- The text stands in front of the buffer; one that is too short is left alone.
unfoldable pub list_buffer : List ℕ → List ℕ → List ℕ
list_buffer input buffer = cond (leb text_room (length buffer)) (listing input ++ drop (length (listing input)) buffer) buffer

-- The promise of the listing function: its answer, and what its buffer then holds.
pub record Lists (input buffer : List ℕ) (answer : Result ℕ TooShort) (buffer' : List ℕ) : Type 0 where
  pub answered : answer ≡ list_answer input (length buffer)
  pub left : buffer' ≡ list_buffer input buffer
