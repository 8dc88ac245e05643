-- What is written for a text: the listing of the table that it gives, or the line on which something else was expected.
use Rattle.std.specs.Prelude.{ℕ, ◌≡◌, List, ◌++◌, length, drop, Result, Ok, Err}
use Rattle.decimal.specs.Table.{Read, got, wrong, Table, text_read, input_of}
use Rattle.listing.specs.Listing.{listing}
use Rattle.decimal.specs.declared.Wrong.{Wrong}

unfoldable pub answer_of : Read Table → Result ℕ Wrong
answer_of (got table) = Ok (length (listing (input_of table)))
answer_of (wrong line expected) = Err (record { line = line; expected = expected })

-- The listing stands in front; a text that is no table leaves the bytes alone.
unfoldable pub output_of : Read Table → List ℕ → List ℕ
output_of (got table) out = listing (input_of table) ++ drop (length (listing (input_of table))) out
output_of (wrong line expected) out = out

-- The promise between reading and writing.
pub record ListsText (text out : List ℕ) (answer : Result ℕ Wrong) (out' : List ℕ) : Type 0 where
  pub answered : answer ≡ answer_of (text_read text)
  pub left : out' ≡ output_of (text_read text) out
