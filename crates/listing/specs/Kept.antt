-- What is kept of an input, and what is made of the kept bytes. Which bytes a read puts into a buffer, no contract can say.
use Rattle.std.specs.Prelude.{ℕ, ◌+◌, ◌*◌, ◌^◌, ◌≡◌, List, ◌++◌, length, take, drop}
use Rattle.listing.specs.Listing.{listing}

-- One byte more than the longest admitted input has.
unfoldable pub kept_bytes : ℕ
kept_bytes = 3 + 4 * 2 ^ 11

-- The promise between reading and writing: the listing of the kept bytes stands in front of the text, and it is the listing of every
-- input of which these bytes are kept.
pub record ListsKept (kept text : List ℕ) (count : ℕ) (text' : List ℕ) : Type 0 where
  pub counted : count ≡ length (listing kept)
  pub written : text' ≡ listing kept ++ drop count text
  pub of_whole : (input : List ℕ) → kept ≡ take kept_bytes input → take count text' ≡ listing input
