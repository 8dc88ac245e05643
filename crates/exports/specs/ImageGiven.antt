-- How Run's and Expand's answers come back through C: a number as the result, values behind references and in the table buffer.
use Rattle.std.specs.Prelude.{ℕ, ◌≡◌, List, length, ℤ}
use Rattle.image.specs.Run.{run, expand, expand_buffer}
use Rattle.exports.specs.Results.{result_of}
use Rattle.exports.specs.RanGiven.{RanGiven}

-- What Run answers and leaves behind its two references.
unfoldable pub RunGiven : List ℕ → ℕ → ℤ → ℕ → ℕ → ℤ → ℕ → Type 0
RunGiven image x value words result value' words' = RanGiven (run image x) value words result value' words'

-- What Expand answers and leaves in its table buffer.
pub record ExpandGiven (image : List ℕ) (table : List ℤ) (result : ℕ) (table' : List ℤ) : Type 0 where
  pub answered : result ≡ result_of (expand image (length table))
  pub filled : table' ≡ expand_buffer image table
