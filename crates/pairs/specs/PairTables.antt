-- Tables of two variables: the values over X and Y of m bits each, as a table over the index of the pair.
use Rattle.std.specs.Prelude.{ℕ, ◌*◌, ◌^◌, ◌<◌, ◌≡◌, List, length, get_or, ℤ, pos}
use Rattle.numbers.specs.Answers.{accepted}
use Rattle.cascade.specs.Compile.{ImageSummary, compile_answer, compile_buffer, compiled_image}
use Rattle.pairs.specs.Pairs.{pair_index, pair_run}
use Rattle.pairs.specs.Conditions.{Pair}

-- The entry in row X, column Y: the table's value at the index of the pair.
unfoldable pub entry_at : ℕ → List ℤ → ℕ → ℕ → ℤ
entry_at m table x y = get_or table (pair_index m x y) (pos 0)

-- A symmetric table has in row X, column Y what it has in row Y, column X.
unfoldable pub Symmetric : ℕ → List ℤ → Type 0
Symmetric m table = (x y : ℕ) → x < 2 ^ m → y < 2 ^ m → entry_at m table x y ≡ entry_at m table y x

-- Every pair gives the entry in row X, column Y on an image, with so many words read.
abbrev pub GivesEntries : ℕ → List ℤ → List ℕ → ℕ → Type 0
GivesEntries m table image words =
    (x y : ℕ) → Pair m x y → pair_run m image x y ≡ accepted (record { value = entry_at m table x y; words = words })

-- Compile gives an image of the table into a buffer, and on this image every pair its entry.
pub record CompilesPairs (m : ℕ) (table : List ℤ) (limit : ℕ) (buffer : List ℕ) (words : ℕ) : Type 0 where
  pub summary : ImageSummary
  pub compiled : compile_answer (2 * m) table limit (length buffer) ≡ accepted summary
  pub entries : GivesEntries m table (compiled_image summary (compile_buffer (2 * m) table limit buffer)) words
