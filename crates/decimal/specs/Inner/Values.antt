-- The values of a text, and the buffer for its input.
use Rattle.std.specs.Prelude.{ℕ, ◌+◌, ◌*◌, ◌^◌, ◌≤◌, ◌≡◌, List, length, ℤ, Result, Ok, Err}
use Rattle.numbers.specs.Lists.{overwritten}
use Rattle.decimal.specs.Words.{last_line}
use Rattle.decimal.specs.Table.{Read, got, wrong, map_read, Table, values_read, limit_read, input_of, input_room, parsed_buffer, values_found}
use Rattle.decimal.specs.declared.Position.{Position}
use Rattle.decimal.specs.declared.Wrong.{Wrong}
use Rattle.decimal.specs.Inner.Positions.{words_at}

-- So many values from a place on, and then nothing more.
abbrev pub values_at : List ℕ → Position → ℕ → Read (List ℤ)
values_at text place count = values_read (last_line text) count (words_at text place)

-- The table of n, the limit and the values from a place on the first line.
abbrev pub table_at : List ℕ → ℕ → ℕ → ℕ → Read Table
table_at text at n limit = map_read (λ values. record { n = n; limit = limit; values = values }) (values_at text (record { at = at; line = 1 }) (2 ^ n))

-- What follows n, from a place on the first line.
abbrev pub limit_at : List ℕ → ℕ → ℕ → Read Table
limit_at text at n = limit_read (last_line text) n (words_at text (record { at = at; line = 1 }))

-- The answer for what values give.
unfoldable pub body_judged : {A : Type 0} → Read A → Result Unit Wrong
body_judged (got a) = Ok tt
body_judged (wrong line expected) = Err (record { line = line; expected = expected })

-- The answer for a table: the length of its input.
unfoldable pub table_judged : Read Table → Result ℕ Wrong
table_judged (got table) = Ok (length (input_of table))
table_judged (wrong line expected) = Err (record { line = line; expected = expected })

-- Whether the values from a place on are all there, and the row with those found in front.
pub record ReadsValues (text : List ℕ) (place : Position) (count : ℕ) (row : List ℤ) (answer : Result Unit Wrong) (row' : List ℤ) : Type 0 where
  pub answered : answer ≡ body_judged (values_at text place count)
  pub left : row' ≡ overwritten row 0 (values_found count (words_at text place))

-- The answer for what was read, and the buffer.
pub record Answers (read : Read Table) (buffer : List ℕ) (answer : Result ℕ Wrong) (buffer' : List ℕ) : Type 0 where
  pub answered : answer ≡ table_judged read
  pub left : buffer' ≡ parsed_buffer read buffer

-- A table of bytes, and a buffer that holds its input.
pub record InputReady (n limit : ℕ) (values : List ℤ) (buffer : List ℕ) : Type 0 where
  pub n_byte : n ≤ 255
  pub limit_byte : limit ≤ 255
  pub room : 2 + 4 * length values ≤ length buffer

-- n is read, and the buffer holds every input.
pub record LimitReady (n : ℕ) (buffer : List ℕ) : Type 0 where
  pub few : n ≤ 12
  pub room : input_room ≤ length buffer

-- n and the limit are read, and the buffer holds every input.
pub record BodyReady (n limit : ℕ) (buffer : List ℕ) : Type 0 where
  pub few : n ≤ 12
  pub limit_byte : limit ≤ 255
  pub room : input_room ≤ length buffer
