-- What a text gives: a table, or the first line on which something else was expected, and what.
use Rattle.std.specs.Prelude.{ℕ, zero, suc, ◌+◌, ◌*◌, ◌^◌, ◌≡◌, Bool, true, false, ◌&&◌, cond, length, drop, leb, eqb, ℤ, pos, neg_ℤ, Result, Ok, Err}
use mathlib.Core.List.{List, [], ◌∷◌, ◌++◌, flat_map}
use Rattle.std.specs.Int.Signed.{mag}
use Rattle.numbers.specs.Ranges.{most_variables}
use Rattle.operands.specs.Bytes.{signed_bytes}
use Rattle.decimal.specs.Words.{Word, words, last_line}
use Rattle.decimal.specs.Numbers.{number_of, is_number_from}
use Rattle.decimal.specs.declared.Expected.{Expected}
use Rattle.decimal.specs.declared.Expected.TheVariants.{Variables, Limit, LineEnd, Value, TextEnd}
use Rattle.decimal.specs.declared.ParseError.{ParseError}
use Rattle.decimal.specs.declared.ParseError.TheVariants.{Wrong, TooShort}

-- The number that a refusal of a text prints: 1 to 14 and those that follow them are the paper's.
unfoldable pub refusal_number : Expected → ℕ
refusal_number Variables = 101
refusal_number Limit = 102
refusal_number LineEnd = 103
refusal_number Value = 104
refusal_number TextEnd = 105

-- What is read, or the line on which something else was expected.
pub data Read (A : Type 0) : Type 0 where
  got : A → Read A
  wrong : ℕ → Expected → Read A

abbrev pub map_read : {A B : Type 0} → (A → B) → Read A → Read B
map_read f (got a) = got (f a)
map_read f (wrong line expected) = wrong line expected

-- n, the address limit, and the values.
pub record Table : Type 0 where
  pub n : ℕ
  pub limit : ℕ
  pub values : List ℤ

-- A value: any whole number of 32 bits. Which of them a table may have is for the operations to say.
unfoldable pub is_value_word : List ℕ → Bool
is_value_word word = is_number_from (neg_ℤ (pos 2147483648)) (pos 2147483647) word

-- So many values, and then no word more.
unfoldable pub values_read : ℕ → ℕ → List Word → Read (List ℤ)
values_read end zero [] = got []
values_read end zero (word ∷ more) = wrong word.line TextEnd
values_read end (suc count) [] = wrong end Value
values_read end (suc count) (word ∷ more) = elim (is_value_word word.bytes) [ true ↦ map_read (λ values. number_of word.bytes ∷ values) (values_read end count more) | false ↦ wrong word.line Value ]

-- A word of the first line that is a number from 0 or more to high.
unfoldable pub is_heading : ℕ → ℕ → Word → Bool
is_heading low high word = eqb word.line 1 && is_number_from (pos low) (pos high) word.bytes

-- More words on the first line.
unfoldable pub has_more : List Word → Bool
has_more [] = false
has_more (word ∷ more) = eqb word.line 1

-- What follows n and the limit: nothing on their line, then 2^n values.
unfoldable pub body_read : ℕ → ℕ → ℕ → List Word → Read Table
body_read end n limit more = elim (has_more more) [ true ↦ wrong 1 LineEnd | false ↦ map_read (λ values. record { n = n; limit = limit; values = values }) (values_read end (2 ^ n) more) ]

-- What follows n: the limit, any number of one byte.
unfoldable pub limit_read : ℕ → ℕ → List Word → Read Table
limit_read end n [] = wrong 1 Limit
limit_read end n (word ∷ more) = elim (is_heading 0 255 word) [ true ↦ body_read end n (mag (number_of word.bytes)) more | false ↦ wrong 1 Limit ]

-- The first line has n and the limit; the values follow on lines of their own.
unfoldable pub words_read : ℕ → List Word → Read Table
words_read end [] = wrong 1 Variables
words_read end (word ∷ more) = elim (is_heading 1 most_variables word) [ true ↦ limit_read end (mag (number_of word.bytes)) more | false ↦ wrong 1 Variables ]

unfoldable pub text_read : List ℕ → Read Table
text_read text = words_read (last_line text) (words text)

-- The listing's input for a table: n, the limit, then the values, 4 bytes each.
unfoldable pub input_of : Table → List ℕ
input_of table = table.n ∷ table.limit ∷ flat_map signed_bytes table.values

-- The bytes of the longest input.
unfoldable pub input_room : ℕ
input_room = 2 + 4 * 2 ^ most_variables

-- The answer for what a text gives.
unfoldable pub parsed : Read Table → Result ℕ ParseError
parsed (got table) = Ok (length (input_of table))
parsed (wrong line expected) = Err (Wrong (record { line = line; expected = expected }))

-- What the buffer then holds: the input in front, or what it held.
unfoldable pub parsed_buffer : Read Table → List ℕ → List ℕ
parsed_buffer (got table) buffer = input_of table ++ drop (length (input_of table)) buffer
parsed_buffer (wrong line expected) buffer = buffer

-- The promise of reading a text into a lent buffer; one that does not hold every input is too short, and left alone.
pub record Reads (text buffer : List ℕ) (answer : Result ℕ ParseError) (buffer' : List ℕ) : Type 0 where
  pub answered : answer ≡ cond (leb input_room (length buffer)) (parsed (text_read text)) (Err TooShort)
  pub left : buffer' ≡ cond (leb input_room (length buffer)) (parsed_buffer (text_read text) buffer) buffer

-- The values in front, so many at most.
unfoldable pub values_found : ℕ → List Word → List ℤ
values_found zero words = []
values_found (suc count) [] = []
values_found (suc count) (word ∷ more) = elim (is_value_word word.bytes) [ true ↦ number_of word.bytes ∷ values_found count more | false ↦ [] ]
