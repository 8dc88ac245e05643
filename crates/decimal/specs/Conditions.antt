-- What a text gives, as plain conditions on its words.
use Rattle.std.specs.Prelude.{ℕ, ◌^◌, ◌≤◌, ◌<◌, ◌≡◌, Bool, true, false, not, List, [], ◌∷◌, ◌++◌, map, length, drop, eqb, ℤ, pos}
use Rattle.numbers.specs.Lists.{every, keep}
use Rattle.decimal.specs.Words.{Word, words, last_line}
use Rattle.decimal.specs.Numbers.{number_of, is_number_from}
use Rattle.decimal.specs.Table.{Read, got, wrong, Table, is_value_word}
use Rattle.decimal.specs.declared.Expected.TheVariants.{Variables, Limit, LineEnd, Value, TextEnd}

-- The words of the first line, and those below it.
unfoldable pub is_first : Word → Bool
is_first word = eqb word.line 1

unfoldable pub is_later : Word → Bool
is_later word = not (is_first word)

unfoldable pub first_words : List ℕ → List Word
first_words text = keep is_first (words text)

unfoldable pub later_words : List ℕ → List Word
later_words text = keep is_later (words text)

-- The first of some words is a number from low to high.
unfoldable pub starts_with : ℕ → ℕ → List Word → Bool
starts_with low high [] = false
starts_with low high (word ∷ more) = is_number_from (pos low) (pos high) word.bytes

-- The first line is n, from 1 to 12, and the limit, of one byte, and nothing else.
pub record HeadIs (text : List ℕ) (n limit : ℕ) : Type 0 where
  pub nWord : Word
  pub limit_word : Word
  pub alone : first_words text ≡ nWord ∷ limit_word ∷ []
  pub n_number : is_number_from (pos 1) (pos 12) nWord.bytes ≡ true
  pub n_is : number_of nWord.bytes ≡ pos n
  pub limit_number : is_number_from (pos 0) (pos 255) limit_word.bytes ≡ true
  pub limit_is : number_of limit_word.bytes ≡ pos limit

-- So many words, all of them values, with these numbers.
pub record ValuesAre (count : ℕ) (later : List Word) (values : List ℤ) : Type 0 where
  pub many : length later ≡ count
  pub all : every (λ word. is_value_word word.bytes) later ≡ true
  pub numbers : map (λ word. number_of word.bytes) later ≡ values

-- The first of some words is no value, and stands on this line; or there is none, and the text ends on it.
abbrev pub NoValue : ℕ → List Word → ℕ → Type 0
NoValue end [] line = line ≡ end
NoValue end (word ∷ more) line = (is_value_word word.bytes ≡ false) × (line ≡ word.line)

-- Fewer values than so many, and then no value.
pub record ValueMissing (end count : ℕ) (later : List Word) (line : ℕ) : Type 0 where
  pub before : List Word
  pub after : List Word
  pub split : later ≡ before ++ after
  pub few : length before < count
  pub all : every (λ word. is_value_word word.bytes) before ≡ true
  pub none : NoValue end after line

-- So many values, and then a word on this line.
pub record WordTooMany (count : ℕ) (later : List Word) (line : ℕ) : Type 0 where
  pub before : List Word
  pub word : Word
  pub after : List Word
  pub split : later ≡ before ++ word ∷ after
  pub many : length before ≡ count
  pub all : every (λ word. is_value_word word.bytes) before ≡ true
  pub here : line ≡ word.line

-- The condition of a refusal for the limit, and of one for the first line's end.
pub record LimitMissing (first : List Word) : Type 0 where
  pub variables : starts_with 1 12 first ≡ true
  pub limit : starts_with 0 255 (drop 1 first) ≡ false

pub record LineTooLong (first : List Word) : Type 0 where
  pub variables : starts_with 1 12 first ≡ true
  pub limit : starts_with 0 255 (drop 1 first) ≡ true
  pub more : 3 ≤ length first

-- The condition of each answer.
abbrev pub Condition : List ℕ → Read Table → Type 0
Condition text (got table) = HeadIs text table.n table.limit × ValuesAre (2 ^ table.n) (later_words text) table.values
Condition text (wrong line Variables) = (line ≡ 1) × (starts_with 1 12 (first_words text) ≡ false)
Condition text (wrong line Limit) = (line ≡ 1) × LimitMissing (first_words text)
Condition text (wrong line LineEnd) = (line ≡ 1) × LineTooLong (first_words text)
Condition text (wrong line Value) = (n : ℕ) × ((limit : ℕ) × (HeadIs text n limit × ValueMissing (last_line text) (2 ^ n) (later_words text) line))
Condition text (wrong line TextEnd) = (n : ℕ) × ((limit : ℕ) × (HeadIs text n limit × WordTooMany (2 ^ n) (later_words text) line))
