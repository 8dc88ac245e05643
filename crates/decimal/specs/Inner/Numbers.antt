-- The number of a word, by its sign and its digits.
use Rattle.std.specs.Prelude.{ℕ, Bool, true, false, ◌&&◌, List, leb, ℤ, pos, neg_ℤ, Option, Some, None}
use Rattle.numbers.specs.Lists.{every}
use Rattle.numbers.specs.Ranges.{within}
use Rattle.lines.specs.Reading.{is_digit, read_digits}
use Rattle.decimal.specs.Words.{is_some}
use Rattle.decimal.specs.Numbers.{is_sign, number_of}
use Rattle.decimal.specs.Table.{is_value_word}

-- The largest size of a value, that of the least one.
unfoldable pub largest_size : ℕ
largest_size = 2147483648

-- Digits alone, at least one, whose number is no larger.
unfoldable pub is_small : List ℕ → Bool
is_small digits = (is_some digits && every is_digit digits) && leb (read_digits 0 digits) largest_size

unfoldable pub small_number : List ℕ → Option ℕ
small_number digits = elim (is_small digits) [ true ↦ Some (read_digits 0 digits) | false ↦ None ]

-- How many bytes of a word with this first byte are its sign.
unfoldable pub sign_length : ℕ → ℕ
sign_length first = elim (is_sign first) [ true ↦ 1 | false ↦ 0 ]

-- A number of this size.
unfoldable pub signed_size : ℕ → Bool → ℤ
signed_size size negative = elim negative [ true ↦ neg_ℤ (pos size) | false ↦ pos size ]

-- A number of 32 bits.
abbrev pub is_whole : ℤ → Bool
is_whole z = within (neg_ℤ (pos 2147483648)) (pos 2147483647) z

unfoldable pub whole_number : ℤ → Option ℤ
whole_number z = elim (is_whole z) [ true ↦ Some z | false ↦ None ]

unfoldable pub signed_number : ℕ → Bool → Option ℤ
signed_number size negative = whole_number (signed_size size negative)

-- The number of a word that is a value.
unfoldable pub word_number : List ℕ → Option ℤ
word_number word = elim (is_value_word word) [ true ↦ Some (number_of word) | false ↦ None ]
