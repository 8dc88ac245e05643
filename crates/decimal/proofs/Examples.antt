-- Texts and what they give, by computation.
use Rattle.std.specs.Prelude.{ℕ, ◌≡◌, refl, pos, negsuc}
use mathlib.Core.List.{List, [], ◌∷◌, ◌++◌, flat_map}
use Rattle.lines.specs.Reading.{is_digit, read_digits, pieces, in_front}
use Rattle.numbers.specs.Ranges.{within, most_variables}
use Rattle.numbers.specs.Lists.{every, keep}
use Rattle.lines.specs.Text.{ascii}
use Rattle.operands.specs.Bytes.{big_endian, signed_bytes}
use Rattle.decimal.specs.Words.{words, last_line, is_newline, is_blank, lines_words, line_words, is_some}
use Rattle.decimal.specs.Numbers.{number_of, is_number_from, is_number, is_negative, digits_of, is_sign}
use Rattle.decimal.specs.Table.{Read, got, wrong, text_read, words_read, limit_read, body_read, values_read, is_heading, has_more, is_value_word, Table, input_of, input_room}
use Rattle.decimal.specs.declared.Expected.TheVariants.{Variables, Limit, LineEnd, Value, TextEnd}

-- All that a text's reading computes with: to unfold this is to unfold each.
unfoldable computed : List ℕ → Read Table
unfolding text_read words_read limit_read body_read values_read is_heading has_more is_value_word words last_line pieces is_newline is_blank lines_words line_words in_front is_some number_of is_number_from is_number is_negative digits_of is_sign ascii is_digit read_digits within every keep most_variables
computed text = text_read text

-- The input of a table, byte by byte, and the bytes of the longest.
input_bytes : input_of (record { n = 1; limit = 4; values = negsuc 4 ∷ pos 258 ∷ [] }) ≡ 1 ∷ 4 ∷ 255 ∷ 255 ∷ 255 ∷ 251 ∷ 0 ∷ 0 ∷ 1 ∷ 2 ∷ []
unfolding input_of flat_map signed_bytes big_endian
input_bytes = refl

longest_input : input_room ≡ 16386
unfolding input_room most_variables
longest_input = refl

-- Signs, leading zeros, blanks of each kind and empty lines do not matter.
signs_zeros_blanks : text_read (ascii "1 " ++ ascii "+4" ++ 10 ∷ ascii "-5" ++ 9 ∷ 13 ∷ 10 ∷ 10 ∷ ascii "  008 " ++ 10 ∷ []) ≡ got (record { n = 1; limit = 4; values = negsuc 4 ∷ pos 8 ∷ [] })
unfolding computed
signs_zeros_blanks = refl

-- The least and the largest value.
least_and_largest : text_read (ascii "1 4" ++ 10 ∷ ascii "2147483647 -2147483648" ++ 10 ∷ []) ≡ got (record { n = 1; limit = 4; values = pos 2147483647 ∷ negsuc 2147483647 ∷ [] })
unfolding computed
least_and_largest = refl

-- 40 digits, all but the last of them leading zeros.
forty_digits_fit : text_read (ascii "1 4" ++ 10 ∷ ascii "0000000000000000000000000000000000000007 8" ++ 10 ∷ []) ≡ got (record { n = 1; limit = 4; values = pos 7 ∷ pos 8 ∷ [] })
unfolding computed
forty_digits_fit = refl

-- 40 digits of a number that is too large.
forty_digits_too_large : text_read (ascii "1 4" ++ 10 ∷ ascii "5" ++ 10 ∷ ascii "1000000000000000000000000000000000000000" ++ 10 ∷ []) ≡ wrong 3 Value
unfolding computed
forty_digits_too_large = refl

-- One more than the largest value, and one less than the least.
one_too_large : text_read (ascii "1 4" ++ 10 ∷ ascii "5 2147483648" ++ 10 ∷ []) ≡ wrong 2 Value
unfolding computed
one_too_large = refl

one_too_small : text_read (ascii "1 4" ++ 10 ∷ ascii "5" ++ 10 ∷ ascii "-2147483649" ++ 10 ∷ []) ≡ wrong 3 Value
unfolding computed
one_too_small = refl

-- No text, no n.
empty_text : text_read [] ≡ wrong 1 Variables
unfolding computed
empty_text = refl

-- n 0 and n 13.
n_zero : text_read (ascii "0 4" ++ 10 ∷ ascii "5" ++ 10 ∷ []) ≡ wrong 1 Variables
unfolding computed
n_zero = refl

n_thirteen : text_read (ascii "13 4" ++ 10 ∷ ascii "5" ++ 10 ∷ []) ≡ wrong 1 Variables
unfolding computed
n_thirteen = refl

-- n is on the first line, and so is the limit.
n_on_second_line : text_read (10 ∷ ascii "1 4" ++ 10 ∷ ascii "5 8" ++ 10 ∷ []) ≡ wrong 1 Variables
unfolding computed
n_on_second_line = refl

limit_on_second_line : text_read (ascii "1" ++ 10 ∷ ascii "4 5 8" ++ 10 ∷ []) ≡ wrong 1 Limit
unfolding computed
limit_on_second_line = refl

-- The limit has one byte.
limit_of_a_byte : text_read (ascii "1 255" ++ 10 ∷ ascii "5 8") ≡ got (record { n = 1; limit = 255; values = pos 5 ∷ pos 8 ∷ [] })
unfolding computed
limit_of_a_byte = refl

limit_too_large : text_read (ascii "1 256" ++ 10 ∷ ascii "5 8" ++ 10 ∷ []) ≡ wrong 1 Limit
unfolding computed
limit_too_large = refl

-- A value on the first line.
third_word_on_first_line : text_read (ascii "1 4 5" ++ 10 ∷ ascii "8" ++ 10 ∷ []) ≡ wrong 1 LineEnd
unfolding computed
third_word_on_first_line = refl

-- A value too few: expected where the text ends.
value_missing : text_read (ascii "1 4" ++ 10 ∷ ascii "5" ++ 10 ∷ []) ≡ wrong 3 Value
unfolding computed
value_missing = refl

-- A word too many.
value_too_many : text_read (ascii "1 4" ++ 10 ∷ ascii "5 8" ++ 10 ∷ ascii "9") ≡ wrong 3 TextEnd
unfolding computed
value_too_many = refl

-- A letter, a lone sign, two signs.
letter : text_read (ascii "1 4" ++ 10 ∷ ascii "5" ++ 10 ∷ ascii "8a" ++ 10 ∷ []) ≡ wrong 3 Value
unfolding computed
letter = refl

lone_sign : text_read (ascii "1 4" ++ 10 ∷ ascii "5 -" ++ 10 ∷ []) ≡ wrong 2 Value
unfolding computed
lone_sign = refl

two_signs : text_read (ascii "1 4" ++ 10 ∷ ascii "5 +-8" ++ 10 ∷ []) ≡ wrong 2 Value
unfolding computed
two_signs = refl
