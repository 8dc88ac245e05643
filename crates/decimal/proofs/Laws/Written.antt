-- Numbers written in decimal are words, and are read back.
use Rattle.std.specs.Prelude.{ℕ, suc, ◌+◌, ◌^◌, ◌/◌, ◌%◌, ◌≤◌, ◌<◌, ◌≡◌, refl, true, false, ◌&&◌, length, get_or, leb, ℤ, pos, negsuc, neg_ℤ}
use Rattle.std.proofs.Common.{sym, ◌∙◌, ap, ap₂, arith, leb-true, le-leb, ne_eqb}
use mathlib.Core.List.{List, [], ◌∷◌, ◌++◌, flat_map, append_assoc}
use Rattle.std.specs.Int.Signed.{mag}
use Rattle.numbers.specs.Conditions.{Variables, Signed32}
use Rattle.numbers.specs.Lists.{every}
use Rattle.numbers.specs.Ranges.{within}
use Rattle.numbers.proofs.Laws.Bools.{both, and_both}
use Rattle.numbers.proofs.Laws.Tests.{every_test, signed_32_test}
use Rattle.lines.specs.Reading.{is_digit, read_digits, read_decimal}
use Rattle.lines.specs.Text.{decimal}
use Rattle.lines.proofs.Laws.Decimals.{decimal_small, decimal_step, decimal_negative, by_digits, digits_alone, decimal_back}
use Rattle.decimal.specs.Words.{is_newline, is_blank, is_some, Word, words, last_line}
use Rattle.decimal.specs.Numbers.{is_sign, digits_of, is_negative, is_number, number_of, is_number_from}
use Rattle.decimal.specs.Table.{got, map_read, Table, is_value_word, values_read, is_heading, has_more, body_read, limit_read, words_read, text_read}
use Rattle.decimal.specs.Text.{value_line, table_text}
use Rattle.decimal.specs.Inner.Numbers.{is_whole}
use Rattle.decimal.specs.Inner.Positions.{is_separator, line_after, words_from}
use Rattle.decimal.proofs.Laws.Words.{is_inner, stops, separator_passed, no_words, word_first}
use Rattle.decimal.proofs.Laws.Values.{value_read}
use Rattle.decimal.proofs.Laws.Tables.{variables_found, limit_found, body_values}

-- ---- a number in decimal is a word

-- A digit is neither a sign nor a separator.
digit_bounds : (byte : ℕ) → is_digit byte ≡ true → (48 ≤ byte) × (byte ≤ 57)
unfolding is_digit
digit_bounds byte e = let parts = both (leb 48 byte) (leb byte 57) e in (leb-true 48 byte parts.0, leb-true byte 57 parts.1)

digit_inner : (byte : ℕ) → is_digit byte ≡ true → is_inner byte ≡ true
unfolding is_inner is_separator is_newline is_blank
digit_inner byte e =
    let bounds = digit_bounds byte e in
    rw (ne_eqb byte 10 (λ q. omega arith), ne_eqb byte 32 (λ q. omega arith), ne_eqb byte 9 (λ q. omega arith), ne_eqb byte 13 (λ q. omega arith))

digit_unsigned : (byte : ℕ) → is_digit byte ≡ true → is_sign byte ≡ false
unfolding is_sign
digit_unsigned byte e =
    let bounds = digit_bounds byte e in
    rw (ne_eqb byte 43 (λ q. omega arith), ne_eqb byte 45 (λ q. omega arith))

digits_inner : (digits : List ℕ) → every is_digit digits ≡ true → every is_inner digits ≡ true
unfolding every
digits_inner [] e = refl
digits_inner (digit ∷ more) e =
    let parts = both (is_digit digit) (every is_digit more) e in
    and_both (is_inner digit) (every is_inner more) (digit_inner digit parts.0) (digits_inner more parts.1)

-- There is a digit.
some_digit : (number : ℕ) → is_some (decimal (pos number)) ≡ true
unfolding is_some
some_digit = by_digits (λ number. is_some (decimal (pos number)) ≡ true) (λ number small. ap is_some (decimal_small number small)) (λ number large before. ap is_some (decimal_step number large) ∙ longer (decimal (pos (number / 10))) (48 + number % 10) before)
  where
    longer : (l : List ℕ) (digit : ℕ) → is_some l ≡ true → is_some (l ++ digit ∷ []) ≡ true
    longer [] digit e = refl
    longer (first ∷ more) digit e = refl

decimal_inner : (z : ℤ) → every is_inner (decimal z) ≡ true
unfolding every is_inner is_separator is_newline is_blank
decimal_inner (pos number) = digits_inner (decimal (pos number)) (digits_alone number)
decimal_inner (negsuc number) = ap (every is_inner) (decimal_negative number) ∙ digits_inner (decimal (pos (suc number))) (digits_alone (suc number))

decimal_some : (z : ℤ) → is_some (decimal z) ≡ true
unfolding is_some
decimal_some (pos number) = some_digit number
decimal_some (negsuc number) = ap is_some (decimal_negative number)

-- ---- its number

-- Digits alone have no sign.
unsigned : (digits : List ℕ) → every is_digit digits ≡ true → digits_of digits ≡ digits
unfolding digits_of every
unsigned [] e = refl
unsigned (digit ∷ more) e = rw (digit_unsigned digit (both (is_digit digit) (every is_digit more) e).0, digits_of)

unsigned_number : (digits : List ℕ) → every is_digit digits ≡ true → number_of digits ≡ read_decimal digits
unfolding number_of is_negative read_decimal read_digits every digits_of
unsigned_number [] e = refl
unsigned_number (digit ∷ more) e =
    let bounds = digit_bounds digit (both (is_digit digit) (every is_digit more) e).0 in
    rw (ne_eqb digit 45 (λ q. omega arith), number_of, read_decimal, unsigned (digit ∷ more) e)

decimal_number : (z : ℤ) → is_number (decimal z) ≡ true
unfolding is_number digits_of is_sign
decimal_number (pos number) = ap (λ digits. is_some digits && every is_digit digits) (unsigned (decimal (pos number)) (digits_alone number)) ∙ and_both (is_some (decimal (pos number))) (every is_digit (decimal (pos number))) (some_digit number) (digits_alone number)
decimal_number (negsuc number) = ap is_number (decimal_negative number) ∙ and_both (is_some (decimal (pos (suc number)))) (every is_digit (decimal (pos (suc number)))) (some_digit (suc number)) (digits_alone (suc number))

decimal_read : (z : ℤ) → number_of (decimal z) ≡ z
unfolding number_of is_negative digits_of is_sign read_decimal
decimal_read (pos number) = unsigned_number (decimal (pos number)) (digits_alone number) ∙ decimal_back (pos number)
decimal_read (negsuc number) = ap number_of (decimal_negative number) ∙ sym (ap read_decimal (decimal_negative number)) ∙ decimal_back (negsuc number)

decimal_from : (low high z : ℤ) → within low high z ≡ true → is_number_from low high (decimal z) ≡ true
unfolding is_number_from
decimal_from low high z e = and_both (is_number (decimal z)) (within low high (number_of (decimal z))) (decimal_number z) (ap (within low high) (decimal_read z) ∙ e)

-- ---- a table

-- A number in front of a separator is the first word, and the separator is passed over.
decimal_first : (line : ℕ) (z : ℤ) (byte : ℕ) (rest : List ℕ) → is_separator byte ≡ true → words_from line (decimal z ++ byte ∷ rest) ≡ record { line = line; bytes = decimal z } ∷ words_from (line_after byte line) rest
unfolding stops
decimal_first line z byte rest e =
    word_first line (decimal z) (byte ∷ rest) (decimal_inner z) (decimal_some z) e
    ∙ ap (λ more. record { line = line; bytes = decimal z } ∷ more) (separator_passed byte line rest e)

value_first : (line : ℕ) (value : ℤ) (values : List ℤ) → words_from line (flat_map value_line (value ∷ values)) ≡ record { line = line; bytes = decimal value } ∷ words_from (suc line) (flat_map value_line values)
unfolding flat_map value_line is_separator is_newline line_after
value_first line value values = ap (words_from line) (append_assoc (decimal value) (10 ∷ []) (flat_map value_line values)) ∙ decimal_first line value 10 (flat_map value_line values) refl

-- Values of 32 bits, a line each.
values_back : (end line : ℕ) (values : List ℤ) → every is_whole values ≡ true → values_read end (length values) (words_from line (flat_map value_line values)) ≡ got values
unfolding flat_map every values_read is_value_word
values_back end line [] e = ap (values_read end 0) (no_words line)
values_back end line (value ∷ values) e =
    let parts = both (is_whole value) (every is_whole values) e in
    let word : Word = record { line = line; bytes = decimal value } in
    let more = words_from (suc line) (flat_map value_line values) in
    ap (values_read end (suc (length values))) (value_first line value values)
    ∙ value_read end (length values) word more (decimal_from (neg_ℤ (pos 2147483648)) (pos 2147483647) value parts.0)
    ∙ ap₂ (λ number read. map_read (λ values. number ∷ values) read) (decimal_read value) (values_back end (suc line) values parts.1)

-- They stand below the first line.
values_below_lem : (values : List ℤ) → has_more (words_from 2 (flat_map value_line values)) ≡ false
unfolding flat_map has_more
values_below_lem [] = ap has_more (no_words 2)
values_below_lem (value ∷ values) = ap has_more (value_first 2 value values)

-- A number from 0 or more as a heading.
decimal_heading : (low high number : ℕ) → low ≤ number → number ≤ high → is_heading low high (record { line = 1; bytes = decimal (pos number) }) ≡ true
unfolding is_heading within
decimal_heading low high number above below =
    decimal_from (pos low) (pos high) (pos number) (and_both (leb low number) (leb number high) (le-leb low number above) (le-leb number high below))

-- The first line.
first_line : (n limit : ℕ) (rest : List ℕ) → words (decimal (pos n) ++ 32 ∷ decimal (pos limit) ++ 10 ∷ rest) ≡ record { line = 1; bytes = decimal (pos n) } ∷ record { line = 1; bytes = decimal (pos limit) } ∷ words_from 2 rest
unfolding words words_from is_separator is_newline is_blank line_after
first_line n limit rest =
    ap words (append_assoc (decimal (pos n)) (32 ∷ decimal (pos limit)) (10 ∷ rest))
    ∙ decimal_first 1 (pos n) 32 (decimal (pos limit) ++ 10 ∷ rest) refl
    ∙ ap (λ more. record { line = 1; bytes = decimal (pos n) } ∷ more) (decimal_first 1 (pos limit) 10 rest refl)

-- A table is read back from its text.
pub table_back : (table : Table) → Variables table.n → table.limit ≤ 255 → length table.values ≡ 2 ^ table.n
    → ((j : ℕ) → j < length table.values → Signed32 (get_or table.values j (pos 0))) → text_read (table_text table) ≡ got table
unfolding text_read table_text Variables
table_back table variables small count fits =
    ap (words_read end) text_words
    ∙ variables_found end (record { line = 1; bytes = decimal (pos table.n) }) (record { line = 1; bytes = decimal (pos table.limit) } ∷ below) (decimal_heading 1 12 table.n variables.0 variables.1)
    ∙ ap (λ n. limit_read end (mag n) (record { line = 1; bytes = decimal (pos table.limit) } ∷ below)) (decimal_read (pos table.n))
    ∙ limit_found end (record { line = 1; bytes = decimal (pos table.limit) }) below table.n (decimal_heading 0 255 table.limit (omega arith) small)
    ∙ ap (λ limit. body_read end table.n (mag limit) below) (decimal_read (pos table.limit))
    ∙ body_values end table.n table.limit below (values_below_lem table.values)
    ∙ ap (map_read (λ values. record { n = table.n; limit = table.limit; values = values })) (ap (λ k. values_read end k below) (sym count) ∙ values_back end 2 table.values ((every_test is_whole table.values (pos 0) signed_32_test).1 fits))
  where
    end : ℕ
    end = last_line (table_text table)

    below : List Word
    below = words_from 2 (flat_map value_line table.values)

    text_words : words (table_text table) ≡ record { line = 1; bytes = decimal (pos table.n) } ∷ record { line = 1; bytes = decimal (pos table.limit) } ∷ below
    text_words = first_line table.n table.limit (flat_map value_line table.values)
