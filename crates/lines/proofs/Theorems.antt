-- What holds of a number in decimal, for every number, and of lines of text.
use Rattle.std.specs.Prelude.{ℕ, ◌+◌, ◌^◌, ◌≤◌, ◌<◌, ◌≡◌, length, get_or, ℤ, pos, negsuc}
use mathlib.Core.List.{List, ◌∷◌, flat_map}
use Rattle.lines.specs.Reading.{read_decimal, Line, Plain, empty_line, line_text, read_lines}
use Rattle.lines.specs.Text.{decimal}
use Rattle.lines.proofs.Laws.Apart.{plain_lines_back}
use Rattle.lines.proofs.Laws.Decimals as proved

-- Every number is read back from its digits and its sign.
pub number_read_back : (z : ℤ) → read_decimal (decimal z) ≡ z
number_read_back = proved.decimal_back

-- The byte of a decimal digit.
abbrev Digit : ℕ → Type 0
Digit byte = (48 ≤ byte) × (byte ≤ 57)

-- It has digits alone, behind a minus sign where it is negative.
pub number_in_digits : (number : ℕ)
    → ((j : ℕ) → j < length (decimal (pos number)) → Digit (get_or (decimal (pos number)) j 0))
    × (decimal (negsuc number) ≡ 45 ∷ decimal (pos (number + 1)))
number_in_digits = proved.number_in_digits

-- And no digit more than it needs: below 10^k at most k of them, for k from 1.
pub number_no_longer : (k number : ℕ) → 1 ≤ k → number < 10 ^ k → length (decimal (pos number)) ≤ k
number_no_longer = proved.number_no_longer

-- A text of lines whose words have neither spaces nor newline bytes, taken apart into its lines and their fields, gives
-- the words and the numbers back.
pub lines_read_back : (ls : List Line) → ((j : ℕ) → j < length ls → Plain (get_or ls j empty_line))
    → read_lines (flat_map line_text ls) ≡ ls
lines_read_back = plain_lines_back
