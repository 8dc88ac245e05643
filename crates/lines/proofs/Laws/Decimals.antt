-- Decimals: digit by digit, read back, and how long they are at most.
use Rattle.std.specs.Prelude.{ℕ, zero, suc, ◌+◌, ◌-◌, ◌*◌, ◌/◌, ◌%◌, ◌^◌, ◌≤◌, ◌<◌, ◌≡◌, refl, ◌↔◌, Bool, true, List, [], ◌∷◌, ◌++◌, length, get_or, leb, ltb, ℤ, pos, negsuc, neg_ℤ}
use Rattle.std.proofs.Common.{sym, ◌∙◌, ap, add-one, arith, length-append, lt-ltb, le-ltb, ltb-true, ltb-false, le-leb, leb-true, ne_eqb}
use Rattle.numbers.specs.Lists.{every}
use Rattle.numbers.proofs.Laws.Bools.{yes_or_no, both, and_both}
use Rattle.numbers.proofs.Laws.Tests.{le_test, and_test, every_test}
use Rattle.lines.specs.Reading.{is_digit, read_digits, read_decimal}
use Rattle.lines.specs.Text.{decimal_digits, decimal}

-- ---- digit by digit

-- A number below ten is one digit.
one_digit : (count number : ℕ) → number < 10 → decimal_digits (suc count) number ≡ (48 + number) ∷ []
unfolding decimal_digits
one_digit count number small = rw (lt-ltb number 10 small, decimal_digits)

-- The last digit of any other number stands behind those of its tenth.
last_digit : (count number : ℕ) → 10 ≤ number → decimal_digits (suc count) number ≡ decimal_digits count (number / 10) ++ (48 + number % 10) ∷ []
unfolding decimal_digits
last_digit count number large = rw (le-ltb number 10 large, decimal_digits)

-- How many digits are allowed for does not matter where they are more than the number.
enough_digits : (count other number : ℕ) → number < count → number < other → decimal_digits count number ≡ decimal_digits other number
enough_digits (suc count) (suc other) number left right =
    yes_or_no (ltb number 10)
    (λ small. let s = ltb-true number 10 small in one_digit count number s ∙ sym (one_digit other number s))
    (λ large.
    let l = ltb-false number 10 large in
    last_digit count number l ∙ ap (λ front. front ++ (48 + number % 10) ∷ []) (enough_digits count other (number / 10) (omega arith) (omega arith)) ∙ sym (last_digit other number l))
enough_digits zero other number left right = absurd (omega arith)
enough_digits (suc count) zero number left right = absurd (omega arith)

-- The decimal of a number below ten.
pub decimal_small : (number : ℕ) → number < 10 → decimal (pos number) ≡ (48 + number) ∷ []
unfolding decimal
decimal_small number small = one_digit number number small

-- The decimal of any other number: that of its tenth, and its last digit.
pub decimal_step : (number : ℕ) → 10 ≤ number → decimal (pos number) ≡ decimal (pos (number / 10)) ++ (48 + number % 10) ∷ []
unfolding decimal
decimal_step number large =
    last_digit number number large
    ∙ ap (λ front. front ++ (48 + number % 10) ∷ []) (enough_digits number (suc (number / 10)) (number / 10) (omega arith) (omega arith))

-- A negative number has a minus sign in front.
pub decimal_negative : (number : ℕ) → decimal (negsuc number) ≡ 45 ∷ decimal (pos (suc number))
unfolding decimal
decimal_negative number = refl

-- What holds of the numbers below ten, and of a number if of its tenth, holds of all.
pub by_digits : (P : ℕ → Type 0) → ((number : ℕ) → number < 10 → P number) → ((number : ℕ) → 10 ≤ number → P (number / 10) → P number) → (number : ℕ) → P number
by_digits P small step number = below (suc number) number (omega arith)
  where
    below : (count number : ℕ) → number < count → P number
    below zero number l = absurd (omega arith)
    below (suc count) number l =
        yes_or_no (ltb number 10)
        (λ s. small number (ltb-true number 10 s))
        (λ b. let large = ltb-false number 10 b in step number large (below count (number / 10) (omega arith)))

-- ---- read back

-- One digit more.
read_last : (l : List ℕ) (so_far digit : ℕ) → read_digits so_far (l ++ digit ∷ []) ≡ 10 * read_digits so_far l + (digit - 48)
unfolding read_digits
read_last [] so_far digit = refl
read_last (d ∷ l) so_far digit = read_last l (10 * so_far + (d - 48)) digit

-- The digits of a number give it back.
digits_back : (number : ℕ) → read_digits 0 (decimal (pos number)) ≡ number
unfolding read_digits
digits_back = by_digits (λ number. read_digits 0 (decimal (pos number)) ≡ number) small step
  where
    small : (number : ℕ) → number < 10 → read_digits 0 (decimal (pos number)) ≡ number
    small number s = ap (read_digits 0) (decimal_small number s) ∙ omega arith

    step : (number : ℕ) → 10 ≤ number → read_digits 0 (decimal (pos (number / 10))) ≡ number / 10 → read_digits 0 (decimal (pos number)) ≡ number
    step number l before = ap (read_digits 0) (decimal_step number l) ∙ read_last (decimal (pos (number / 10))) 0 (48 + number % 10) ∙ omega arith

-- One element more.
every_last : (test : ℕ → Bool) (l : List ℕ) (a : ℕ) → every test l ≡ true → test a ≡ true → every test (l ++ a ∷ []) ≡ true
unfolding every
every_last test [] a some t = and_both (test a) true t refl
every_last test (b ∷ l) a some t = let parts = both (test b) (every test l) some in and_both (test b) (every test (l ++ a ∷ [])) parts.0 (every_last test l a parts.1 t)

-- A number of one digit, as its byte.
digit : (value : ℕ) → value < 10 → is_digit (48 + value) ≡ true
unfolding is_digit
digit value small = and_both (leb 48 (48 + value)) (leb (48 + value) 57) (le-leb 48 (48 + value) (omega arith)) (le-leb (48 + value) 57 (omega arith))

-- A number is written in digits alone.
pub digits_alone : (number : ℕ) → every is_digit (decimal (pos number)) ≡ true
unfolding every
digits_alone = by_digits (λ number. every is_digit (decimal (pos number)) ≡ true) small step
  where
    small : (number : ℕ) → number < 10 → every is_digit (decimal (pos number)) ≡ true
    small number s = ap (every is_digit) (decimal_small number s) ∙ every_last is_digit [] (48 + number) refl (digit number s)

    step : (number : ℕ) → 10 ≤ number → every is_digit (decimal (pos (number / 10))) ≡ true → every is_digit (decimal (pos number)) ≡ true
    step number l before = ap (every is_digit) (decimal_step number l) ∙ every_last is_digit (decimal (pos (number / 10))) (48 + number % 10) before (digit (number % 10) (omega arith))

-- Byte by byte, behind a minus sign where it is negative.
digit_test : (byte : ℕ) → (is_digit byte ≡ true) ↔ ((48 ≤ byte) × (byte ≤ 57))
unfolding is_digit
digit_test byte = and_test (leb 48 byte) (leb byte 57) (le_test 48 byte) (le_test byte 57)

pub number_in_digits : (number : ℕ) → ((j : ℕ) → j < length (decimal (pos number)) → (48 ≤ get_or (decimal (pos number)) j 0) × (get_or (decimal (pos number)) j 0 ≤ 57)) × (decimal (negsuc number) ≡ 45 ∷ decimal (pos (number + 1)))
number_in_digits number = ((every_test is_digit (decimal (pos number)) 0 digit_test).0 (digits_alone number), rw add-one (decimal_negative number))

-- Digits alone have no sign.
unsigned_read : (l : List ℕ) → every is_digit l ≡ true → read_decimal l ≡ pos (read_digits 0 l)
unfolding read_decimal read_digits every is_digit
unsigned_read [] some = refl
unsigned_read (byte ∷ more) some =
    let parts = both (is_digit byte) (every is_digit more) some in
    let digit = leb-true 48 byte (both (leb 48 byte) (leb byte 57) parts.0).0 in
    rw (ne_eqb byte 45 (λ e. omega arith), read_decimal)

-- Every integer is read back from its decimal.
pub decimal_back : (z : ℤ) → read_decimal (decimal z) ≡ z
unfolding read_decimal
decimal_back (pos number) = unsigned_read (decimal (pos number)) (digits_alone number) ∙ ap pos (digits_back number)
decimal_back (negsuc number) = signed ∙ ap (λ size. neg_ℤ (pos size)) (digits_back (suc number))
  where
    signed : read_decimal (decimal (negsuc number)) ≡ neg_ℤ (pos (read_digits 0 (decimal (pos (suc number)))))
    signed = ap read_decimal (decimal_negative number)

-- ---- lengths

-- A number below 10^k, of k digits at least 1, has at most k digits.
pub decimal_length : (k number : ℕ) → number < 10 ^ suc k → length (decimal (pos number)) ≤ suc k
decimal_length zero number l = rw (decimal_small number (omega arith)) (omega arith)
decimal_length (suc k) number l =
    yes_or_no (ltb number 10)
    (λ small. rw (decimal_small number (ltb-true number 10 small)) (omega arith))
    (λ large.
    let before = decimal_length k (number / 10) (omega arith) in
    rw (decimal_step number (ltb-false number 10 large), length-append) (omega arith))

pub number_no_longer : (k number : ℕ) → 1 ≤ k → number < 10 ^ k → length (decimal (pos number)) ≤ k
number_no_longer zero number one l = absurd (omega arith)
number_no_longer (suc k) number one l = decimal_length k number l
