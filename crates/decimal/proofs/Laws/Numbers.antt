-- The number of a word: digit by digit, and with its sign.
use Rattle.std.specs.Prelude.{ℕ, zero, suc, ◌+◌, ◌-◌, ◌*◌, ◌≤◌, ◌<◌, ◌≡◌, refl, Bool, true, ◌&&◌, List, [], ◌∷◌, length, get_or, drop, eqb, ℤ, pos, negsuc, neg_ℤ, ◌-ℤ◌, slice_get, Some, None}
use Rattle.std.specs.Bool.{then_some}
use Rattle.std.specs.Option.{unwrap_or}
use Rattle.std.proofs.Math.Path.{sym, ap}
use Rattle.std.proofs.Common.{◌∙◌, le_refl, arith, leb-true, le-leb, leb-false, w32}
use mir.Val.{SFits, to_z, of_z}
use mir.Facts.{to_z_pos, to_z-of_z}
use Rattle.std.proofs.Math.Bool.{false}
use Rattle.std.proofs.Math.ListN.{drop_of_length-le}
use Rattle.std.proofs.Math.Dec.{leb}
use Rattle.std.proofs.lemmas.Bool.{lt-leb}
use Rattle.std.proofs.lemmas.Int.{ints}
use Rattle.numbers.specs.Lists.{every}
use Rattle.numbers.specs.Ranges.{within}
use Rattle.numbers.proofs.Laws.Bools.{yes_or_no, both, and_both}
use Rattle.lines.specs.Reading.{is_digit, read_digits}
use Rattle.decimal.specs.Words.{is_some}
use Rattle.decimal.specs.Numbers.{is_sign, digits_of, is_negative, is_number, number_of, is_number_from}
use Rattle.decimal.specs.Table.{is_value_word}
use Rattle.decimal.specs.Inner.Numbers.{is_whole, largest_size, is_small, small_number, sign_length, signed_size, whole_number, signed_number, word_number}
use Rattle.decimal.proofs.Laws.Positions.{byte_there}

-- ---- digit by digit

-- More digits make a number no smaller.
read_grows : (so_far : ℕ) (digits : List ℕ) → so_far ≤ read_digits so_far digits
unfolding read_digits
read_grows so_far [] = le_refl so_far
read_grows so_far (digit ∷ more) = let g = read_grows (10 * so_far + (digit - 48)) more in omega arith

-- The digits so far, and those that are left.
pub record DigitsSoFar (word : List ℕ) (start at value : ℕ) : Type 0 where
  pub inside : at ≤ length word
  pub small : value ≤ 2147483648
  pub alone : every is_digit (drop start word) ≡ every is_digit (drop at word)
  pub read : read_digits 0 (drop start word) ≡ read_digits value (drop at word)

small_is : (digits : List ℕ) → is_small digits ≡ true → small_number digits ≡ Some (read_digits 0 digits)
unfolding small_number
small_is digits e = rw (e, small_number)

not_small : (digits : List ℕ) → is_small digits ≡ false → small_number digits ≡ None
unfolding small_number
not_small digits e = rw (e, small_number)

-- Two tests do not both pass where the second fails.
pub one_fails : (a b : Bool) → b ≡ false → (a && b) ≡ false
one_fails true b e = e
one_fails false b e = refl

module _ (word : List ℕ) (start : ℕ) where
  pub no_digits : length word ≤ start → small_number (drop start word) ≡ None
  unfolding small_number is_small is_some
  no_digits l = ap small_number (drop_of_length-le word l)

  pub digits_start : start ≤ length word → DigitsSoFar word start start 0
  digits_start l = record { inside = l; small = omega arith; alone = refl; read = refl }

  module _ {at value : ℕ} (d : DigitsSoFar word start at value) where
    module _ (l : at < length word) where
      -- One digit more.
      pub digit_read : is_digit (get_or word at 0) ≡ true → 10 * value + (get_or word at 0 - 48) ≤ 2147483648 → DigitsSoFar word start (at + 1) (10 * value + (get_or word at 0 - 48))
      unfolding every read_digits
      digit_read e small = record {
        inside = omega arith;
        small = small;
        alone = d.alone ∙ ap (every is_digit) (byte_there word at l) ∙ rw e;
        read = d.read ∙ ap (read_digits value) (byte_there word at l);
      }

      -- Another byte.
      pub other_byte : is_digit (get_or word at 0) ≡ false → small_number (drop start word) ≡ None
      unfolding is_small every
      other_byte e =
          let none : every is_digit (drop start word) ≡ false = d.alone ∙ ap (every is_digit) (byte_there word at l) ∙ rw e in
          not_small (drop start word) (ap (λ b. b && leb (read_digits 0 (drop start word)) largest_size) (one_fails (is_some (drop start word)) (every is_digit (drop start word)) none))

      -- A digit that makes the number too large: no further digit makes it smaller.
      pub digit_too_many : 2147483648 < 10 * value + (get_or word at 0 - 48) → small_number (drop start word) ≡ None
      unfolding is_small read_digits largest_size
      digit_too_many large =
          let same = d.read ∙ ap (read_digits value) (byte_there word at l) in
          let grows = read_grows (10 * value + (get_or word at 0 - 48)) (drop (at + 1) word) in
          not_small (drop start word) (one_fails (is_some (drop start word) && every is_digit (drop start word)) (leb (read_digits 0 (drop start word)) 2147483648) (lt-leb (read_digits 0 (drop start word)) 2147483648 (omega arith)))

    pub digits_read : start < length word → length word ≤ at → small_number (drop start word) ≡ Some value
    unfolding is_small every read_digits is_some largest_size
    digits_read some l =
        let none = drop_of_length-le word l in
        let value_is = d.read ∙ ap (read_digits value) none in
        let small = d.small in
        small_is (drop start word)
        (and_both (is_some (drop start word) && every is_digit (drop start word)) (leb (read_digits 0 (drop start word)) 2147483648)
        (and_both (is_some (drop start word)) (every is_digit (drop start word)) (ap is_some (byte_there word start some)) (d.alone ∙ ap (every is_digit) none))
        (le-leb (read_digits 0 (drop start word)) 2147483648 (omega arith)))
        ∙ ap Some value_is

-- ---- the sign

-- A number with a sign, of 32 bits or not.
whole_is : (z : ℤ) → is_whole z ≡ true → whole_number z ≡ Some z
unfolding whole_number
whole_is z e = rw (e, whole_number)

not_whole : (z : ℤ) → is_whole z ≡ false → whole_number z ≡ None
unfolding whole_number
not_whole z e = rw (e, whole_number)

-- -1 less a number.
pub minus_one_less : (m : ℕ) → negsuc 0 -ℤ pos m ≡ negsuc m
minus_one_less zero = refl
minus_one_less (suc m) = ap negsuc (let e : suc (0 + m) ≡ suc m = omega arith in e)

pub minus_zero : signed_number 0 true ≡ Some (pos 0)
unfolding signed_number signed_size whole_number within
minus_zero = refl

pub negative_whole : (size : ℕ) → 0 < size → size ≤ 2147483648 → signed_number size true ≡ Some (negsuc (size - 1))
unfolding signed_number signed_size within
negative_whole zero some small = absurd (omega arith)
negative_whole (suc size) some small =
    whole_is (negsuc size) (and_both (leb size 2147483647) true (le-leb size 2147483647 (omega arith)) refl)
    ∙ ap (λ m. Some (negsuc m)) (let e : size ≡ suc size - 1 = omega arith in e)

-- The same with 0, and negated.
pub minus_whole : (size : ℕ) → size ≤ 2147483648 → signed_number size true ≡ Some (neg_ℤ (pos size))
unfolding signed_number signed_size whole_number within
minus_whole zero small = refl
minus_whole (suc size) small = whole_is (negsuc size) (and_both (leb size 2147483647) true (le-leb size 2147483647 (omega arith)) refl)

pub positive_whole : (size : ℕ) → size ≤ 2147483647 → signed_number size false ≡ Some (pos size)
unfolding signed_number signed_size within
positive_whole size small = whole_is (pos size) (le-leb size 2147483647 small)

-- Too large for either sign, and the least that is too large for a plus.
too_large : (size : ℕ) (negative : Bool) → 2147483648 < size → whole_number (signed_size size negative) ≡ None
unfolding signed_size within
too_large zero negative large = absurd (omega arith)
too_large (suc size) true large = not_whole (negsuc size) (ap (λ b. b && true) (lt-leb size 2147483647 (omega arith)))
too_large (suc size) false large = not_whole (pos (suc size)) (lt-leb (suc size) 2147483647 (omega arith))

pub positive_large : (size : ℕ) → size ≡ 2147483648 → signed_number size false ≡ None
unfolding signed_number signed_size within
positive_large size e = not_whole (pos size) (lt-leb size 2147483647 (omega arith))

-- The least value's size is a number's with a minus alone.
pub border_whole : (size : ℕ) (negative : Bool) → size ≡ 2147483648 → signed_number size negative ≡ then_some negative (negsuc 2147483647)
border_whole size true e = ap (λ k. signed_number k true) e ∙ minus_whole 2147483648 (omega arith)
border_whole size false e = positive_large size e

-- A smaller size, as the machine has it: negated, and as it is.
negated : (size : ℕ) → pos 0 -ℤ pos size ≡ neg_ℤ (pos size)
negated zero = refl
negated (suc size) = grind (arith, ints)

negated_fits : (size : ℕ) → size < 2147483648 → SFits w32 (neg_ℤ (pos size))
negated_fits zero small = record { sfits = omega arith }
negated_fits (suc size) small = record { sfits = omega arith }

pub negated_whole : (size : ℕ) (negative : Bool) → size ≤ 2147483648 → (size ≡ 2147483648 → ⊥) → negative ≡ true → signed_number size negative ≡ Some (to_z w32 (of_z w32 (pos 0 -ℤ to_z w32 size)))
negated_whole size negative few other n =
    let small : size < 2147483648 = omega arith in
    let number = ap (λ z. pos 0 -ℤ z) (to_z_pos w32 small) ∙ negated size in
    ap (signed_number size) n ∙ minus_whole size few ∙ sym (ap Some (ap (λ z. to_z w32 (of_z w32 z)) number ∙ to_z-of_z (negated_fits size small)))

pub same_whole : (size : ℕ) (negative : Bool) → size ≤ 2147483648 → (size ≡ 2147483648 → ⊥) → negative ≡ false → signed_number size negative ≡ Some (to_z w32 size)
same_whole size negative few other p =
    let small : size < 2147483648 = omega arith in
    ap (signed_number size) p ∙ positive_whole size (omega arith) ∙ sym (ap Some (to_z_pos w32 small))

-- ---- a word

-- The digits of a word follow its sign.
digits_behind : (first : ℕ) (more : List ℕ) → digits_of (first ∷ more) ≡ drop (sign_length first) (first ∷ more)
unfolding digits_of sign_length
digits_behind first more = yes_or_no (is_sign first) (λ e. rw (e, digits_of, sign_length)) (λ e. rw (e, digits_of, sign_length))

-- A sign is one byte.
pub sign_short : (first : ℕ) → sign_length first ≤ 1
unfolding sign_length
sign_short first = yes_or_no (is_sign first) (λ e. rw (e, sign_length) (omega arith)) (λ e. rw (e, sign_length) (omega arith))

-- The number of a word is that of its digits with its sign.
signed_is : (first : ℕ) (more : List ℕ) → number_of (first ∷ more) ≡ signed_size (read_digits 0 (digits_of (first ∷ more))) (eqb first 45)
unfolding number_of signed_size is_negative
signed_is first more = yes_or_no (eqb first 45) (λ e. rw (e, number_of, signed_size)) (λ e. rw (e, number_of, signed_size))

module _ (word : List ℕ) where
  pub value_word : is_value_word word ≡ true → word_number word ≡ Some (number_of word)
  unfolding word_number
  value_word e = rw (e, word_number)

  pub other_word : is_value_word word ≡ false → word_number word ≡ None
  unfolding word_number
  other_word e = rw (e, word_number)

  number_word : is_number word ≡ true → word_number word ≡ whole_number (number_of word)
  unfolding is_value_word is_number_from
  number_word e =
      yes_or_no (is_whole (number_of word))
      (λ w. value_word (and_both (is_number word) (is_whole (number_of word)) e w) ∙ sym (whole_is (number_of word) w))
      (λ w. other_word (one_fails (is_number word) (is_whole (number_of word)) w) ∙ sym (not_whole (number_of word) w))

  no_number_word : is_number word ≡ false → word_number word ≡ None
  unfolding is_value_word is_number_from
  no_number_word e = other_word (ap (λ b. b && is_whole (number_of word)) e)

pub empty_word : (word : List ℕ) → length word ≡ 0 → word_number word ≡ None
unfolding is_number digits_of is_some
empty_word [] e = no_number_word [] refl
empty_word (first ∷ more) e = absurd (omega arith)

-- Small digits have a size of a value.
pub small_few : (digits : List ℕ) → unwrap_or (small_number digits) 0 ≤ 2147483648
unfolding is_small largest_size
small_few digits =
    yes_or_no (is_small digits)
    (λ s. rw (small_is digits s) (leb-true (read_digits 0 digits) 2147483648 (both (is_some digits && every is_digit digits) (leb (read_digits 0 digits) 2147483648) s).1))
    (λ s. rw (not_small digits s) (omega arith))

-- A word with a first byte, whose digits are small or not.
small_behind : (first : ℕ) (more : List ℕ) (size : ℕ) → small_number (drop (sign_length first) (first ∷ more)) ≡ Some size → word_number (first ∷ more) ≡ signed_number size (eqb first 45)
unfolding is_small is_number signed_number
small_behind first more size e = yes_or_no (is_small digits) small (λ s. let c : None ≡ Some size = sym (not_small digits s) ∙ from in cc)
  where
    digits : List ℕ
    digits = digits_of (first ∷ more)

    from : small_number digits ≡ Some size
    from = ap small_number (digits_behind first more) ∙ e

    small : is_small digits ≡ true → word_number (first ∷ more) ≡ whole_number (signed_size size (eqb first 45))
    small s =
        let parts = both (is_some digits && every is_digit digits) (leb (read_digits 0 digits) largest_size) s in
        let made : Some (read_digits 0 digits) ≡ Some size = sym (small_is digits s) ∙ from in
        let size_is : read_digits 0 digits ≡ size = cc in
        number_word (first ∷ more) parts.0 ∙ ap whole_number (signed_is first more ∙ ap (λ size. signed_size size (eqb first 45)) size_is)

not_small_behind : (first : ℕ) (more : List ℕ) → small_number (drop (sign_length first) (first ∷ more)) ≡ None → word_number (first ∷ more) ≡ None
unfolding is_small is_number largest_size
not_small_behind first more e =
    yes_or_no (is_some digits && every is_digit digits)
    (λ n.
    yes_or_no (leb (read_digits 0 digits) 2147483648)
    (λ l. let c : Some (read_digits 0 digits) ≡ None = sym (small_is digits (and_both (is_some digits && every is_digit digits) (leb (read_digits 0 digits) 2147483648) n l)) ∙ from in cc)
    (λ l. number_word (first ∷ more) n ∙ ap whole_number (signed_is first more) ∙ too_large (read_digits 0 digits) (eqb first 45) (leb-false (read_digits 0 digits) 2147483648 l)))
    (no_number_word (first ∷ more))
  where
    digits : List ℕ
    digits = digits_of (first ∷ more)

    from : small_number digits ≡ None
    from = ap small_number (digits_behind first more) ∙ e

-- A word whose digits are small.
pub word_small : (word : List ℕ) (size : ℕ) → 0 < length word → small_number (drop (sign_length (get_or word 0 0)) word) ≡ Some size → (size ≤ 2147483648) × (word_number word ≡ signed_number size (eqb (get_or word 0 0) 45))
word_small [] size some e = absurd (omega arith)
word_small (first ∷ more) size some e = (rw e at (small_few (drop (sign_length first) (first ∷ more))), small_behind first more size e)

-- Any other word.
pub word_not_small : (word : List ℕ) → 0 < length word → small_number (drop (sign_length (get_or word 0 0)) word) ≡ None → word_number word ≡ None
word_not_small [] some e = absurd (omega arith)
word_not_small (first ∷ more) some e = not_small_behind first more e

-- The same, by the word's first byte.
pub no_first : (word : List ℕ) → None ≡ slice_get word 0 → word_number word ≡ None
no_first [] e = empty_word [] refl
no_first (first ∷ more) e = cc

pub some_first : (word : List ℕ) {first : ℕ} → Some first ≡ slice_get word 0 → 0 < length word
some_first [] f = absurd cc
some_first (byte ∷ more) f = omega arith

pub first_small : (word : List ℕ) {first size : ℕ} → Some first ≡ slice_get word 0 → small_number (drop (sign_length first) word) ≡ Some size → word_number word ≡ signed_number size (eqb first 45)
first_small [] f e = cc
first_small (byte ∷ more) {first} {size} f e = let same : first ≡ byte = cc in rw same (small_behind byte more size (rw same at e))

pub first_not_small : (word : List ℕ) {first : ℕ} → Some first ≡ slice_get word 0 → small_number (drop (sign_length first) word) ≡ None → word_number word ≡ None
first_not_small [] f e = cc
first_not_small (byte ∷ more) {first} f e = let same : first ≡ byte = cc in not_small_behind byte more (rw same at e)
