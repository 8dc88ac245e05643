-- A text taken apart into its lines and their fields.
use Rattle.std.specs.Prelude.{ℕ, suc, ◌≤◌, ◌<◌, ◌≡◌, ◌↔◌, Bool, true, false, length, get_or, leb, ltb, eqb, ℤ, pos, negsuc}
use Rattle.std.proofs.Math.Path.{refl}
use Rattle.std.proofs.Common.{sym, ◌∙◌, ap, ap₂, arith, leb-true, ltb-true, lt-ltb, eq-eqb, ne_eqb}
use mathlib.Core.List.{List, [], ◌∷◌, ◌++◌, map, flat_map, append_assoc, append-nil}
use Rattle.numbers.specs.Lists.{every}
use Rattle.numbers.proofs.Laws.Bools.{yes_or_no, both, and_both}
use Rattle.numbers.proofs.Laws.Tests.{lt_test, every_test}
use Rattle.lines.specs.Text.{decimal, fields}
use Rattle.lines.specs.Reading.{is_digit, read_decimal, in_front, pieces, Line, is_plain, Plain, empty_line, line_text, line_of, read_line, ended, read_lines}
use Rattle.lines.specs.Inner.Writing.{field}
use Rattle.lines.proofs.Laws.Decimals.{digits_alone, decimal_back, decimal_negative}
use Rattle.lines.proofs.Laws.Pieces.{field_pieces}

-- ---- tests on every byte

module _ (test other : ℕ → Bool) (so : (byte : ℕ) → test byte ≡ true → other byte ≡ true) where
  -- What passes one test passes a weaker one.
  weaker : (l : List ℕ) → every test l ≡ true → every other l ≡ true
  unfolding every
  weaker [] h = refl
  weaker (byte ∷ l) h = let b = both (test byte) (every test l) h in and_both (other byte) (every other l) (so byte b.0) (weaker l b.1)

every_both : (test : ℕ → Bool) (l more : List ℕ) → every test l ≡ true → every test more ≡ true → every test (l ++ more) ≡ true
unfolding every
every_both test [] more h k = k
every_both test (byte ∷ l) more h k = let b = both (test byte) (every test l) h in and_both (test byte) (every test (l ++ more)) b.0 (every_both test l more b.1 k)

-- Bytes above the space are above the newline.
above_newline : (l : List ℕ) → every (ltb 32) l ≡ true → every (ltb 10) l ≡ true
above_newline = weaker (ltb 32) (ltb 10) (λ byte h. let l = ltb-true 32 byte h in lt-ltb 10 byte (omega arith))

digit_plain : (byte : ℕ) → is_digit byte ≡ true → ltb 32 byte ≡ true
unfolding is_digit
digit_plain byte h = let l = leb-true 48 byte (both (leb 48 byte) (leb byte 57) h).0 in lt-ltb 32 byte (omega arith)

digits_plain : (number : ℕ) → every (ltb 32) (decimal (pos number)) ≡ true
digits_plain number = weaker is_digit (ltb 32) digit_plain (decimal (pos number)) (digits_alone number)

-- A number has neither spaces nor newlines.
pub decimal_plain : (z : ℤ) → every (ltb 32) (decimal z) ≡ true
unfolding every
decimal_plain (pos number) = digits_plain number
decimal_plain (negsuc number) = rw (decimal_negative number) (digits_plain (suc number))

fields_within : (numbers : List ℤ) → every (ltb 10) (flat_map field numbers) ≡ true
unfolding flat_map field every
fields_within [] = refl
fields_within (z ∷ more) = every_both (ltb 10) (decimal z) (flat_map field more) (above_newline (decimal z) (decimal_plain z)) (fields_within more)

-- ---- pieces between bytes of one kind, which are greater than it

module _ (s : ℕ) where
  other_byte : (byte : ℕ) → ltb s byte ≡ true → eqb s byte ≡ false
  other_byte byte h = let l = ltb-true s byte h in ne_eqb s byte (λ e. absurd (omega arith))

  -- A piece up to the next such byte.
  piece_first : (piece rest : List ℕ) → every (ltb s) piece ≡ true → pieces (eqb s) (piece ++ s ∷ rest) ≡ piece ∷ pieces (eqb s) rest
  unfolding pieces every in_front
  piece_first [] rest h = rw (eq-eqb s s refl, pieces)
  piece_first (byte ∷ piece) rest h =
      let b = both (ltb s byte) (every (ltb s) piece) h in
      rw (other_byte byte b.0, pieces) (ap (in_front byte) (piece_first piece rest b.1))

  -- The last one.
  piece_last : (piece : List ℕ) → every (ltb s) piece ≡ true → pieces (eqb s) piece ≡ piece ∷ []
  unfolding pieces every in_front
  piece_last [] h = refl
  piece_last (byte ∷ piece) h =
      let b = both (ltb s byte) (every (ltb s) piece) h in
      rw (other_byte byte b.0, pieces) (ap (in_front byte) (piece_last piece b.1))

-- ---- the fields of a line

fields_apart : (word : List ℕ) → every (ltb 32) word ≡ true → (numbers : List ℤ) → pieces (eqb 32) (word ++ flat_map field numbers) ≡ word ∷ map decimal numbers
unfolding flat_map field
fields_apart word h [] = ap (pieces (eqb 32)) (append-nil word) ∙ piece_last 32 word h
fields_apart word h (z ∷ more) = piece_first 32 word (decimal z ++ flat_map field more) h ∙ ap (λ l. word ∷ l) (fields_apart (decimal z) (decimal_plain z) more)

numbers_back : (numbers : List ℤ) → map read_decimal (map decimal numbers) ≡ numbers
numbers_back [] = refl
numbers_back (z ∷ more) = ap₂ (λ a l. a ∷ l) (decimal_back z) (numbers_back more)

line_back : (l : Line) → every (ltb 32) l.word ≡ true → read_line (l.word ++ flat_map field l.numbers) ≡ l
unfolding read_line line_of
line_back l h = ap line_of (fields_apart l.word h l.numbers) ∙ ap (λ numbers. record { word = l.word; numbers = numbers }) (numbers_back l.numbers)

-- ---- the lines of a text

-- A text has at least one piece.
pieces_some : (parts : ℕ → Bool) (text : List ℕ) → 1 ≤ length (pieces parts text)
unfolding pieces in_front
pieces_some parts [] = omega arith
pieces_some parts (byte ∷ text) =
    yes_or_no (parts byte)
    (λ e. rw (e, pieces) (omega arith))
    (λ e. rw (e, pieces) (in_front_lem (pieces parts text)))
  where
    in_front_lem : (ps : List (List ℕ)) → 1 ≤ length (in_front byte ps)
    in_front_lem [] = omega arith
    in_front_lem (p ∷ ps) = omega arith

ended_next : (piece : List ℕ) (others : List (List ℕ)) → 1 ≤ length others → ended (piece ∷ others) ≡ piece ∷ ended others
unfolding ended
ended_next piece [] some = absurd (omega arith)
ended_next piece (next ∷ others) some = refl

-- A line in front of a text.
line_first : (l : Line) → every (ltb 32) l.word ≡ true → (rest : List ℕ) → read_lines (line_text l ++ rest) ≡ l ∷ read_lines rest
unfolding read_lines line_text
line_first l h rest =
    ap (λ text. map read_line (ended (pieces (eqb 10) text))) shape
    ∙ ap (λ ps. map read_line (ended ps)) (piece_first 10 bare rest (every_both (ltb 10) l.word (flat_map field l.numbers) (above_newline l.word h) (fields_within l.numbers)))
    ∙ ap (map read_line) (ended_next bare (pieces (eqb 10) rest) (pieces_some (eqb 10) rest))
    ∙ ap (λ first. first ∷ read_lines rest) (line_back l h)
  where
    bare : List ℕ
    bare = l.word ++ flat_map field l.numbers

    shape : (l.word ++ fields l.numbers) ++ rest ≡ bare ++ 10 ∷ rest
    shape =
        ap (λ f. (l.word ++ f) ++ rest) (field_pieces l.numbers)
        ∙ ap (λ text. text ++ rest) (sym (append_assoc l.word (flat_map field l.numbers) (10 ∷ [])))
        ∙ append_assoc bare (10 ∷ []) rest

lines_none : read_lines [] ≡ []
unfolding read_lines ended pieces
lines_none = refl

-- All lines of a text.
pub lines_back : (ls : List Line) → every is_plain ls ≡ true → read_lines (flat_map line_text ls) ≡ ls
unfolding flat_map every is_plain
lines_back [] h = lines_none
lines_back (l ∷ ls) h = let b = both (is_plain l) (every is_plain ls) h in line_first l b.0 (flat_map line_text ls) ∙ ap (λ more. l ∷ more) (lines_back ls b.1)

plain_test : (l : Line) → (is_plain l ≡ true) ↔ Plain l
unfolding is_plain
plain_test l = every_test (ltb 32) l.word 0 (lt_test 32)

pub plain_lines_back : (ls : List Line) → ((j : ℕ) → j < length ls → Plain (get_or ls j empty_line)) → read_lines (flat_map line_text ls) ≡ ls
plain_lines_back ls plain = lines_back ls ((every_test is_plain ls empty_line plain_test).1 plain)
