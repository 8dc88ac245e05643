-- The words of a text, byte by byte and word by word.
use Rattle.std.specs.Prelude.{ℕ, suc, ◌+◌, ◌≤◌, ◌≡◌, refl, Bool, true, false, not, ◌||◌, List, [], ◌∷◌, ◌++◌, map, length}
use Rattle.std.proofs.Common.{sym, ◌∙◌, ap, append-nil, arith}
use Rattle.std.proofs.lemmas.Bool.{false≢true, not-true}
use Rattle.numbers.specs.Lists.{every, keep, tally}
use Rattle.numbers.proofs.Laws.Bools.{yes_or_no, both}
use Rattle.numbers.proofs.Laws.Selections.{keep_passed, keep_failed, keep_length}
use Rattle.lines.specs.Reading.{in_front, pieces}
use Rattle.decimal.specs.Words.{is_newline, is_blank, is_some, Word, line_words, lines_words, last_line}
use Rattle.decimal.specs.Inner.Positions.{is_separator, line_after, words_from, newlines}

-- ---- tests of a byte

-- Neither a newline nor a blank parts a word.
pub within_word : (byte : ℕ) → is_separator byte ≡ false → (is_newline byte ≡ false) × (is_blank byte ≡ false)
unfolding is_separator
within_word byte e = neither (is_newline byte) (is_blank byte) e
  where
    neither : (a b : Bool) → (a || b) ≡ false → (a ≡ false) × (b ≡ false)
    neither true b h = absurd (false≢true (sym h))
    neither false b h = (refl, h)

other_blank : (byte : ℕ) → is_separator byte ≡ true → is_newline byte ≡ false → is_blank byte ≡ true
unfolding is_separator
other_blank byte e n = rw n at e

pub line_after_newline : (byte line : ℕ) → is_newline byte ≡ true → line_after byte line ≡ suc line
unfolding line_after
line_after_newline byte line e = rw (e, line_after)

pub line_after_other : (byte line : ℕ) → is_newline byte ≡ false → line_after byte line ≡ line
unfolding line_after
line_after_other byte line e = rw (e, line_after)

-- ---- pieces

module _ (parts : ℕ → Bool) (byte : ℕ) (text : List ℕ) where
  pieces_parted : parts byte ≡ true → pieces parts (byte ∷ text) ≡ [] ∷ pieces parts text
  unfolding pieces
  pieces_parted e = rw (e, pieces)

  pieces_joined : parts byte ≡ false → pieces parts (byte ∷ text) ≡ in_front byte (pieces parts text)
  unfolding pieces
  pieces_joined e = rw (e, pieces)

-- There is one line more than there are newlines.
pub last_line_lem : (text : List ℕ) → last_line text ≡ suc (newlines text)
unfolding last_line newlines tally pieces keep in_front
last_line_lem [] = refl
last_line_lem (byte ∷ text) =
    yes_or_no (is_newline byte)
    (λ e. ap length (pieces_parted is_newline byte text e) ∙ ap suc (last_line_lem text) ∙ ap (λ l. suc (length l)) (sym (keep_passed is_newline byte text e)))
    (λ e. ap length (pieces_joined is_newline byte text e) ∙ longer (pieces is_newline text) (last_line_lem text) ∙ ap (λ l. suc (length l)) (sym (keep_failed is_newline byte text e)))
  where
    longer : (parts : List (List ℕ)) {count : ℕ} → length parts ≡ suc count → length (in_front byte parts) ≡ suc count
    longer [] e = absurd (omega arith)
    longer (piece ∷ parts) e = e

-- No more newlines than bytes.
pub newlines_few : (text : List ℕ) → newlines text ≤ length text
unfolding newlines tally
newlines_few text = keep_length is_newline text

-- A byte's newline is counted behind it.
pub newline_counted : (byte line : ℕ) (text : List ℕ) → line_after byte line + newlines text ≡ line + newlines (byte ∷ text)
unfolding newlines tally
newline_counted byte line text =
    yes_or_no (is_newline byte)
    (λ e. let l = line_after_newline byte line e in let k = ap length (keep_passed is_newline byte text e) in omega arith)
    (λ e. let l = line_after_other byte line e in let k = ap length (keep_failed is_newline byte text e) in omega arith)

-- ---- a separator in front

blank_joined : (byte line : ℕ) (lines : List (List ℕ)) → is_blank byte ≡ true → lines_words line (in_front byte lines) ≡ lines_words line lines
unfolding lines_words in_front line_words pieces keep is_some
blank_joined byte line [] e = rw (pieces_parted is_blank byte [] e)
blank_joined byte line (piece ∷ lines) e = ap (λ parts. map (λ piece. record { line = line; bytes = piece }) (keep is_some parts) ++ lines_words (suc line) lines) (pieces_parted is_blank byte piece e)

-- It is passed over, and a newline counts.
pub separator_passed : (byte line : ℕ) (text : List ℕ) → is_separator byte ≡ true → words_from line (byte ∷ text) ≡ words_from (line_after byte line) text
unfolding words_from lines_words line_words pieces keep is_some
separator_passed byte line text e =
    yes_or_no (is_newline byte)
    (λ n. ap (lines_words line) (pieces_parted is_newline byte text n) ∙ none_yet ∙ ap (λ l. lines_words l (pieces is_newline text)) (sym (line_after_newline byte line n)))
    (λ n. ap (lines_words line) (pieces_joined is_newline byte text n) ∙ blank_joined byte line (pieces is_newline text) (other_blank byte e n) ∙ ap (λ l. lines_words l (pieces is_newline text)) (sym (line_after_other byte line n)))
  where
    none_yet : lines_words line ([] ∷ pieces is_newline text) ≡ lines_words (suc line) (pieces is_newline text)
    none_yet = refl

-- Nothing has no words.
pub no_words : (line : ℕ) → words_from line [] ≡ []
unfolding words_from lines_words line_words pieces keep is_some
no_words line = refl

-- ---- a word in front

-- A byte of a word.
unfoldable pub is_inner : ℕ → Bool
is_inner byte = not (is_separator byte)

-- A byte that passes comes first, or the end.
unfoldable pub stops : (ℕ → Bool) → List ℕ → Bool
stops test [] = true
stops test (byte ∷ rest) = test byte

-- Bytes in front of the first piece.
unfoldable all_in_front : List ℕ → List (List ℕ) → List (List ℕ)
all_in_front [] parts = parts
all_in_front (byte ∷ run) parts = in_front byte (all_in_front run parts)

joined_run : (run piece : List ℕ) (parts : List (List ℕ)) → all_in_front run (piece ∷ parts) ≡ (run ++ piece) ∷ parts
unfolding all_in_front in_front
joined_run [] piece parts = refl
joined_run (byte ∷ run) piece parts = ap (in_front byte) (joined_run run piece parts)

pieces_run : (parts : ℕ → Bool) → ((byte : ℕ) → is_separator byte ≡ false → parts byte ≡ false) → (run rest : List ℕ) → every is_inner run ≡ true → pieces parts (run ++ rest) ≡ all_in_front run (pieces parts rest)
unfolding all_in_front every is_inner
pieces_run parts inner [] rest e = refl
pieces_run parts inner (byte ∷ run) rest e =
    let passed = both (is_inner byte) (every is_inner run) e in
    pieces_joined parts byte (run ++ rest) (inner byte (not-true (is_separator byte) passed.0))
    ∙ ap (in_front byte) (pieces_run parts inner run rest passed.1)

-- The word of a line that starts with it.
line_word : (line : ℕ) (run rest : List ℕ) → every is_inner run ≡ true → is_some run ≡ true → stops is_blank rest ≡ true → line_words line (run ++ rest) ≡ record { line = line; bytes = run } ∷ line_words line rest
unfolding line_words keep is_some stops pieces
line_word line run rest e some stop =
    ap words (pieces_run is_blank (λ byte s. (within_word byte s).1) run rest e)
    ∙ first rest stop
  where
    words : List (List ℕ) → List Word
    words parts = map (λ piece. record { line = line; bytes = piece }) (keep is_some parts)

    parted : (more : List (List ℕ)) → words (all_in_front run ([] ∷ more)) ≡ record { line = line; bytes = run } ∷ words ([] ∷ more)
    parted more =
        ap words (joined_run run [] more ∙ ap (λ piece. piece ∷ more) (append-nil run))
        ∙ ap (map (λ piece. record { line = line; bytes = piece })) (keep_passed is_some run more some)

    first : (rest : List ℕ) → stops is_blank rest ≡ true → words (all_in_front run (pieces is_blank rest)) ≡ record { line = line; bytes = run } ∷ words (pieces is_blank rest)
    first [] s = parted []
    first (byte ∷ rest) s = rw (pieces_parted is_blank byte rest s) (parted (pieces is_blank rest))

-- The first line ends at once or goes on with a blank.
unfoldable opens : List (List ℕ) → Bool
opens [] = false
opens (piece ∷ parts) = stops is_blank piece

opens_line : (rest : List ℕ) → stops is_separator rest ≡ true → opens (pieces is_newline rest) ≡ true
unfolding opens stops pieces in_front
opens_line [] e = refl
opens_line (byte ∷ rest) e =
    yes_or_no (is_newline byte)
    (λ n. ap opens (pieces_parted is_newline byte rest n))
    (λ n. ap opens (pieces_joined is_newline byte rest n) ∙ blank_first (pieces is_newline rest) (other_blank byte e n))
  where
    blank_first : (parts : List (List ℕ)) → is_blank byte ≡ true → opens (in_front byte parts) ≡ true
    blank_first [] b = b
    blank_first (piece ∷ parts) b = b

-- A run of bytes up to a separator or the end is the first word.
pub word_first : (line : ℕ) (run rest : List ℕ) → every is_inner run ≡ true → is_some run ≡ true → stops is_separator rest ≡ true → words_from line (run ++ rest) ≡ record { line = line; bytes = run } ∷ words_from line rest
unfolding words_from opens lines_words
word_first line run rest e some stop =
    ap (lines_words line) (pieces_run is_newline (λ byte s. (within_word byte s).0) run rest e)
    ∙ first (pieces is_newline rest) (opens_line rest stop)
  where
    first : (parts : List (List ℕ)) → opens parts ≡ true → lines_words line (all_in_front run parts) ≡ record { line = line; bytes = run } ∷ lines_words line parts
    first [] o = absurd (false≢true o)
    first (piece ∷ parts) o = ap (lines_words line) (joined_run run piece parts) ∙ ap (λ found. found ++ lines_words (suc line) parts) (line_word line run piece e some o)
