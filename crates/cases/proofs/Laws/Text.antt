-- A line's end, byte by byte, and the numbers of a line.
use Rattle.std.specs.Prelude.{◌≡◌, ℕ, zero, suc, ◌+◌, ◌-◌, ◌<◌, ◌≤◌, true, false, List, [], ◌∷◌, ◌++◌, length, take, drop, ℤ, Option, Some, None, Result, Ok, Err, refl}
use Rattle.std.proofs.Math.Path.{sym, ap}
use Rattle.std.proofs.Common.{◌∙◌, length-drop}
use mathlib.Core.List.{append-nil}
use native.Mathlib.Omega.{arith}
use Rattle.std.specs.List.{AllWithin, HoldsAt}
use Rattle.std.specs.Option.{MatchOption}
use Rattle.decimal.specs.declared.Item.{Item}
use Rattle.decimal.specs.declared.NoNumber.{NoNumber}
use Rattle.numbers.specs.Lists.{overwritten}
use Rattle.numbers.proofs.Laws.Bools.{yes_or_no}
use Rattle.decimal.specs.Words.{is_newline, Word, words}
use Rattle.decimal.specs.Table.{is_value_word, values_found}
use Rattle.decimal.specs.declared.Position.{Position}
use Rattle.decimal.specs.Inner.Positions.{words_at}
use Rattle.decimal.proofs.Laws.Buffers.{front_taken}
use Rattle.decimal.proofs.Laws.Items.{Seen, SeenOther, some_word, no_word}
use Rattle.decimal.proofs.Laws.Positions.{start_words}
use Rattle.decimal.proofs.Laws.Values.{ValuesSoFar}
use Rattle.cases.specs.Text.{line_length, line_numbers, ReadsRow}

line_ends : (byte : ℕ) (rest : List ℕ) → is_newline byte ≡ true → line_length (byte ∷ rest) ≡ 1
unfolding line_length
line_ends byte rest e = rw (e, line_length)

line_goes_on : (byte : ℕ) (rest : List ℕ) → is_newline byte ≡ false → line_length (byte ∷ rest) ≡ suc (line_length rest)
unfolding line_length
line_goes_on byte rest e = rw (e, line_length)

-- No line is longer than the text, and none of a text with bytes is empty.
line_within : (text : List ℕ) → line_length text ≤ length text
unfolding line_length
line_within [] = omega arith
line_within (byte ∷ rest) =
    yes_or_no (is_newline byte)
    (λ e. let l = line_ends byte rest e in omega arith)
    (λ e. let l = line_goes_on byte rest e in let w = line_within rest in omega arith)

line_some : (text : List ℕ) → 0 < length text → 0 < line_length text
line_some [] h = absurd (omega arith)
line_some (byte ∷ rest) h =
    yes_or_no (is_newline byte)
    (λ e. let l = line_ends byte rest e in omega arith)
    (λ e. let l = line_goes_on byte rest e in omega arith)

-- Without a newline the line is the text.
pub no_newline : (text : List ℕ) → AllWithin (λ byte. is_newline byte ≡ false) text 0 (length text) → line_length text ≡ length text
unfolding line_length
no_newline [] all = refl
no_newline (byte ∷ rest) all = line_goes_on byte rest (all 0 byte (omega arith) (omega arith)) ∙ ap suc (no_newline rest (λ k d from to. all (suc k) d (omega arith) (omega arith)))

-- The first newline ends it.
pub first_newline : (text : List ℕ) (i : ℕ) → i < length text → HoldsAt (λ byte. is_newline byte ≡ true) text i → AllWithin (λ byte. is_newline byte ≡ false) text 0 i → line_length text ≡ i + 1
first_newline [] i l here before = absurd (omega arith)
first_newline (byte ∷ rest) zero l here before = line_ends byte rest (here byte)
first_newline (byte ∷ rest) (suc i) l here before =
    line_goes_on byte rest (before 0 byte (omega arith) (omega arith))
    ∙ ap suc (first_newline rest i (omega arith) here (λ k d from to. before (suc k) d (omega arith) (omega arith)))
    ∙ (let e : suc (i + 1) ≡ suc i + 1 = omega arith in e)

-- The line's length by where the first newline was found.
pub line_found : (text : List ℕ) (newline : Option ℕ) {behind : ℕ}
    → MatchOption newline (AllWithin (λ byte. is_newline byte ≡ false) text 0 (length text)) (λ i. (i < length text) × HoldsAt (λ byte. is_newline byte ≡ true) text i × AllWithin (λ byte. is_newline byte ≡ false) text 0 i)
    → MatchOption newline (behind ≡ length text) (λ i. behind ≡ i + 1) → behind ≡ line_length text
line_found text None first e = e ∙ sym (no_newline text first)
line_found text (Some i) first e = e ∙ sym (first_newline text i first.0 first.1 first.2)

-- ---- the numbers of a line

-- No number in front.
none_of_other : (count : ℕ) (word : Word) (more : List Word) → is_value_word word.bytes ≡ false → values_found count (word ∷ more) ≡ []
unfolding values_found
none_of_other zero word more e = refl
none_of_other (suc count) word more e = rw (e, values_found)

none_of_none : (count : ℕ) → values_found count [] ≡ []
unfolding values_found
none_of_none zero = refl
none_of_none (suc count) = refl

module _ {line : List ℕ} {row : List ℤ} {place : Position} {count : ℕ} {row' : List ℤ} (v : ValuesSoFar line (record { at = 0; line = 1 }) (length row) row place count row') where
  -- No number follows those found so far.
  all_read : values_found (length row - count) (words_at line place) ≡ [] → ReadsRow line row count row'
  unfolding line_numbers
  all_read e = record { counted = sym v.many ∙ ap length (sym found); left = v.written ∙ ap (overwritten row 0) (sym found) }
    where
      found : line_numbers (length row) line ≡ v.found
      found = ap (values_found (length row)) (sym (start_words line)) ∙ v.all ∙ ap (λ more. v.found ++ more) e ∙ append-nil v.found

  pub row_full : length row ≤ count → ReadsRow line row count row'
  unfolding values_found
  row_full l = all_read (ap (λ k. values_found k (words_at line place)) (let e : length row - count ≡ 0 = omega arith in e))

  pub nothing_next : {number : ℕ} → SeenOther line place number → ReadsRow line row count row'
  nothing_next {number} (some_word s) = all_read (ap (values_found (length row - count)) s.first ∙ none_of_other (length row - count) (record { line = number; bytes = s.word }) s.more s.value)
  nothing_next (no_word s) = all_read (ap (values_found (length row - count)) s.none ∙ none_of_none (length row - count))

  pub nothing_here : (item : Result Item NoNumber) → ((x : Item) → item ≡ Ok x → ⊥) → Seen line place item → ReadsRow line row count row'
  nothing_here (Ok item) none s = absurd (none item refl)
  nothing_here (Err none) not s = nothing_next s

-- The numbers that were read, taken out of the row again.
few_found : (count : ℕ) (words : List Word) → length (values_found count words) ≤ count
unfolding values_found
few_found zero words = omega arith
few_found (suc count) [] = omega arith
few_found (suc count) (word ∷ more) =
    yes_or_no (is_value_word word.bytes)
    (λ e. rw (e, values_found) (let f = few_found count more in omega arith))
    (λ e. rw (e, values_found) (omega arith))

module _ {line : List ℕ} {row : List ℤ} {count : ℕ} {row' : List ℤ} (reads : ReadsRow line row count row') where
  pub count_within : count ≤ length row
  unfolding line_numbers
  count_within = let e = reads.counted in let f = few_found (length row) (words line) in omega arith

  pub row_taken : take count row' ≡ line_numbers (length row) line
  row_taken = front_taken row (line_numbers (length row) line) count reads.left (sym reads.counted)

-- A line ends within the text, and behind its start.
module _ (text : List ℕ) (start : ℕ) where
  pub behind_within : start ≤ length text → start + line_length (drop start text) ≤ length text
  behind_within l = let w = line_within (drop start text) in let d = length-drop start text in omega arith

  pub behind_further : start < length text → start < start + line_length (drop start text)
  behind_further l = let d = length-drop start text in let s = line_some (drop start text) (omega arith) in omega arith
