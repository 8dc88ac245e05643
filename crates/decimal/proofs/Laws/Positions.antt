-- Places in a text: past separators, and past a word.
use Rattle.std.specs.Prelude.{ℕ, zero, suc, ◌+◌, ◌≤◌, ◌<◌, ◌≡◌, refl, true, false, not, List, [], ◌∷◌, length, take, ltb}
use Rattle.std.proofs.Math.Path.{sym, ap}
use Rattle.std.proofs.Common.{◌∙◌, ap₂, arith, length-drop, take-append-drop, drop_of_length-le, drop-cons, drop-drop, ltb-true, ltb-false}
use Rattle.std.proofs.Math.Numerals.{add-one}
use Rattle.std.proofs.Math.ListN.{get_or, drop}
use Rattle.numbers.specs.Lists.{every, keep, tally}
use Rattle.numbers.proofs.Laws.Bools.{yes_or_no, and_both}
use Rattle.decimal.specs.Words.{is_some, words, last_line}
use Rattle.decimal.specs.declared.Position.{Position}
use Rattle.decimal.specs.Inner.Positions.{is_separator, line_after, words_from, words_at, newlines, PositionIn, skipped_from, skipped, word_length}
use Rattle.decimal.specs.Inner.Items.{word_there, word_behind}
use Rattle.decimal.proofs.Laws.Words.{within_word, line_after_other, is_inner, stops, last_line_lem, newlines_few, newline_counted, separator_passed, no_words, word_first}

-- The text's start, on line 1.
pub start_place : (text : List ℕ) → PositionIn text (record { at = 0; line = 1 })
start_place text = record { inside = omega arith; counted = (let l = last_line_lem text in omega arith) }

-- The words from there on are those of the text.
pub start_words : (text : List ℕ) → words_at text (record { at = 0; line = 1 }) ≡ words text
unfolding words_at words_from words
start_words text = refl

-- A line is at most one more than there are bytes.
pub line_small : {text : List ℕ} {place : Position} → PositionIn text place → place.line ≤ suc (length text)
line_small {text} p = let c = p.counted in let l = last_line_lem text in let f = newlines_few text in omega arith

-- ---- past a separator

-- The byte at a place, and the rest behind it.
pub byte_there : (text : List ℕ) (at : ℕ) → at < length text → drop at text ≡ get_or text at 0 ∷ drop (at + 1) text
byte_there text at l = drop-cons text at 0 l ∙ ap (λ k. get_or text at 0 ∷ drop k text) (sym (add-one at))

-- The place behind the byte at a place.
unfoldable pub stepped : List ℕ → Position → Position
stepped text place = record { at = place.at + 1; line = line_after (get_or text place.at 0) place.line }

module _ {text : List ℕ} {place : Position} (p : PositionIn text place) (l : place.at < length text) where
  step_place : PositionIn text (stepped text place)
  unfolding stepped
  step_place =
      let byte = get_or text place.at 0 in
      let rest = drop (place.at + 1) text in
      record {
        inside = omega arith;
        counted = newline_counted byte place.line rest ∙ ap (λ text. place.line + newlines text) (sym (byte_there text place.at l)) ∙ p.counted;
      }

  module _ (e : is_separator (get_or text place.at 0) ≡ true) where
    -- A separator is passed over.
    step_skipped : skipped text (stepped text place) ≡ skipped text place
    unfolding stepped skipped skipped_from
    step_skipped = sym (ap (λ rest. skipped_from rest place.at place.line) (byte_there text place.at l) ∙ rw (e, skipped_from, add-one place.at))

    step_words : words_at text (stepped text place) ≡ words_at text place
    unfolding stepped words_at
    step_words = sym (ap (words_from place.line) (byte_there text place.at l) ∙ separator_passed (get_or text place.at 0) place.line (drop (place.at + 1) text) e)

  -- Another byte ends the skipping.
  pub skip_stops : is_separator (get_or text place.at 0) ≡ false → skipped text place ≡ place
  unfolding skipped skipped_from
  skip_stops e = ap (λ rest. skipped_from rest place.at place.line) (byte_there text place.at l) ∙ rw (e, skipped_from)

-- So does the end.
pub skip_ends : (text : List ℕ) (place : Position) → length text ≤ place.at → skipped text place ≡ place
unfolding skipped skipped_from
skip_ends text place l = ap (λ rest. skipped_from rest place.at place.line) (drop_of_length-le text l)

-- The place so far leads past the same separators.
pub record Skipping (text : List ℕ) (place place' : Position) : Type 0 where
  pub placed : PositionIn text place'
  pub same : skipped text place' ≡ skipped text place

pub skipping_on : {text : List ℕ} {place place' : Position} → place'.at < length text → is_separator (get_or text place'.at 0) ≡ true → Skipping text place place' → Skipping text place (stepped text place')
skipping_on l e s = record { placed = step_place s.placed l; same = step_skipped s.placed l e ∙ s.same }

-- ---- past all separators

-- What a place past the separators has: the same words, and no separator there.
pub record Skipped (text : List ℕ) (place place' : Position) : Type 0 where
  pub placed : PositionIn text place'
  pub same : words_at text place' ≡ words_at text place
  pub further : place.at ≤ place'.at
  pub stopped : place'.at < length text → is_separator (get_or text place'.at 0) ≡ false

pub skipped_is : {text : List ℕ} {place : Position} → PositionIn text place → Skipped text place (skipped text place)
unfolding stepped
skipped_is {text} {place} p = by_left (length text) place p (omega arith)
  where
    here : {place : Position} → PositionIn text place → (place.at < length text → is_separator (get_or text place.at 0) ≡ false) → Skipped text place place
    here p stop = record { placed = p; same = refl; further = omega arith; stopped = stop }

    on : {place : Position} → words_at text (stepped text place) ≡ words_at text place → Skipped text (stepped text place) (skipped text (stepped text place)) → Skipped text place (skipped text (stepped text place))
    on e s = record { placed = s.placed; same = s.same ∙ e; further = (let f = s.further in omega arith); stopped = s.stopped }

    by_left : (left : ℕ) (place : Position) → PositionIn text place → length text ≤ place.at + left → Skipped text place (skipped text place)
    by_left zero place p l = rw (skip_ends text place (omega arith)) (here p (λ more. absurd (omega arith)))
    by_left (suc left) place p l =
        yes_or_no (ltb place.at (length text))
        (λ m.
        let more = ltb-true place.at (length text) m in
        yes_or_no (is_separator (get_or text place.at 0))
        (λ e. rw (sym (step_skipped p more e)) (on (step_words p more e) (by_left left (stepped text place) (step_place p more) (omega arith))))
        (λ e. rw (skip_stops p more e) (here p (λ more. e))))
        (λ m. let none = ltb-false place.at (length text) m in rw (skip_ends text place none) (here p (λ more. absurd (omega arith))))

-- At the end there are no more words.
pub ended_words : (text : List ℕ) (place : Position) → length text ≤ place.at → words_at text place ≡ []
unfolding words_at
ended_words text place l = ap (words_from place.line) (drop_of_length-le text l) ∙ no_words place.line

-- And the line is the last.
pub ended_line : {text : List ℕ} {place : Position} → PositionIn text place → length text ≤ place.at → place.line ≡ last_line text
unfolding newlines tally keep
ended_line {text} {place} p l = let c = p.counted in let n : newlines (drop place.at text) ≡ 0 = ap newlines (drop_of_length-le text l) in omega arith

-- ---- past a word

module _ (text : List ℕ) (at : ℕ) (l : at < length text) where
  pub word_goes_on : is_separator (get_or text at 0) ≡ false → word_length (drop at text) ≡ suc (word_length (drop (at + 1) text))
  unfolding word_length
  word_goes_on e = ap word_length (byte_there text at l) ∙ rw (e, word_length)

  pub word_stops : is_separator (get_or text at 0) ≡ true → word_length (drop at text) ≡ 0
  unfolding word_length
  word_stops e = ap word_length (byte_there text at l) ∙ rw (e, word_length)

pub word_ends : (text : List ℕ) (at : ℕ) → length text ≤ at → word_length (drop at text) ≡ 0
unfolding word_length
word_ends text at l = ap word_length (drop_of_length-le text l)

-- The word that starts at a place ends as far behind another as is left of it there.
pub record WordPassed (text : List ℕ) (start at : ℕ) : Type 0 where
  pub inside : at ≤ length text
  pub same : at + word_length (drop at text) ≡ start + word_length (drop start text)

-- The bytes of a word, what follows them, and the newlines, all of which follow.
record Run (rest : List ℕ) (size : ℕ) : Type 0 where
  few : size ≤ length rest
  inner : every is_inner (take size rest) ≡ true
  stop : stops is_separator (drop size rest) ≡ true
  kept : newlines (drop size rest) ≡ newlines rest

run_is : (rest : List ℕ) → Run rest (word_length rest)
unfolding word_length every is_inner stops
run_is [] = record { few = omega arith; inner = refl; stop = refl; kept = refl }
run_is (byte ∷ rest) =
    yes_or_no (is_separator byte)
    (λ e. rw (e, word_length) (record { few = omega arith; inner = refl; stop = e; kept = refl }))
    (λ e. rw (e, word_length) (longer e (run_is rest)))
  where
    longer : is_separator byte ≡ false → Run rest (word_length rest) → Run (byte ∷ rest) (suc (word_length rest))
    longer e r =
        let same = newline_counted byte 0 rest in
        let line = line_after_other byte 0 (within_word byte e).0 in
        let kept = r.kept in
        let few = r.few in
        record {
          few = omega arith;
          inner = and_both (is_inner byte) (every is_inner (take (word_length rest) rest)) (ap not e) r.inner;
          stop = r.stop;
          kept = omega arith;
        }

-- A word ends within the text.
pub word_fits : (text : List ℕ) (at : ℕ) → at ≤ length text → at + word_length (drop at text) ≤ length text
word_fits text at l = let f = (run_is (drop at text)).few in let w = length-drop at text in omega arith

-- Where there is a word its bytes are in front of the words behind it.
pub record WordFirst (text : List ℕ) (place : Position) : Type 0 where
  pub placed : PositionIn text (word_behind text place)
  pub further : place.at < (word_behind text place).at
  pub first : words_at text place ≡ record { line = place.line; bytes = word_there text place } ∷ words_at text (word_behind text place)

pub word_is : {text : List ℕ} {place : Position} → PositionIn text place → place.at < length text → is_separator (get_or text place.at 0) ≡ false → WordFirst text place
unfolding word_behind word_there words_at is_some
word_is {text} {place} p l e =
    let rest = drop place.at text in
    let size = word_length rest in
    let run = run_is rest in
    let long = word_goes_on text place.at l e in
    let behind : drop (place.at + size) text ≡ drop size rest = sym (drop-drop size place.at text) in
    let few = run.few in
    let whole = length-drop place.at text in
    record {
      placed = record { inside = omega arith; counted = ap (λ l. place.line + newlines l) behind ∙ ap (λ n. place.line + n) run.kept ∙ p.counted };
      further = omega arith;
      first =
          ap (words_from place.line) (sym (take-append-drop size rest))
          ∙ word_first place.line (take size rest) (drop size rest) run.inner (some long) run.stop
          ∙ ap (λ l. record { line = place.line; bytes = take size rest } ∷ words_from place.line l) (sym behind);
    }
  where
    some : word_length (drop place.at text) ≡ suc (word_length (drop (place.at + 1) text)) → is_some (take (word_length (drop place.at text)) (drop place.at text)) ≡ true
    some long = ap₂ (λ k l. is_some (take k l)) long (byte_there text place.at l)

-- ---- past the separators there is the end or the first word

pub skipped_none : {text : List ℕ} {place : Position} → PositionIn text place → length text ≤ (skipped text place).at → words_at text place ≡ []
skipped_none {text} {place} p l = sym (skipped_is p).same ∙ ended_words text (skipped text place) l

pub skipped_word : {text : List ℕ} {place : Position} → PositionIn text place → (skipped text place).at < length text
    → words_at text place ≡ record { line = (skipped text place).line; bytes = word_there text (skipped text place) } ∷ words_at text (word_behind text (skipped text place))
skipped_word p l = let s = skipped_is p in sym s.same ∙ (word_is s.placed l (s.stopped l)).first
