-- What comes next in a text, in terms of its words.
use Rattle.std.specs.Prelude.{ℕ, ◌≤◌, ◌<◌, ◌≡◌, refl, true, false, ◌&&◌, List, [], ◌∷◌, length, take, leb, eqb, ℤ, pos, negsuc, Option, Some, None, Result, Ok, Err}
use Rattle.std.proofs.Common.{sym, ◌∙◌, ap, subst, arith, drop_of_length-le, le-leb, leb-true, leb-false, eqb-true, eq-eqb, ne_eqb}
use Rattle.std.proofs.lemmas.Bool.{false≢true, eqb-false}
use Rattle.std.specs.Result.{result_ok}
use Rattle.std.specs.Int.Signed.{mag}
use Rattle.numbers.specs.Ranges.{within}
use Rattle.numbers.proofs.Laws.Bools.{yes_or_no, both, and_both}
use Rattle.decimal.specs.Words.{Word, last_line}
use Rattle.decimal.specs.Numbers.{is_number, number_of, is_number_from}
use Rattle.decimal.specs.Table.{is_value_word, is_heading}
use Rattle.decimal.specs.declared.Position.{Position}
use Rattle.decimal.specs.declared.Item.{Item}
use Rattle.decimal.specs.declared.NoNumber.{NoNumber}
use Rattle.decimal.specs.declared.Heading.{Heading}
use Rattle.decimal.specs.Inner.Positions.{words_at, PositionIn, skipped, word_length}
use Rattle.decimal.specs.Inner.Numbers.{is_whole, word_number}
use Rattle.decimal.specs.Inner.Items.{word_there, word_behind, word_item, item_there, item_at, heading_of, heading_at}
use Rattle.decimal.proofs.Laws.Positions.{Skipped, skipped_is, ended_words, ended_line, WordFirst, word_is}
use Rattle.decimal.proofs.Laws.Numbers.{one_fails, value_word, other_word, empty_word}

-- ---- the item at a place

-- At the end of the text there is no number.
there_ended : (text : List ℕ) (place : Position) → length text ≤ place.at → item_there text place ≡ Err (record { line = place.line })
unfolding item_there word_there word_item word_behind word_length
there_ended text place l = ap (λ number. word_item number (word_behind text place)) (ap (λ rest. word_number (take (word_length rest) rest)) (drop_of_length-le text l) ∙ empty_word [] refl)

-- A number: the first word, in front of those from the place behind it.
pub record SeenValue (text : List ℕ) (place : Position) (number : ℤ) (behind : Position) : Type 0 where
  pub word : List ℕ
  pub first : words_at text place ≡ record { line = behind.line; bytes = word } ∷ words_at text behind
  pub value : is_value_word word ≡ true
  pub number_is : number ≡ number_of word
  pub placed : PositionIn text behind
  pub further : place.at < behind.at

-- Any other word.
pub record SeenWord (text : List ℕ) (place : Position) (line : ℕ) : Type 0 where
  pub word : List ℕ
  pub more : List Word
  pub first : words_at text place ≡ record { line = line; bytes = word } ∷ more
  pub value : is_value_word word ≡ false

-- No word.
pub record SeenEnd (text : List ℕ) (place : Position) (line : ℕ) : Type 0 where
  pub none : words_at text place ≡ []
  pub last : line ≡ last_line text

-- No number.
pub data SeenOther (text : List ℕ) (place : Position) (line : ℕ) : Type 0 where
  some_word : SeenWord text place line → SeenOther text place line
  no_word : SeenEnd text place line → SeenOther text place line

-- What an item says of the words from a place on.
abbrev pub Seen : List ℕ → Position → Result Item NoNumber → Type 0
Seen text place (Ok item) = SeenValue text place item.number (record { at = item.at; line = item.line })
Seen text place (Err none) = SeenOther text place none.line

pub item_seen : {text : List ℕ} {place : Position} → PositionIn text place → Seen text place (item_at text place)
unfolding item_at item_there word_item word_behind
item_seen {text} {place} p =
    yes_or_no (leb (length text) first.at)
    (λ e. let l = leb-true (length text) first.at e in rw (there_ended text first l) (no_word (record { none = sym s.same ∙ ended_words text first l; last = ended_line s.placed l })))
    (λ e.
    let l = leb-false (length text) first.at e in
    yes_or_no (is_value_word (word_there text first))
    (λ v. rw (value_word (word_there text first) v) (valued v (word_is s.placed l (s.stopped l))))
    (λ v. rw (other_word (word_there text first) v) (some_word (other v (word_is s.placed l (s.stopped l))))))
  where
    first : Position
    first = skipped text place

    s : Skipped text place first
    s = skipped_is p

    valued : is_value_word (word_there text first) ≡ true → WordFirst text first → SeenValue text place (number_of (word_there text first)) (word_behind text first)
    valued v w = record {
      word = word_there text first;
      first = sym s.same ∙ w.first;
      value = v;
      number_is = refl;
      placed = w.placed;
      further = (let f = s.further in let g = w.further in omega arith);
    }

    other : is_value_word (word_there text first) ≡ false → WordFirst text first → SeenWord text place first.line
    other v w = record { word = word_there text first; more = words_at text (word_behind text first); first = sym s.same ∙ w.first; value = v }

-- ---- the first line

module _ (low high : ℤ) (number : ℤ) (line at : ℕ) where
  pub heading_found : line ≡ 1 → within low high number ≡ true → heading_of low high (Ok (record { number = number; line = line; at = at })) ≡ Some (record { number = mag number; at = at })
  unfolding heading_of
  heading_found e w = rw (eq-eqb line 1 e, w, heading_of)

  pub heading_other_line : (line ≡ 1 → ⊥) → heading_of low high (Ok (record { number = number; line = line; at = at })) ≡ None
  unfolding heading_of
  heading_other_line n = rw (ne_eqb line 1 n, heading_of)

  pub heading_outside : line ≡ 1 → within low high number ≡ false → heading_of low high (Ok (record { number = number; line = line; at = at })) ≡ None
  unfolding heading_of
  heading_outside e w = rw (eq-eqb line 1 e, w, heading_of)

-- An item where one comes next, and none.
pub item_next : (r : Result Item NoNumber) {item : Item} → Some item ≡ result_ok r → r ≡ Ok item
item_next (Ok other) e = cc
item_next (Err none) e = cc

pub no_heading : (low high : ℤ) (r : Result Item NoNumber) → None ≡ result_ok r → heading_of low high r ≡ None
unfolding heading_of
no_heading low high (Ok item) e = cc
no_heading low high (Err none) e = refl

-- A range from 0 or more up to a number of 32 bits is narrower than 32 bits.
narrower : (low high : ℕ) (z : ℤ) → high ≤ 2147483647 → within (pos low) (pos high) z ≡ true → is_whole z ≡ true
unfolding within
narrower low high (pos a) few e = let h = leb-true a high (both (leb low a) (leb a high) e).1 in le-leb a 2147483647 (omega arith)
narrower low high (negsuc a) few e = absurd (false≢true e)

-- The bounds of such a number.
in_range : (low high : ℕ) (z : ℤ) → within (pos low) (pos high) z ≡ true → (low ≤ mag z) × (mag z ≤ high)
unfolding within
in_range low high (pos a) e = let parts = both (leb low a) (leb a high) e in (leb-true low a parts.0, leb-true a high parts.1)
in_range low high (negsuc a) e = absurd (false≢true e)

-- What a heading says of the words from a place on.
pub record HeadingFound (text : List ℕ) (at low high number next : ℕ) : Type 0 where
  pub word : List ℕ
  pub first : words_at text (record { at = at; line = 1 }) ≡ record { line = 1; bytes = word } ∷ words_at text (record { at = next; line = 1 })
  pub heads : is_heading low high (record { line = 1; bytes = word }) ≡ true
  pub number_is : number ≡ mag (number_of word)
  pub bounds : (low ≤ number) × (number ≤ high)
  pub placed : PositionIn text (record { at = next; line = 1 })

abbrev pub HeadingSeen : List ℕ → ℕ → ℕ → ℕ → Option Heading → Type 0
HeadingSeen text at low high (Some found) = HeadingFound text at low high found.number found.at
HeadingSeen text at low high None = (word : Word) (more : List Word) → words_at text (record { at = at; line = 1 }) ≡ word ∷ more → is_heading low high word ≡ false

pub heading_seen : (text : List ℕ) (at low high : ℕ) → high ≤ 2147483647 → PositionIn text (record { at = at; line = 1 }) → HeadingSeen text at low high (heading_at text at (pos low) (pos high))
unfolding heading_at heading_of is_heading is_number_from is_value_word
heading_seen text at low high few p = by_item (item_at text place) (item_seen p)
  where
    place : Position
    place = record { at = at; line = 1 }

    -- Only the first word counts.
    first_only : (first : Word) (rest : List Word) → words_at text place ≡ first ∷ rest → is_heading low high first ≡ false → (word : Word) (more : List Word) → words_at text place ≡ word ∷ more → is_heading low high word ≡ false
    first_only first rest e none word more f = let same : first ≡ word = cc in ap (is_heading low high) (sym same) ∙ none

    found : (number : ℤ) (next : ℕ) → SeenValue text place number (record { at = next; line = 1 }) → within (pos low) (pos high) number ≡ true → HeadingFound text at low high (mag number) next
    found number next s w = record {
      word = s.word;
      first = s.first;
      heads = and_both (is_number s.word) (within (pos low) (pos high) (number_of s.word)) (both (is_number s.word) (is_whole (number_of s.word)) s.value).0 (ap (within (pos low) (pos high)) (sym s.number_is) ∙ w);
      number_is = ap mag s.number_is;
      bounds = in_range low high number w;
      placed = s.placed;
    }

    by_item : (item : Result Item NoNumber) → Seen text place item → HeadingSeen text at low high (heading_of (pos low) (pos high) item)
    by_item (Ok item) s =
        yes_or_no (eqb item.line 1)
        (λ e.
        let one = eqb-true item.line 1 e in
        yes_or_no (within (pos low) (pos high) item.number)
        (λ w. rw (heading_found (pos low) (pos high) item.number item.line item.at one w) (found item.number item.at (subst (λ line. SeenValue text place item.number (record { at = item.at; line = line })) one s) w))
        (λ w.
        rw (heading_outside (pos low) (pos high) item.number item.line item.at one w)
        (first_only (record { line = item.line; bytes = s.word }) (words_at text (record { at = item.at; line = item.line })) s.first
        (one_fails (eqb item.line 1) (is_number s.word && within (pos low) (pos high) (number_of s.word))
        (one_fails (is_number s.word) (within (pos low) (pos high) (number_of s.word)) (ap (within (pos low) (pos high)) (sym s.number_is) ∙ w))))))
        (λ e.
        rw (heading_other_line (pos low) (pos high) item.number item.line item.at (eqb-false item.line 1 e))
        (first_only (record { line = item.line; bytes = s.word }) (words_at text (record { at = item.at; line = item.line })) s.first
        (ap (λ b. b && (is_number s.word && within (pos low) (pos high) (number_of s.word))) e)))
    by_item (Err none) (some_word s) =
        first_only (record { line = none.line; bytes = s.word }) s.more s.first
        (one_fails (eqb none.line 1) (is_number s.word && within (pos low) (pos high) (number_of s.word)) no_number)
      where
        no_number : (is_number s.word && within (pos low) (pos high) (number_of s.word)) ≡ false
        no_number =
            yes_or_no (is_number s.word && within (pos low) (pos high) (number_of s.word))
            (λ e.
            let parts = both (is_number s.word) (within (pos low) (pos high) (number_of s.word)) e in
            absurd (false≢true (sym s.value ∙ and_both (is_number s.word) (is_whole (number_of s.word)) parts.0 (narrower low high (number_of s.word) few parts.1))))
            (λ e. e)
    by_item (Err none) (no_word s) = λ word more e. let no_words = s.none in let z : ◌≡◌ {A = ℕ} 0 1 = cc in absurd (omega arith)
