-- The values of a text, read one after the other.
use Rattle.std.specs.Prelude.{ℕ, zero, suc, ◌+◌, ◌-◌, ◌≤◌, ◌<◌, ◌≡◌, refl, true, false, length, set, ℤ, Result, Ok, Err}
use Rattle.std.proofs.Common.{sym, ◌∙◌, ap₂, length-append}
use Rattle.std.proofs.Math.Path.{ap}
use mathlib.Core.List.{List, [], ◌∷◌, ◌++◌, append-nil, append_assoc}
use native.Mathlib.Omega.{arith}
use Rattle.numbers.specs.Lists.{overwritten}
use Rattle.numbers.proofs.Laws.Bools.{yes_or_no}
use Rattle.numbers.proofs.Laws.Rows.{overwritten_none}
use Rattle.numbers.proofs.Laws.Written.{length_kept, stored_behind}
use Rattle.decimal.specs.Words.{Word, last_line}
use Rattle.decimal.specs.Numbers.{number_of}
use Rattle.decimal.specs.Table.{Read, got, wrong, map_read, is_value_word, values_read, values_found}
use Rattle.std.specs.Result.{MatchResult}
use Rattle.decimal.specs.declared.Position.{Position}
use Rattle.decimal.specs.declared.Item.{Item}
use Rattle.decimal.specs.declared.NoNumber.{NoNumber}
use Rattle.decimal.specs.declared.Wrong.{Wrong}
use Rattle.decimal.specs.declared.Expected.TheVariants.{Value}
use Rattle.decimal.specs.Inner.Positions.{words_at, PositionIn}
use Rattle.decimal.specs.Inner.Values.{body_judged}
use Rattle.decimal.proofs.Laws.Items.{SeenValue, SeenOther, some_word, no_word}

-- ---- one value more

module _ (end count : ℕ) (word : Word) (more : List Word) where
  pub value_read : is_value_word word.bytes ≡ true → values_read end (suc count) (word ∷ more) ≡ map_read (λ values. number_of word.bytes ∷ values) (values_read end count more)
  unfolding values_read
  value_read e = rw (e, values_read)

  value_found : is_value_word word.bytes ≡ true → values_found (suc count) (word ∷ more) ≡ number_of word.bytes ∷ values_found count more
  unfolding values_found
  value_found e = rw (e, values_found)

  pub other_read : is_value_word word.bytes ≡ false → values_read end (suc count) (word ∷ more) ≡ wrong word.line Value
  unfolding values_read
  other_read e = rw (e, values_read)

  other_found : is_value_word word.bytes ≡ false → values_found (suc count) (word ∷ more) ≡ []
  unfolding values_found
  other_found e = rw (e, values_found)

-- What is done to the values does not change whether they are there.
checked_map : {A B : Type 0} (f : A → B) (read : Read A) → body_judged (map_read f read) ≡ body_judged read
unfolding body_judged
checked_map f (got a) = refl
checked_map f (wrong line expected) = refl

map_twice : {A B C : Type 0} (f : A → B) (g : B → C) (read : Read A) → map_read g (map_read f read) ≡ map_read (λ a. g (f a)) read
map_twice f g (got a) = refl
map_twice f g (wrong line expected) = refl

map_same : {A B : Type 0} (f g : A → B) → ((a : A) → f a ≡ g a) → (read : Read A) → map_read f read ≡ map_read g read
map_same f g same (got a) = ap got (same a)
map_same f g same (wrong line expected) = refl

-- ---- the values so far

-- The values found so far, those that are left, and the row with those found in front.
pub record ValuesSoFar (text : List ℕ) (start : Position) (count : ℕ) (row : List ℤ) (place : Position) (j : ℕ) (row' : List ℤ) : Type 0 where
  pub placed : PositionIn text place
  pub few : j ≤ count
  pub found : List ℤ
  pub many : length found ≡ j
  pub left : values_read (last_line text) count (words_at text start) ≡ map_read (λ more. found ++ more) (values_read (last_line text) (count - j) (words_at text place))
  pub all : values_found count (words_at text start) ≡ found ++ values_found (count - j) (words_at text place)
  pub written : row' ≡ overwritten row 0 found

module _ (text : List ℕ) (start : Position) (count : ℕ) (row : List ℤ) where
  pub no_values : PositionIn text start → ValuesSoFar text start count row start 0 row
  no_values p = record {
    placed = p;
    few = omega arith;
    found = [];
    many = refl;
    left = ap (λ k. values_read (last_line text) k (words_at text start)) all_left ∙ sym (unchanged (values_read (last_line text) (count - 0) (words_at text start)));
    all = ap (λ k. values_found k (words_at text start)) all_left;
    written = sym (overwritten_none row 0);
  }
    where
      all_left : count ≡ count - 0
      all_left = omega arith

      unchanged : (read : Read (List ℤ)) → map_read (λ more. [] ++ more) read ≡ read
      unchanged (got values) = refl
      unchanged (wrong line expected) = refl

  module _ {place : Position} {j : ℕ} {row' : List ℤ} (v : ValuesSoFar text start count row place j row') where
    -- The row is as long as before.
    pub values_kept : count ≤ length row → length row' ≡ length row
    values_kept room = length_kept row 0 v.found v.written (let m = v.many in let f = v.few in omega arith)

    -- All are found.
    pub all_checked : count ≤ j → body_judged (values_read (last_line text) count (words_at text start)) ≡ body_judged (values_read (last_line text) 0 (words_at text place))
    all_checked l =
        ap body_judged v.left
        ∙ checked_map (λ more. v.found ++ more) (values_read (last_line text) (count - j) (words_at text place))
        ∙ ap (λ k. body_judged (values_read (last_line text) k (words_at text place))) (let e : count - j ≡ 0 = omega arith in e)

    pub all_written : count ≤ j → row' ≡ overwritten row 0 (values_found count (words_at text start))
    unfolding values_found
    all_written l =
        v.written
        ∙ ap (overwritten row 0)
        (sym (v.all ∙ ap (λ k. v.found ++ values_found k (words_at text place)) (let e : count - j ≡ 0 = omega arith in e) ∙ append-nil v.found))

    module _ (l : j < count) where
      one_less : count - j ≡ suc (count - (j + 1))
      one_less = omega arith

      -- A value more.
      pub next_value : {number : ℤ} {behind : Position} → count ≤ length row → SeenValue text place number behind → ValuesSoFar text start count row behind (j + 1) (set row' j number)
      next_value {number} {behind} room s =
          let m = v.many in
          let word : Word = record { line = behind.line; bytes = s.word } in
          let rest = values_read (last_line text) (count - (j + 1)) (words_at text behind) in
          record {
            placed = s.placed;
            few = omega arith;
            found = v.found ++ number ∷ [];
            many = length-append v.found (number ∷ []) ∙ omega arith;
            left =
                v.left
                ∙ ap (map_read (λ more. v.found ++ more))
                (ap₂ (values_read (last_line text)) one_less s.first
                ∙ value_read (last_line text) (count - (j + 1)) word (words_at text behind) s.value
                ∙ ap (λ z. map_read (λ values. z ∷ values) rest) (sym s.number_is))
                ∙ map_twice (λ values. number ∷ values) (λ more. v.found ++ more) rest
                ∙ map_same (λ values. v.found ++ number ∷ values) (λ more. (v.found ++ number ∷ []) ++ more) (λ values. sym (append_assoc v.found (number ∷ []) values)) rest;
            all =
                v.all
                ∙ ap (λ more. v.found ++ more)
                (ap₂ values_found one_less s.first
                ∙ value_found (last_line text) (count - (j + 1)) word (words_at text behind) s.value
                ∙ ap (λ z. z ∷ values_found (count - (j + 1)) (words_at text behind)) (sym s.number_is))
                ∙ sym (append_assoc v.found (number ∷ []) (values_found (count - (j + 1)) (words_at text behind)));
            written = stored_behind row 0 v.found v.written j number (omega arith) (omega arith);
          }

      -- The text goes wrong here: the answer, and the row with those before.
      wrong_here : {line : ℕ} → values_read (last_line text) (suc (count - (j + 1))) (words_at text place) ≡ wrong line Value → body_judged (values_read (last_line text) count (words_at text start)) ≡ Err (record { line = line; expected = Value })
      unfolding body_judged
      wrong_here e = ap body_judged (v.left ∙ ap (map_read (λ more. v.found ++ more)) (ap (λ k. values_read (last_line text) k (words_at text place)) one_less ∙ e))

      written_here : values_found (suc (count - (j + 1))) (words_at text place) ≡ [] → row' ≡ overwritten row 0 (values_found count (words_at text start))
      written_here e = v.written ∙ ap (overwritten row 0) (sym (v.all ∙ ap (λ more. v.found ++ more) (ap (λ k. values_found k (words_at text place)) one_less ∙ e) ∙ append-nil v.found))

      pub other_checked : {line : ℕ} → SeenOther text place line → body_judged (values_read (last_line text) count (words_at text start)) ≡ Err (record { line = line; expected = Value })
      unfolding values_read
      other_checked {line} (some_word s) = wrong_here (ap (values_read (last_line text) (suc (count - (j + 1)))) s.first ∙ other_read (last_line text) (count - (j + 1)) (record { line = line; bytes = s.word }) s.more s.value)
      other_checked (no_word s) = wrong_here (ap (values_read (last_line text) (suc (count - (j + 1)))) s.none ∙ ap (λ line. wrong line Value) (sym s.last))

      pub other_written : {line : ℕ} → SeenOther text place line → row' ≡ overwritten row 0 (values_found count (words_at text start))
      unfolding values_found
      other_written {line} (some_word s) = written_here (ap (values_found (suc (count - (j + 1)))) s.first ∙ other_found (last_line text) (count - (j + 1)) (record { line = line; bytes = s.word }) s.more s.value)
      other_written (no_word s) = written_here (ap (values_found (suc (count - (j + 1)))) s.none)

-- Where no number comes next, whose error says so.
pub missed : (r : Result Item NoNumber) (w : Wrong) {P : NoNumber → Type 0} → MatchResult r (λ item. ◌≡◌ {A = Result Item Wrong} (Err w) (Ok item)) P
    → ((none : NoNumber) → P none → w ≡ record { line = none.line; expected = Value }) → (line : ℕ) × (r ≡ Err (record { line = line })) × (w ≡ record { line = line; expected = Value })
missed (Ok item) w e say = cc
missed (Err none) w e say = (none.line, refl, say none e)

pub came : (r : Result Item NoNumber) (item : Item) → MatchResult r (λ other. ◌≡◌ {A = Result Item Wrong} (Ok item) (Ok other)) (λ none. ⊥) → r ≡ Ok item
came (Ok other) item e = cc
came (Err none) item e = absurd e

-- ---- values that are all there

-- They are those found, as many as asked for.
pub good_values : (end count : ℕ) (words : List Word) → body_judged (values_read end count words) ≡ Ok tt → (values_read end count words ≡ got (values_found count words)) × (length (values_found count words) ≡ count)
unfolding body_judged values_read values_found
good_values end zero [] e = (refl, refl)
good_values end zero (word ∷ more) e = let z : ◌≡◌ {A = ℕ} 0 1 = cc in absurd (omega arith)
good_values end (suc count) [] e = let z : ◌≡◌ {A = ℕ} 0 1 = cc in absurd (omega arith)
good_values end (suc count) (word ∷ more) e =
    yes_or_no (is_value_word word.bytes)
    (λ v.
    let before = good_values end count more (sym (checked_map (λ values. number_of word.bytes ∷ values) (values_read end count more)) ∙ ap body_judged (sym (value_read end count word more v)) ∙ e) in
    let found = value_found end count word more v in (
      value_read end count word more v ∙ ap (map_read (λ values. number_of word.bytes ∷ values)) before.0 ∙ ap got (sym found),
      ap length found ∙ ap suc before.1,
    ))
    (λ v. let w = ap body_judged (sym (other_read end count word more v)) ∙ e in let z : ◌≡◌ {A = ℕ} 0 1 = cc in absurd (omega arith))
