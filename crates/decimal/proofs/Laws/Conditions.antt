-- What a text gives and the condition of it are the same.
use Rattle.std.specs.Prelude.{ℕ, zero, suc, ◌^◌, ◌<◌, ◌≡◌, ◌↔◌, length, drop, eqb, ℤ, pos, negsuc}
use Rattle.std.proofs.Math.Path.{refl, ap}
use Rattle.std.proofs.Common.{sym, ◌∙◌, ap₂, subst, arith}
use Rattle.std.proofs.Math.Bool.{true, false}
use Rattle.std.proofs.lemmas.Bool.{false≢true}
use mathlib.Core.List.{List, [], ◌∷◌, ◌++◌, map}
use Rattle.std.specs.Int.Signed.{mag}
use borrow.Author.Tests.{not-true}
use Rattle.numbers.specs.Lists.{every}
use Rattle.numbers.specs.Ranges.{within}
use Rattle.numbers.proofs.Laws.Bools.{yes_or_no, both, and_both}
use Rattle.decimal.specs.Words.{Word, last_line}
use Rattle.decimal.specs.Numbers.{is_number, number_of, is_number_from}
use Rattle.decimal.specs.Table.{Read, got, wrong, map_read, Table, is_value_word, values_read, is_heading, has_more, body_read, limit_read, words_read, text_read}
use Rattle.decimal.specs.Conditions.{is_first, is_later, first_words, later_words, starts_with, HeadIs, ValuesAre, NoValue, ValueMissing, WordTooMany, LimitMissing, LineTooLong, Condition}
use Rattle.decimal.specs.declared.Expected.TheVariants.{Variables, Limit, LineEnd, Value, TextEnd}
use Rattle.decimal.proofs.Laws.Values.{value_read, other_read}
use Rattle.decimal.proofs.Laws.Tables.{variables_missing, limit_missing, variables_found, limit_found, body_more, body_values}
use Rattle.decimal.proofs.Laws.Lines.{words_parted, first_all, later_all}

-- ---- the values

-- The condition of each answer of the values.
abbrev ValuesCondition : ℕ → ℕ → List Word → Read (List ℤ) → Type 0
ValuesCondition end count later (got values) = ValuesAre count later values
ValuesCondition end count later (wrong line Variables) = ⊥
ValuesCondition end count later (wrong line Limit) = ⊥
ValuesCondition end count later (wrong line LineEnd) = ⊥
ValuesCondition end count later (wrong line Value) = ValueMissing end count later line
ValuesCondition end count later (wrong line TextEnd) = WordTooMany count later line

-- One value more in front.
value_before : (end count : ℕ) (word : Word) (more : List Word) → is_value_word word.bytes ≡ true → (read : Read (List ℤ)) → ValuesCondition end count more read → ValuesCondition end (suc count) (word ∷ more) (map_read (λ values. number_of word.bytes ∷ values) read)
unfolding every
value_before end count word more v (got values) c = record {
  many = ap suc c.many;
  all = and_both (is_value_word word.bytes) (every (λ word. is_value_word word.bytes) more) v c.all;
  numbers = ap (λ values. number_of word.bytes ∷ values) c.numbers;
}
value_before end count word more v (wrong line Variables) c = c
value_before end count word more v (wrong line Limit) c = c
value_before end count word more v (wrong line LineEnd) c = c
value_before end count word more v (wrong line Value) c = record {
  before = word ∷ c.before;
  after = c.after;
  split = ap (λ more. word ∷ more) c.split;
  few = (let f = c.few in omega arith);
  all = and_both (is_value_word word.bytes) (every (λ word. is_value_word word.bytes) c.before) v c.all;
  none = c.none;
}
value_before end count word more v (wrong line TextEnd) c = record {
  before = word ∷ c.before;
  word = c.word;
  after = c.after;
  split = ap (λ more. word ∷ more) c.split;
  many = ap suc c.many;
  all = and_both (is_value_word word.bytes) (every (λ word. is_value_word word.bytes) c.before) v c.all;
  here = c.here;
}

values_condition : (end count : ℕ) (later : List Word) → ValuesCondition end count later (values_read end count later)
unfolding values_read every
values_condition end zero [] = record { many = refl; all = refl; numbers = refl }
values_condition end zero (word ∷ more) = record { before = []; word = word; after = more; split = refl; many = refl; all = refl; here = refl }
values_condition end (suc count) [] = record { before = []; after = []; split = refl; few = omega arith; all = refl; none = refl }
values_condition end (suc count) (word ∷ more) =
    yes_or_no (is_value_word word.bytes)
    (λ v. rw (value_read end count word more v) (value_before end count word more v (values_read end count more) (values_condition end count more)))
    (λ v. rw (other_read end count word more v) (record { before = []; after = word ∷ more; split = refl; few = omega arith; all = refl; none = (v, refl) }))

-- The other way: the condition gives the answer.
all_values : (end : ℕ) (later : List Word) → every (λ word. is_value_word word.bytes) later ≡ true → values_read end (length later) later ≡ got (map (λ word. number_of word.bytes) later)
unfolding every values_read
all_values end [] e = refl
all_values end (word ∷ more) e =
    let parts = both (is_value_word word.bytes) (every (λ word. is_value_word word.bytes) more) e in
    value_read end (length more) word more parts.0 ∙ ap (map_read (λ values. number_of word.bytes ∷ values)) (all_values end more parts.1)

too_many : (end : ℕ) (before : List Word) (word : Word) (after : List Word) → every (λ word. is_value_word word.bytes) before ≡ true → values_read end (length before) (before ++ word ∷ after) ≡ wrong word.line TextEnd
unfolding every values_read
too_many end [] word after e = refl
too_many end (first ∷ before) word after e =
    let parts = both (is_value_word first.bytes) (every (λ word. is_value_word word.bytes) before) e in
    value_read end (length before) first (before ++ word ∷ after) parts.0 ∙ ap (map_read (λ values. number_of first.bytes ∷ values)) (too_many end before word after parts.1)

missing : (end count line : ℕ) (before after : List Word) → length before < count → every (λ word. is_value_word word.bytes) before ≡ true → NoValue end after line → values_read end count (before ++ after) ≡ wrong line Value
unfolding every values_read
missing end zero line before after few e none = absurd (omega arith)
missing end (suc count) line [] [] few e none = ap (λ line. wrong line Value) (sym none)
missing end (suc count) line [] (word ∷ after) few e none = other_read end count word after none.0 ∙ ap (λ line. wrong line Value) (sym none.1)
missing end (suc count) line (first ∷ before) after few e none =
    let parts = both (is_value_word first.bytes) (every (λ word. is_value_word word.bytes) before) e in
    value_read end count first (before ++ after) parts.0 ∙ ap (map_read (λ values. number_of first.bytes ∷ values)) (missing end count line before after (omega arith) parts.1 none)

-- ---- the first line

-- A number from 0 or more is its size.
from_zero : (low high : ℕ) (word : List ℕ) → is_number_from (pos low) (pos high) word ≡ true → number_of word ≡ pos (mag (number_of word))
unfolding is_number_from within
from_zero low high word e = by_sign (number_of word) (both (is_number word) (within (pos low) (pos high) (number_of word)) e).1
  where
    by_sign : (z : ℤ) → within (pos low) (pos high) z ≡ true → z ≡ pos (mag z)
    by_sign (pos a) w = refl
    by_sign (negsuc a) w = absurd (false≢true w)

-- A word of the first line is a heading where it is a number in range, and any other is none.
first_heads : (low high : ℕ) (word : Word) → is_first word ≡ true → is_heading low high word ≡ is_number_from (pos low) (pos high) word.bytes
unfolding is_heading is_first
first_heads low high word e = rw e

later_heads_not : (low high : ℕ) (word : Word) → is_later word ≡ true → is_heading low high word ≡ false
unfolding is_heading is_later is_first
later_heads_not low high word e = rw (not-true (eqb word.line 1) e)

-- The words of the first line and those below it, and what they give.
module _ (end : ℕ) (later : List Word) (below : every is_later later ≡ true) where
  -- Where the first line does not start with a number in range no word is a heading.
  no_heading : (low high : ℕ) (first : List Word) → every is_first first ≡ true → starts_with low high first ≡ false → (word : Word) (more : List Word) → first ++ later ≡ word ∷ more → is_heading low high word ≡ false
  unfolding every starts_with
  no_heading low high [] f s word more e = later_heads_not low high word (both (is_later word) (every is_later more) (ap (every is_later) (sym e) ∙ below)).0
  no_heading low high (here ∷ first) f s word more e =
      let same : here ≡ word = cc in
      ap (is_heading low high) (sym same) ∙ first_heads low high here (both (is_first here) (every is_first first) f).0 ∙ s

  no_variables : (first : List Word) → every is_first first ≡ true → starts_with 1 12 first ≡ false → words_read end (first ++ later) ≡ wrong 1 Variables
  no_variables first f s = variables_missing end (first ++ later) (no_heading 1 12 first f s)

  no_limit : (n : ℕ) (first : List Word) → every is_first first ≡ true → starts_with 0 255 first ≡ false → limit_read end n (first ++ later) ≡ wrong 1 Limit
  no_limit n first f s = limit_missing end (first ++ later) n (no_heading 0 255 first f s)

  with_variables : (word : Word) (first : List Word) → is_first word ≡ true → is_number_from (pos 1) (pos 12) word.bytes ≡ true → words_read end (word ∷ first ++ later) ≡ limit_read end (mag (number_of word.bytes)) (first ++ later)
  with_variables word first f e = variables_found end word (first ++ later) (first_heads 1 12 word f ∙ e)

  with_limit : (n : ℕ) (word : Word) (first : List Word) → is_first word ≡ true → is_number_from (pos 0) (pos 255) word.bytes ≡ true → limit_read end n (word ∷ first ++ later) ≡ body_read end n (mag (number_of word.bytes)) (first ++ later)
  with_limit n word first f e = limit_found end word (first ++ later) n (first_heads 0 255 word f ∙ e)

  too_long : (n limit : ℕ) (word : Word) (first : List Word) → is_first word ≡ true → body_read end n limit (word ∷ first ++ later) ≡ wrong 1 LineEnd
  unfolding has_more is_first
  too_long n limit word first f = body_more end n limit (word ∷ first ++ later) f

  values_below_lem : (n limit : ℕ) → body_read end n limit later ≡ map_read (λ values. record { n = n; limit = limit; values = values }) (values_read end (2 ^ n) later)
  unfolding every has_more is_later is_first
  values_below_lem n limit = body_values end n limit later (none_first later below)
    where
      none_first : (later : List Word) → every is_later later ≡ true → has_more later ≡ false
      none_first [] b = refl
      none_first (word ∷ more) b = not-true (eqb word.line 1) (both (is_later word) (every is_later more) b).0

  -- Two numbers in range alone on the first line.
  headed : (nWord limit_word : Word) {n limit : ℕ} → every is_first (nWord ∷ limit_word ∷ []) ≡ true → is_number_from (pos 1) (pos 12) nWord.bytes ≡ true → number_of nWord.bytes ≡ pos n → is_number_from (pos 0) (pos 255) limit_word.bytes ≡ true → number_of limit_word.bytes ≡ pos limit
      → words_read end (nWord ∷ limit_word ∷ [] ++ later) ≡ map_read (λ values. record { n = n; limit = limit; values = values }) (values_read end (2 ^ n) later)
  unfolding every
  headed nWord limit_word {n} {limit} f a b c d =
      let parts = both (is_first nWord) (every is_first (limit_word ∷ [])) f in
      with_variables nWord (limit_word ∷ []) parts.0 a
      ∙ ap (λ z. limit_read end (mag z) (limit_word ∷ later)) b
      ∙ with_limit n limit_word [] (both (is_first limit_word) true parts.1).0 c
      ∙ ap (λ z. body_read end n (mag z) later) d
      ∙ values_below_lem n limit

-- ---- what a text gives

module _ (text : List ℕ) where
  by_lines : text_read text ≡ words_read (last_line text) (first_words text ++ later_words text)
  unfolding text_read
  by_lines = ap (words_read (last_line text)) (words_parted text)

  -- The condition holds of what a text gives.
  with_head : (n limit : ℕ) → HeadIs text n limit → (read : Read (List ℤ)) → ValuesCondition (last_line text) (2 ^ n) (later_words text) read → Condition text (map_read (λ values. record { n = n; limit = limit; values = values }) read)
  with_head n limit h (got values) c = (h, c)
  with_head n limit h (wrong line Variables) c = absurd c
  with_head n limit h (wrong line Limit) c = absurd c
  with_head n limit h (wrong line LineEnd) c = absurd c
  with_head n limit h (wrong line Value) c = (n, (limit, (h, c)))
  with_head n limit h (wrong line TextEnd) c = (n, (limit, (h, c)))

  behind_limit : (the_n_word the_limit_word : Word) (first : List Word) → first_words text ≡ the_n_word ∷ the_limit_word ∷ first → every is_first (the_n_word ∷ the_limit_word ∷ first) ≡ true → is_number_from (pos 1) (pos 12) the_n_word.bytes ≡ true → is_number_from (pos 0) (pos 255) the_limit_word.bytes ≡ true
      → Condition text (words_read (last_line text) (the_n_word ∷ the_limit_word ∷ first ++ later_words text))
  unfolding every starts_with
  behind_limit the_n_word the_limit_word [] e f a b =
      let n_is = from_zero 1 12 the_n_word.bytes a in
      let limit_is = from_zero 0 255 the_limit_word.bytes b in
      rw (headed (last_line text) (later_words text) (later_all text) the_n_word the_limit_word f a n_is b limit_is)
      (with_head (mag (number_of the_n_word.bytes)) (mag (number_of the_limit_word.bytes))
      (record { nWord = the_n_word; limit_word = the_limit_word; alone = e; n_number = a; n_is = n_is; limit_number = b; limit_is = limit_is })
      (values_read (last_line text) (2 ^ mag (number_of the_n_word.bytes)) (later_words text))
      (values_condition (last_line text) (2 ^ mag (number_of the_n_word.bytes)) (later_words text)))
  behind_limit the_n_word the_limit_word (word ∷ first) e f a b =
      let n_first = both (is_first the_n_word) (every is_first (the_limit_word ∷ word ∷ first)) f in
      let limit_first = both (is_first the_limit_word) (every is_first (word ∷ first)) n_first.1 in
      let word_first = both (is_first word) (every is_first first) limit_first.1 in
      let end = last_line text in
      let later = later_words text in
      let below = later_all text in
      let gives : words_read end (the_n_word ∷ the_limit_word ∷ word ∷ first ++ later) ≡ wrong 1 LineEnd =
      with_variables end later below the_n_word (the_limit_word ∷ word ∷ first) n_first.0 a
      ∙ with_limit end later below (mag (number_of the_n_word.bytes)) the_limit_word (word ∷ first) limit_first.0 b
      ∙ too_long end later below (mag (number_of the_n_word.bytes)) (mag (number_of the_limit_word.bytes)) word first word_first.0 in
      rw gives (refl, record { variables = ap (starts_with 1 12) e ∙ a; limit = ap (λ first. starts_with 0 255 (drop 1 first)) e ∙ b; more = rw e (omega arith) })

  behind_variables : (the_n_word : Word) (first : List Word) → first_words text ≡ the_n_word ∷ first → every is_first (the_n_word ∷ first) ≡ true → is_number_from (pos 1) (pos 12) the_n_word.bytes ≡ true → Condition text (words_read (last_line text) (the_n_word ∷ first ++ later_words text))
  unfolding every starts_with
  behind_variables the_n_word first e f a =
      let n_first = both (is_first the_n_word) (every is_first first) f in
      yes_or_no (starts_with 0 255 first)
      (λ s. goes_on first e f s)
      (λ s.
      rw
      (with_variables (last_line text) (later_words text) (later_all text) the_n_word first n_first.0 a
      ∙ no_limit (last_line text) (later_words text) (later_all text) (mag (number_of the_n_word.bytes)) first n_first.1 s)
      (refl, record { variables = ap (starts_with 1 12) e ∙ a; limit = ap (λ first. starts_with 0 255 (drop 1 first)) e ∙ s }))
    where
      goes_on : (first : List Word) → first_words text ≡ the_n_word ∷ first → every is_first (the_n_word ∷ first) ≡ true → starts_with 0 255 first ≡ true → Condition text (words_read (last_line text) (the_n_word ∷ first ++ later_words text))
      goes_on [] e f s = absurd (false≢true s)
      goes_on (the_limit_word ∷ first) e f s = behind_limit the_n_word the_limit_word first e f a s

  by_first : (first : List Word) → first_words text ≡ first → every is_first first ≡ true → Condition text (words_read (last_line text) (first ++ later_words text))
  unfolding starts_with
  by_first [] e f = rw (no_variables (last_line text) (later_words text) (later_all text) [] f refl) (refl, ap (starts_with 1 12) e)
  by_first (word ∷ first) e f =
      yes_or_no (is_number_from (pos 1) (pos 12) word.bytes)
      (λ a. behind_variables word first e f a)
      (λ a. rw (no_variables (last_line text) (later_words text) (later_all text) (word ∷ first) f a) (refl, ap (starts_with 1 12) e ∙ a))

  condition_holds : Condition text (text_read text)
  condition_holds = rw by_lines (by_first (first_words text) refl (first_all text))

  -- And the text gives what has the condition.
  headed_by : {n limit : ℕ} → HeadIs text n limit → text_read text ≡ map_read (λ values. record { n = n; limit = limit; values = values }) (values_read (last_line text) (2 ^ n) (later_words text))
  headed_by h =
      by_lines
      ∙ ap (λ first. words_read (last_line text) (first ++ later_words text)) h.alone
      ∙ headed (last_line text) (later_words text) (later_all text) h.nWord h.limit_word (ap (every is_first) (sym h.alone) ∙ first_all text) h.n_number h.n_is h.limit_number h.limit_is

  limit_refused : (first : List Word) → every is_first first ≡ true → LimitMissing first → words_read (last_line text) (first ++ later_words text) ≡ wrong 1 Limit
  unfolding every starts_with
  limit_refused [] f c = absurd (false≢true c.variables)
  limit_refused (word ∷ first) f c =
      let parts = both (is_first word) (every is_first first) f in
      with_variables (last_line text) (later_words text) (later_all text) word first parts.0 c.variables
      ∙ no_limit (last_line text) (later_words text) (later_all text) (mag (number_of word.bytes)) first parts.1 c.limit

  line_refused : (first : List Word) → every is_first first ≡ true → LineTooLong first → words_read (last_line text) (first ++ later_words text) ≡ wrong 1 LineEnd
  unfolding every starts_with
  line_refused [] f c = absurd (false≢true c.variables)
  line_refused (the_n_word ∷ []) f c = absurd (false≢true c.limit)
  line_refused (the_n_word ∷ the_limit_word ∷ []) f c = absurd (let m = c.more in omega arith)
  line_refused (the_n_word ∷ the_limit_word ∷ word ∷ first) f c =
      let n_first = both (is_first the_n_word) (every is_first (the_limit_word ∷ word ∷ first)) f in
      let limit_first = both (is_first the_limit_word) (every is_first (word ∷ first)) n_first.1 in
      let word_first = both (is_first word) (every is_first first) limit_first.1 in
      with_variables (last_line text) (later_words text) (later_all text) the_n_word (the_limit_word ∷ word ∷ first) n_first.0 c.variables
      ∙ with_limit (last_line text) (later_words text) (later_all text) (mag (number_of the_n_word.bytes)) the_limit_word (word ∷ first) limit_first.0 c.limit
      ∙ too_long (last_line text) (later_words text) (later_all text) (mag (number_of the_n_word.bytes)) (mag (number_of the_limit_word.bytes)) word first word_first.0

  condition_gives : (read : Read Table) → Condition text read → text_read text ≡ read
  condition_gives (got table) c =
      let v = c.1 in
      headed_by c.0
      ∙ ap (map_read (λ values. record { n = table.n; limit = table.limit; values = values }))
      (ap (λ count. values_read (last_line text) count (later_words text)) (sym v.many) ∙ all_values (last_line text) (later_words text) v.all ∙ ap got v.numbers)
  condition_gives (wrong line Variables) c = by_lines ∙ no_variables (last_line text) (later_words text) (later_all text) (first_words text) (first_all text) c.1 ∙ ap (λ line. wrong line Variables) (sym c.0)
  condition_gives (wrong line Limit) c = by_lines ∙ limit_refused (first_words text) (first_all text) c.1 ∙ ap (λ line. wrong line Limit) (sym c.0)
  condition_gives (wrong line LineEnd) c = by_lines ∙ line_refused (first_words text) (first_all text) c.1 ∙ ap (λ line. wrong line LineEnd) (sym c.0)
  condition_gives (wrong line Value) c =
      let m = c.1.1.1 in
      headed_by c.1.1.0
      ∙ ap (map_read (λ values. record { n = c.0; limit = c.1.0; values = values }))
      (ap (values_read (last_line text) (2 ^ c.0)) m.split ∙ missing (last_line text) (2 ^ c.0) line m.before m.after m.few m.all m.none)
  condition_gives (wrong line TextEnd) c =
      let m = c.1.1.1 in
      headed_by c.1.1.0
      ∙ ap (map_read (λ values. record { n = c.0; limit = c.1.0; values = values }))
      (ap₂ (values_read (last_line text)) (sym m.many) m.split ∙ too_many (last_line text) m.before m.word m.after m.all ∙ ap (λ line. wrong line TextEnd) (sym m.here))

  pub given_exactly : (read : Read Table) → Condition text read ↔ (text_read text ≡ read)
  given_exactly read = (condition_gives read, λ e. subst (Condition text) e condition_holds)
