-- What a text gives, step by step, and the answer for it.
use Rattle.std.specs.Prelude.{ℕ, ◌^◌, ◌≤◌, ◌<◌, ◌≡◌, true, false, Result, Ok, Err, None}
use Rattle.std.proofs.Math.Path.{refl, sym, ap}
use Rattle.std.proofs.Common.{◌∙◌}
use mathlib.Core.List.{List, [], ◌∷◌}
use native.Mathlib.Omega.{arith}
use Rattle.std.proofs.Math.ListN.{length}
use Rattle.std.specs.Int.Signed.{mag}
use borrow.Author.Tests.{le-leb, lt-leb}
use Rattle.numbers.specs.Ranges.{most_variables}
use Rattle.numbers.proofs.Laws.Rows.{overwritten_front}
use Rattle.lines.specs.Inner.Writing.{Writes}
use Rattle.decimal.specs.Words.{Word, last_line}
use Rattle.decimal.specs.Numbers.{number_of}
use Rattle.decimal.specs.Table.{Read, got, wrong, map_read, Table, values_read, is_heading, has_more, body_read, limit_read, words_read, text_read, input_of, input_room, parsed, parsed_buffer, Reads, values_found}
use Rattle.decimal.specs.declared.Expected.TheVariants.{Variables, Limit, LineEnd}
use Rattle.decimal.specs.declared.Wrong.{Wrong}
use Rattle.decimal.specs.declared.ParseError.{ParseError}
use Rattle.decimal.specs.declared.ParseError.TheVariants as errors
use Rattle.decimal.specs.Inner.Positions.{words_at}
use Rattle.decimal.specs.Inner.Values.{body_judged, table_judged, Answers}
use Rattle.decimal.proofs.Laws.Positions.{start_words}
use Rattle.decimal.proofs.Laws.Items.{HeadingFound, HeadingSeen}
use Rattle.decimal.proofs.Laws.Values.{good_values}

-- ---- the first line

module _ (end : ℕ) (words : List Word) where
  pub variables_missing : ((word : Word) (more : List Word) → words ≡ word ∷ more → is_heading 1 12 word ≡ false) → words_read end words ≡ wrong 1 Variables
  unfolding words_read most_variables
  variables_missing none = by_words words none
    where
      by_words : (words : List Word) → ((word : Word) (more : List Word) → words ≡ word ∷ more → is_heading 1 12 word ≡ false) → words_read end words ≡ wrong 1 Variables
      by_words [] none = refl
      by_words (word ∷ more) none = rw (none word more refl, words_read)

  pub limit_missing : (n : ℕ) → ((word : Word) (more : List Word) → words ≡ word ∷ more → is_heading 0 255 word ≡ false) → limit_read end n words ≡ wrong 1 Limit
  unfolding limit_read
  limit_missing n none = by_words words none
    where
      by_words : (words : List Word) → ((word : Word) (more : List Word) → words ≡ word ∷ more → is_heading 0 255 word ≡ false) → limit_read end n words ≡ wrong 1 Limit
      by_words [] none = refl
      by_words (word ∷ more) none = rw (none word more refl, limit_read)

module _ (end : ℕ) (word : Word) (more : List Word) where
  pub variables_found : is_heading 1 12 word ≡ true → words_read end (word ∷ more) ≡ limit_read end (mag (number_of word.bytes)) more
  unfolding words_read most_variables
  variables_found e = rw (e, words_read)

  pub limit_found : (n : ℕ) → is_heading 0 255 word ≡ true → limit_read end n (word ∷ more) ≡ body_read end n (mag (number_of word.bytes)) more
  unfolding limit_read
  limit_found n e = rw (e, limit_read)

module _ (text : List ℕ) where
  at_start : text_read text ≡ words_read (last_line text) (words_at text (record { at = 0; line = 1 }))
  unfolding text_read
  at_start = ap (words_read (last_line text)) (sym (start_words text))

  -- n is missing, or the limit comes next.
  pub no_variables : HeadingSeen text 0 1 12 None → text_read text ≡ wrong 1 Variables
  no_variables none = at_start ∙ variables_missing (last_line text) (words_at text (record { at = 0; line = 1 })) none

  pub variables_first : {n next : ℕ} → HeadingFound text 0 1 12 n next → text_read text ≡ limit_read (last_line text) n (words_at text (record { at = next; line = 1 }))
  variables_first {next = next} f =
      at_start
      ∙ ap (words_read (last_line text)) f.first
      ∙ variables_found (last_line text) (record { line = 1; bytes = f.word }) (words_at text (record { at = next; line = 1 })) f.heads
      ∙ ap (λ n. limit_read (last_line text) n (words_at text (record { at = next; line = 1 }))) (sym f.number_is)

  -- The limit is missing, or the rest comes next.
  pub no_limit : (n at : ℕ) → HeadingSeen text at 0 255 None → limit_read (last_line text) n (words_at text (record { at = at; line = 1 })) ≡ wrong 1 Limit
  no_limit n at none = limit_missing (last_line text) (words_at text (record { at = at; line = 1 })) n none

  pub limit_second : (n at : ℕ) {limit next : ℕ} → HeadingFound text at 0 255 limit next → limit_read (last_line text) n (words_at text (record { at = at; line = 1 })) ≡ body_read (last_line text) n limit (words_at text (record { at = next; line = 1 }))
  limit_second n at {next = next} f =
      ap (limit_read (last_line text) n) f.first
      ∙ limit_found (last_line text) (record { line = 1; bytes = f.word }) (words_at text (record { at = next; line = 1 })) n f.heads
      ∙ ap (λ limit. body_read (last_line text) n limit (words_at text (record { at = next; line = 1 }))) (sym f.number_is)

-- ---- what follows it

checked_wrong : {A : Type 0} (read : Read A) (w : Wrong) → body_judged read ≡ Err w → read ≡ wrong w.line w.expected
unfolding body_judged
checked_wrong (got a) w e = cc
checked_wrong (wrong line expected) w e = let same : ◌≡◌ {A = Wrong} (record { line = line; expected = expected }) w = cc in ap (λ (w : Wrong). wrong w.line w.expected) same

module _ (end n limit : ℕ) (words : List Word) where
  pub body_more : has_more words ≡ true → body_read end n limit words ≡ wrong 1 LineEnd
  unfolding body_read
  body_more e = rw (e, body_read)

  pub body_values : has_more words ≡ false → body_read end n limit words ≡ map_read (λ values. record { n = n; limit = limit; values = values }) (values_read end (2 ^ n) words)
  unfolding body_read
  body_values e = rw (e, body_read)

  module _ (count : ℕ) (c : count ≡ 2 ^ n) where
    pub table_wrong : (w : Wrong) → body_judged (values_read end count words) ≡ Err w → map_read {B = Table} (λ values. record { n = n; limit = limit; values = values }) (values_read end (2 ^ n) words) ≡ wrong w.line w.expected
    table_wrong w e = ap (map_read (λ values. record { n = n; limit = limit; values = values })) (ap (λ k. values_read end k words) (sym c) ∙ checked_wrong (values_read end count words) w e)

    pub table_good : body_judged (values_read end count words) ≡ Ok tt → map_read {B = Table} (λ values. record { n = n; limit = limit; values = values }) (values_read end (2 ^ n) words) ≡ got (record { n = n; limit = limit; values = values_found count words })
    table_good g = ap (map_read (λ values. record { n = n; limit = limit; values = values })) (ap (λ k. values_read end k words) (sym c) ∙ (good_values end count words g).0)

-- ---- the answer

module _ {read : Read Table} where
  -- Where the text is wrong the buffer is left.
  pub wrong_answers : (w : Wrong) (buffer : List ℕ) → read ≡ wrong w.line w.expected → Answers read buffer (Err w) buffer
  unfolding table_judged parsed_buffer
  wrong_answers w buffer e = record { answered = sym (ap table_judged e); left = sym (ap (λ read. parsed_buffer read buffer) e) }

  -- Else it has the input in front.
  pub got_answers : (table : Table) (buffer : List ℕ) {next : ℕ} {buffer' : List ℕ} → read ≡ got table → Writes buffer 0 (input_of table) next buffer' → Answers read buffer (Ok next) buffer'
  unfolding table_judged parsed_buffer
  got_answers table buffer {next} e w = record {
    answered = ap Ok (let b = w.behind in let l : next ≡ length (input_of table) = omega arith in l) ∙ sym (ap table_judged e);
    left = w.written ∙ overwritten_front buffer (input_of table) ∙ sym (ap (λ read. parsed_buffer read buffer) e);
  }

-- What is read in two ways has the same answer.
pub same_answers : {read read' : Read Table} {buffer : List ℕ} {answer : Result ℕ Wrong} {buffer' : List ℕ} → read ≡ read' → Answers read' buffer answer buffer' → Answers read buffer answer buffer'
same_answers {buffer = buffer} e a = record { answered = a.answered ∙ sym (ap table_judged e); left = a.left ∙ sym (ap (λ read. parsed_buffer read buffer) e) }

-- The answer of what is read, as that of a text.
unfoldable pub passed_on : Result ℕ Wrong → Result ℕ ParseError
passed_on (Ok size) = Ok size
passed_on (Err w) = Err (errors.Wrong w)

parsed_on : (read : Read Table) → passed_on (table_judged read) ≡ parsed read
unfolding passed_on table_judged parsed
parsed_on (got table) = refl
parsed_on (wrong line expected) = refl

module _ (text buffer : List ℕ) where
  -- A buffer that does not hold every input.
  pub reads_short : length buffer < 16386 → Reads text buffer (Err errors.TooShort) buffer
  unfolding input_room most_variables
  reads_short l = let short = lt-leb 16386 (length buffer) l in record { answered = rw short; left = rw short }

  -- A buffer that does: the answer and the buffer are those of what the text gives.
  pub reads_enough : {read : Read Table} {answer : Result ℕ Wrong} {buffer' : List ℕ} → 16386 ≤ length buffer → text_read text ≡ read → Answers read buffer answer buffer' → Reads text buffer (passed_on answer) buffer'
  unfolding input_room most_variables
  reads_enough l e a =
      let enough = le-leb 16386 (length buffer) l in
      let same = same_answers e a in
      record { answered = rw enough (ap passed_on same.answered ∙ parsed_on (text_read text)); left = rw enough same.left }
