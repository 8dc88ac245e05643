-- From what a text gives, and the listing of its input, to what is written for the text.
use Rattle.std.specs.Prelude.{ℕ, ◌≤◌, ◌≡◌, refl, true, List, ◌++◌, length, take, drop, leb, Result, Ok, Err}
use Rattle.std.proofs.Common.{sym, ◌∙◌, arith, length-append, le-leb}
use Rattle.std.proofs.Math.Path.{ap, subst}
use Rattle.std.proofs.Math.Nat.{zero-add}
use Rattle.std.proofs.Math.Seq.{take_at}
use Rattle.numbers.proofs.Laws.Rows.{overwritten_front}
use Rattle.lines.specs.Inner.Writing.{Writes}
use Rattle.decimal.specs.Table.{Read, got, wrong, Table, text_read, input_of, input_room, parsed, parsed_buffer, Reads}
use Rattle.decimal.specs.declared.Wrong.{Wrong}
use Rattle.decimal.specs.declared.ParseError.{ParseError}
use Rattle.decimal.specs.declared.ParseError.TheVariants as errors
use Rattle.listing.specs.Listing.{listing}
use Rattle.table.specs.Listed.{answer_of, output_of, ListsText}

-- The length of an answered input.
input_length : Result ℕ ParseError → ℕ
input_length (Ok count) = count
input_length (Err error) = 0

-- What a text gives where the answer has this form.
Refuses : Read Table → ParseError → Type 0
Refuses read (errors.Wrong w) = read ≡ wrong w.line w.expected
Refuses read errors.TooShort = ⊥

Gives : Read Table → Result ℕ ParseError → Type 0
Gives read (Ok count) = (table : Table) × (read ≡ got table)
Gives read (Err error) = Refuses read error

gives : (read : Read Table) → Gives read (parsed read)
unfolding Gives Refuses parsed
gives (got table) = (table, refl)
gives (wrong line expected) = refl

module _ (text buffer : List ℕ) (answer : Result ℕ ParseError) (buffer' : List ℕ) (reads : Reads text buffer answer buffer') (room : input_room ≤ length buffer) where
  enough : leb input_room (length buffer) ≡ true
  enough = le-leb input_room (length buffer) room

  answered : answer ≡ parsed (text_read text)
  answered = reads.answered ∙ rw enough

  left : buffer' ≡ parsed_buffer (text_read text) buffer
  left = reads.left ∙ rw enough

  given : Gives (text_read text) answer
  given = rw answered (gives (text_read text))

  -- A buffer with room is not too short.
  pub room_enough : answer ≡ Err errors.TooShort → ⊥
  unfolding Gives Refuses
  room_enough short = subst (Gives (text_read text)) short given

  -- A text that is wrong is listed so.
  pub wrong_listed : (w : Wrong) → answer ≡ Err (errors.Wrong w) → (out : List ℕ) → ListsText text out (Err w) out
  unfolding Gives Refuses answer_of output_of
  wrong_listed w is out =
      let e : text_read text ≡ wrong w.line w.expected = subst (Gives (text_read text)) is given in
      record { answered = rw e; left = rw e }

  -- A text that gives a table leaves its input in front.
  module _ (count : ℕ) (is : answer ≡ Ok count) where
    table_given : (table : Table) × (text_read text ≡ got table)
    unfolding Gives
    table_given = subst (Gives (text_read text)) is given

    input_front : (count ≡ length (input_of table_given.0)) × (buffer' ≡ input_of table_given.0 ++ drop (length (input_of table_given.0)) buffer)
    unfolding input_length parsed parsed_buffer
    input_front = (
      ap input_length (sym is ∙ answered ∙ ap parsed table_given.1),
      left ∙ ap (λ read. parsed_buffer read buffer) table_given.1,
    )

    pub input_inside : count ≤ length buffer'
    input_inside = let n = input_front.0 in rw (input_front.1, length-append) (omega arith)

    pub input_listed : (out out' : List ℕ) (size : ℕ) → Writes out 0 (listing (take count buffer')) size out' → ListsText text out (Ok size) out'
    unfolding answer_of output_of
    input_listed out out' size written =
        let t = table_given.0 in
        let front : take count buffer' ≡ input_of t = ap (take count) input_front.1 ∙ take_at (input_of t) (drop (length (input_of t)) buffer) count (sym input_front.0) in
        let w : Writes out 0 (listing (input_of t)) size out' = subst (λ input. Writes out 0 (listing input) size out') front written in
        record {
          answered = rw table_given.1 (ap Ok (w.behind ∙ zero-add (length (listing (input_of t)))));
          left = rw table_given.1 (w.written ∙ overwritten_front out (listing (input_of t)));
        }

-- The length of a listing.
listing_length : Result ℕ Wrong → ℕ
listing_length (Ok size) = size
listing_length (Err w) = 0

-- An answered listing lies within the bytes written.
within : (read : Read Table) (out out' : List ℕ) (size : ℕ) → size ≡ listing_length (answer_of read) → out' ≡ output_of read out → size ≤ length out'
unfolding listing_length answer_of output_of
within (got table) out out' size s e = rw (e, length-append) (omega arith)
within (wrong line expected) out out' size s e = omega arith

pub listing_inside : (text out : List ℕ) (answer : Result ℕ Wrong) (out' : List ℕ) → ListsText text out answer out' → (size : ℕ) → answer ≡ Ok size → size ≤ length out'
unfolding listing_length
listing_inside text out answer out' lists size is = within (text_read text) out out' size (ap listing_length (sym is ∙ lists.answered)) lists.left
