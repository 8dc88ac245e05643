-- What an answer says where the text has room.
use Rattle.std.proofs.Common.{ℕ, ◌≤◌, ◌≡◌, sym, ◌∙◌, ap, true, List, ◌++◌, length, drop, take_at, leb, le-leb, Result, Ok, Err}
use Rattle.std.specs.Result.{result_unwrap_or}
use Rattle.listing.specs.Listing.{listing}
use Rattle.listing.specs.Program.{text_room, list_answer, list_buffer, Lists}
use Rattle.listing.proofs.Laws.Listed.{bytes_beyond}
use Rattle.listing.specs.declared.TooShort.{TooShort}
use Rattle.listing.specs.Kept.{kept_bytes, ListsKept}

module _ (kept text : List ℕ) (answer : Result ℕ TooShort) (text' : List ℕ) (lists : Lists kept text answer text') (room : text_room ≤ length text) where
  enough : leb text_room (length text) ≡ true
  enough = le-leb text_room (length text) room

  pub answered : answer ≡ Ok (length (listing kept))
  unfolding list_answer
  answered = lists.answered ∙ rw enough

  left : text' ≡ listing kept ++ drop (length (listing kept)) text
  unfolding list_buffer
  left = lists.left ∙ rw enough

  -- Where the text has room, it is answered.
  pub text_answered : (short : TooShort) → answer ≡ Err short → ⊥
  text_answered short e = let c : ◌≡◌ {A = Result ℕ TooShort} (Ok (length (listing kept))) (Err short) = sym answered ∙ e in cc

  -- What the answered text says of every input of which these bytes are kept.
  pub text_listed : (count : ℕ) → answer ≡ Ok count → ListsKept kept text count text'
  unfolding kept_bytes
  text_listed count is = record {
    counted = counted;
    written = written;
    of_whole = λ input same. rw written (take_at (listing kept) (drop count text) count (sym counted)) ∙ ap listing same ∙ bytes_beyond input;
  }
    where
      counted : count ≡ length (listing kept)
      counted = ap (λ result. result_unwrap_or result 0) (sym is ∙ answered)

      written : text' ≡ listing kept ++ drop count text
      written = left ∙ rw counted
