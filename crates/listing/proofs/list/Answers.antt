-- `listing::list` meets its contract, by the length of its buffer.
use Rattle.std.proofs.Common.{◌∙◌, ap, length, zero-add, Ok}
use Rattle.std.proofs.lemmas.Bool.{le-leb, lt-leb}
use Rattle.numbers.proofs.Laws.Rows.{overwritten_front}
use Rattle.listing.specs.Listing.{listing}
use Rattle.listing.specs.Program.{text_room, list_answer, list_buffer}
use Rattle.listing.proofs.list.Goals as goal

pub returns-then-text-lt-TEXT_ROOM : goal.returns-then-text-lt-TEXT_ROOM
unfolding list_answer list_buffer text_room
returns-then-text-lt-TEXT_ROOM c =
    let short = lt-leb 113248 (length c.args.text.now) c.if-text-lt-TEXT_ROOM.true in
    record { answered = rw short; left = rw short }

pub list_input-requires : goal.list_input-requires
unfolding text_room
list_input-requires c = c.if-text-lt-TEXT_ROOM.false

pub returns : goal.returns
unfolding list_answer list_buffer text_room
returns c =
    let text = listing c.args.input.now in
    let w = c.list_input.ensures in
    let enough = le-leb 113248 (length c.args.text.now) c.if-text-lt-TEXT_ROOM.false in
    record { answered = rw enough (ap Ok (w.behind ∙ zero-add (length text))); left = rw enough (w.written ∙ overwritten_front c.args.text.now text) }
