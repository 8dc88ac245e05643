-- `table::list_text` meets its contract: its input has room for every table, and its text for every listing.
use Rattle.std.specs.Prelude.{ℕ, ◌≤◌, List, length, replicate, Err}
use Rattle.std.proofs.Common.{◌∙◌, sym, arith, length-take-le}
use Rattle.std.proofs.Math.Path.{ap}
use Rattle.std.proofs.Math.Dec.{lit≤}
use Rattle.std.proofs.lemmas.List.{length-replicate}
use Rattle.numbers.specs.Ranges.{most_variables}
use Rattle.decimal.specs.Table.{input_room}
use Rattle.listing.specs.Program.{text_room}
use Rattle.table.proofs.Laws.{room_enough, wrong_listed, input_inside, input_listed}
use Rattle.table.proofs.list_text.Goals as goal
use Rattle.table.proofs.list_text.Goals.{In-Ok}

abbrev zeros : List ℕ
zeros = replicate 16386 0

-- The input has room for every table.
room : input_room ≤ length zeros
unfolding input_room most_variables
room = rw (length-replicate {A = ℕ} 16386 0) (lit≤ tt)

inside : (c : In-Ok) → c.in-Ok.length ≤ length c.parse.new.input
inside c = input_inside c.args.text.now zeros c.parse.result c.parse.new.input c.parse.ensures room _ c.in-Ok.is

pub slice_bounds-input-end : goal.slice_bounds-input-end
slice_bounds-input-end c = inside (goal.at.slice_bounds-input-end c).In-Ok

pub slice_bounds-list_input-end : goal.slice_bounds-list_input-end
slice_bounds-list_input-end c = sym (length-take-le _ _ (inside (goal.at.slice_bounds-list_input-end c).In-Ok))

pub list_input-requires : goal.list_input-requires
unfolding text_room
list_input-requires c = omega arith

pub returns-in-Err-Wrong : goal.returns-in-Err-Wrong
returns-in-Err-Wrong c =
    let is = c.in-Err-Wrong.is ∙ ap Err c.in-Err-Wrong.field-0-is in
    rw c.in-Err-Wrong.wrong-is (wrong_listed c.args.text.now zeros c.parse.result c.parse.new.input c.parse.ensures room _ is _)

pub returns-in-Err-TooShort : goal.returns-in-Err-TooShort
returns-in-Err-TooShort c =
    let is = c.in-Err-TooShort.is ∙ ap Err c.in-Err-TooShort.field-0-is in
    absurd (room_enough c.args.text.now zeros c.parse.result c.parse.new.input c.parse.ensures room is)

pub returns-in-Ok : goal.returns-in-Ok
returns-in-Ok c = input_listed c.args.text.now zeros c.parse.result c.parse.new.input c.parse.ensures room _ c.in-Ok.is _ _ _ c.list_input.ensures
