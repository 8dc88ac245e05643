-- `listing::list_kept` meets its contract: its text has room for every listing.
use Rattle.std.proofs.Common.{◌≤◌, sym, ◌∙◌, ap, length, arith, Ok}
use Rattle.std.specs.Result.{result_unwrap_or}
use Rattle.listing.specs.Program.{text_room}
use Rattle.listing.proofs.Laws.Kept.{answered, text_listed}
use Rattle.listing.proofs.list_kept.Goals as goal

pub returns : goal.returns
unfolding text_room
returns c =
    let a = c.args in
    let room : 113248 ≤ length a.text.now = omega arith in
    let is = answered a.kept.now a.text.now c.list.result _ c.list.ensures room in
    let count = c.unwrap_or.ensures ∙ ap (λ result. result_unwrap_or result 0) is in
    text_listed a.kept.now a.text.now c.list.result _ c.list.ensures room c.unwrap_or.result (is ∙ ap Ok (sym count))
