-- `listing::list_input` meets its contract, by the checks on the input's bytes.
use Rattle.std.proofs.Common.{◌≡◌, sym, ◌∙◌, ap, arith}
use Rattle.numbers.specs.Answers.{refused}
use Rattle.numbers.specs.Refusals.{answer_of}
use Rattle.listing.specs.Listing.{listed}
use Rattle.listing.proofs.Laws.Listed.{check_refused, check_passed, refusal_listed}
use Rattle.listing.proofs.Laws.Texts.{refusal_fits}
use Rattle.listing.proofs.list_input.Goals as goal
use Rattle.listing.proofs.list_input.Goals.{After-from}

-- The refusal of the checks is the listing's.
turned : (c : After-from) → listed c.args.input.now ≡ refused c.from.result
unfolding answer_of
turned c = check_refused c.args.input.now c.from.result (sym c.check_input.ensures ∙ ap answer_of c.in-Err.is ∙ ap refused (sym c.from.ensures))

pub write_refusal-requires : goal.write_refusal-requires
write_refusal-requires c = refusal_fits _ c.args.text.now (omega arith) c.requires

pub returns-in-Err : goal.returns-in-Err
returns-in-Err c = rw (refusal_listed c.args.input.now _ (turned (goal.at.returns-in-Err c).After-from)) c.write_refusal.ensures

pub list_values-requires : goal.list_values-requires
unfolding answer_of
list_values-requires c =
    let passed = check_passed c.args.input.now (sym c.check_input.ensures ∙ ap answer_of c.in_default.is) in
    record { inside = passed.0; counted = passed.1; room = c.requires }

pub returns : goal.returns
returns c = c.list_values.ensures
