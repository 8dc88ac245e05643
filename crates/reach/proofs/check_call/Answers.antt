-- `reach::check_call` meets its contract.
use Rattle.std.specs.Prelude.{Err}
use Rattle.std.proofs.Common.{rules, ◌≡◌, sym, ◌∙◌, ap}
use Rattle.numbers.specs.Answers.{accepted, unless}
use Rattle.numbers.specs.Refusals.{number, answer_of}
use Rattle.diagram.proofs.Laws.Builds.{passed_table}
use Rattle.reach.specs.Inner.Checks.{call_checks}
use Rattle.reach.proofs.Laws.Checks.{call_unfit, call_limited}
use Rattle.reach.proofs.check_call.Goals as goal
use Rattle.reach.proofs.check_call.Goals.{After-is_limit}

-- The table passed its checks, and the limit decides.
module _ (c : After-is_limit) where
  limit_decides : call_checks c.args.n c.args.table.now c.args.limit ≡ unless c.is_limit.result 8 (accepted tt)
  unfolding answer_of
  limit_decides = call_limited c.args.n c.args.table.now c.args.limit (passed_table c.args.n c.args.table.now (sym c.in_ok-check_table.ensures)) ∙ ap (λ b. unless b 8 (accepted tt)) (sym c.is_limit.ensures)

pub returns-in_err-check_table : goal.returns-in_err-check_table
unfolding answer_of
returns-in_err-check_table c =
    let handed : c.from_residual.result ≡ Err c.in_err-check_table.field-0.0 = search rules in
    ap answer_of handed ∙ sym (call_unfit c.args.n c.args.table.now c.args.limit _ (sym c.in_err-check_table.ensures))

pub returns-then-not-is_limit : goal.returns-then-not-is_limit
unfolding answer_of number
returns-then-not-is_limit c = sym (limit_decides (goal.at.returns-then-not-is_limit c).After-is_limit ∙ ap (λ b. unless b 8 (accepted tt)) c.if-not-is_limit.true)

pub returns : goal.returns
unfolding answer_of
returns c = sym (limit_decides (goal.at.returns c).After-is_limit ∙ ap (λ b. unless b 8 (accepted tt)) c.if-not-is_limit.false)
