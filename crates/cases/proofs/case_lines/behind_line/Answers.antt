-- `case_lines::behind_line` meets its contract.
use borrow.Author.Tests.{tests}
use Rattle.std.proofs.Common.{◌≡◌, ◌∙◌, ◌-◌, ◌+◌, rules, true, false, ap, take, drop, length, arith, take_all, length-drop}
use Rattle.std.proofs.lemmas.Iterator.{YieldsList-from_slice, IsFirst-from_position}
use Rattle.decimal.specs.Words.{is_newline}
use Rattle.cases.specs.Text.{line_length}
use Rattle.cases.proofs.Laws.Text.{line_found}
use Rattle.cases.proofs.case_lines.behind_line.Goals as goal

pub returns : goal.returns
unfolding is_newline
returns c =
    let text = c.args.text.now in
    let rest = take (length text - c.args.start) (drop c.args.start text) in
    let whole : rest ≡ drop c.args.start text = take_all _ _ (let l = length-drop c.args.start text in omega arith) in
    let first = IsFirst-from_position _ _ c.position-newline.result (λ byte. is_newline byte ≡ true) (λ byte. is_newline byte ≡ false) c.position-newline.ensures.ran (YieldsList-from_slice rest cc) (λ x q k. search (rules, tests)) (λ x q k. search (rules, tests)) in
    ap (λ k. c.args.start + k) (line_found rest c.position-newline.result first (search rules) ∙ ap line_length whole)
