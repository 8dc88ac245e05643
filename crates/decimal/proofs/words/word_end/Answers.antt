-- `words::word_end` meets its contract: the word's length is the place of the first separator.
use Rattle.std.proofs.Common.{◌≡◌, ◌-◌, ◌+◌, ◌∙◌, rules, true, false, ap, sym, refl, drop, take, length, arith, add-one, take_all, length-drop}
use Rattle.std.proofs.lemmas.Iterator.{YieldsList-from_slice, IsFirst-from_position, index_from_first}
use borrow.Author.Tests.{tests}
use Rattle.decimal.specs.Inner.Positions.{is_separator, word_length}
use Rattle.decimal.proofs.words.word_end.Goals as goal

pub returns : goal.returns
unfolding word_length
returns c =
    let text = c.args.text.now in
    let rest = take (length text - c.args.start) (drop c.args.start text) in
    let whole : rest ≡ drop c.args.start text = take_all _ _ (let l = length-drop c.args.start text in omega arith) in
    let first = IsFirst-from_position _ _ c.position-length.result (λ byte. true ≡ is_separator byte) (λ byte. false ≡ is_separator byte) c.position-length.ensures.ran (YieldsList-from_slice rest cc) (λ x q k. search (rules, tests)) (λ x q k. search (rules, tests)) in
    let size = index_from_first word_length (λ byte. true ≡ is_separator byte) (λ byte. false ≡ is_separator byte) refl (λ x xs e. rw (sym e, word_length)) (λ x xs e. rw (sym e, word_length) (sym (add-one _))) rest c.position-length.result first in
    ap (λ k. c.args.start + k) (c.unwrap_or.ensures ∙ sym size ∙ ap word_length whole)
