-- `words::next_item` meets its contract: past the separators there is the end or a word.
use Rattle.std.specs.Prelude.{Ok}
use Rattle.std.proofs.lemmas.Grind.{common_steps}
use Rattle.std.proofs.Common.{◌≡◌, ◌≤◌, ◌-◌, arith, rules, sym, ◌∙◌, ap, ap₂, take, drop, length, List, ℕ}
use Rattle.decimal.specs.declared.Position.{Position}
use Rattle.decimal.specs.Inner.Positions.{word_length}
use Rattle.decimal.specs.Inner.Numbers.{word_number}
use Rattle.decimal.specs.Inner.Items.{word_there, word_behind, word_item, item_there, item_at}
use Rattle.decimal.proofs.Laws.Positions.{skipped_is, word_fits}
use Rattle.decimal.proofs.words.next_item.Goals as goal
use Rattle.decimal.proofs.words.next_item.Goals.{After-skip-start, After-word_number}

-- The place past the separators is in the text.
inside : (c : After-skip-start) → c.skip-start.result.at ≤ length c.args.text.now
inside c = let p = (skipped_is c.requires).placed.inside in let e = ap (λ (place : Position). place.at) c.skip-start.ensures in omega arith

pub word_end-end-requires : goal.word_end-end-requires
word_end-end-requires c = inside c

pub slice_bounds-word_number-end : goal.slice_bounds-word_number-end
slice_bounds-word_number-end c =
    let e = c.word_end-end.ensures in
    let f = word_fits c.args.text.now c.skip-start.result.at (inside (goal.at.slice_bounds-word_number-end c).After-skip-start) in
    omega arith

-- The item is that of the word there.
module _ (c : After-word_number) where
  abbrev text : List ℕ
  text = c.args.text.now

  abbrev first : Position
  first = c.skip-start.result

  abbrev behind : Position
  behind = record { at = c.word_end-end.result; line = first.line }

  word_is : c.word_number.result ≡ word_number (word_there text first)
  unfolding word_there
  word_is =
      let e = c.word_end-end.ensures in
      let size : c.word_end-end.result - first.at ≡ word_length (drop first.at text) = omega arith in
      c.word_number.ensures ∙ ap (λ size. word_number (take size (drop first.at text))) size

  behind_is : behind ≡ word_behind text first
  unfolding word_behind
  behind_is = ap (λ at. record { at = at; line = first.line }) c.word_end-end.ensures

  item_is : word_item c.word_number.result behind ≡ item_at text c.args.place
  unfolding item_there item_at
  item_is = ap₂ word_item word_is behind_is ∙ ap (item_there text) c.skip-start.ensures

pub returns-in_err-number : goal.returns-in_err-number
unfolding word_item
returns-in_err-number c =
    let w = (goal.at.returns-in_err-number c).After-word_number in
    let none = ap (λ number. word_item number (behind w)) (sym c.in_err-number.ensures.ok_part) ∙ item_is w in
    grind (arith, common_steps)

pub returns : goal.returns
unfolding word_item
returns c =
    let w = (goal.at.returns c).After-word_number in
    ap (λ number. Ok (record { number = number; line = (first w).line; at = (behind w).at })) (search rules)
    ∙ ap (λ number. word_item number (behind w)) (sym c.in_ok-number.ensures.ok_part)
    ∙ item_is w
