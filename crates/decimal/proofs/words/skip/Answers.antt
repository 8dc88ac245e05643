-- `words::skip` meets its contract. The loop's invariant: the place so far leads past the same separators.
use Rattle.std.proofs.Common.{◌≡◌, ap, length, refl, sym, ◌∙◌, arith, add-one, get_or, eq-eqb, ne_eqb}
use Rattle.decimal.specs.Words.{is_newline}
use Rattle.decimal.specs.Inner.Positions.{line_after}
use Rattle.decimal.proofs.Laws.Words.{line_after_newline, line_after_other}
use Rattle.decimal.proofs.Laws.Positions.{stepped, skipping_on, skip_stops, skip_ends, line_small}
use Rattle.decimal.proofs.words.skip.Goals as goal
use Rattle.decimal.proofs.words.skip.Goals.{Joined-text-at-eq10, then-text-at-eq10, else-text-at-eq10}

pub loop-at-init : goal.loop-at-init
loop-at-init c = record { placed = c.requires; same = refl }

pub returns-then-not-is_separator : goal.returns-then-not-is_separator
returns-then-not-is_separator c = sym (sym c.loop-at.invariant.same ∙ skip_stops c.loop-at.invariant.placed c.loop-at-test.true (sym c.is_separator.ensures ∙ c.if-not-is_separator.true))

pub overflow_add-line : goal.overflow_add-line
overflow_add-line c = let few = line_small c.loop-at.invariant.placed in let g = c.well_formed in omega arith

-- A newline counts.
module _ (c : Joined-text-at-eq10) where
  line_there : c.if-text-at-eq10.line ≡ line_after (get_or c.args.text.now c.loop-at.at 0) c.loop-at.line
  unfolding is_newline
  line_there =
      let byte = get_or c.args.text.now c.loop-at.at 0 in
      elim c.if-text-at-eq10.branch [
        | then-text-at-eq10 w ↦ w.line-is ∙ add-one c.loop-at.line ∙ sym (line_after_newline byte c.loop-at.line (eq-eqb byte 10 w.if-text-at-eq10.true))
        | else-text-at-eq10 w ↦ w.line-is ∙ sym (line_after_other byte c.loop-at.line (ne_eqb byte 10 w.if-text-at-eq10.false))
      ]

pub loop-at-preserved : goal.loop-at-preserved
unfolding stepped
loop-at-preserved c =
    let separator = sym c.is_separator.ensures ∙ c.if-not-is_separator.false in
    rw (line_there (goal.at.loop-at-preserved c).Joined-text-at-eq10) (skipping_on c.loop-at-test.true separator c.loop-at.invariant)

pub returns : goal.returns
returns c =
    let text = c.args.text.now in
    let inside = c.requires.inside in
    let end = c.loop-at-test.false in
    let last : length text ≡ c.loop-at.at = omega arith in
    ap (λ at. record { at = at; line = c.loop-at.line }) last ∙ sym (sym c.loop-at.invariant.same ∙ skip_ends text _ end)
