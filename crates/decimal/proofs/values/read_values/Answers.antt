-- `values::read_values` meets its contract. The loop's invariant: the values so far are found, and stand in front of the row.
use Rattle.std.proofs.Common.{◌≡◌, rules, sym, ◌∙◌, ap, subst, to_z, of_z, w32}
use Rattle.std.specs.Prelude.{Err}
use Rattle.decimal.specs.declared.Position.{Position}
use Rattle.decimal.proofs.Laws.Items.{Seen, item_seen}
use Rattle.decimal.proofs.Laws.Values.{no_values, all_checked, all_written, next_value, missed, came, other_checked, other_written}
use Rattle.decimal.proofs.values.read_values.Goals as goal
use Rattle.decimal.proofs.values.read_values.Goals.{After-next_item}

-- What comes next, as it is seen.
seen : (c : After-next_item) → Seen c.args.rest.now.text.now c.loop-j.place c.next_item.result
seen c = subst (Seen c.args.rest.now.text.now c.loop-j.place) (sym c.next_item.ensures) (item_seen c.loop-j.invariant.placed)

pub loop-j-init : goal.loop-j-init
loop-j-init c = let a = c.args in rw c.place-place.ensures (no_values a.rest.now.text.now (record { at = a.rest.now.at; line = 1 }) a.count a.values.now a.rest.now.inside)

pub returns-in_err-item : goal.returns-in_err-item
returns-in_err-item c =
    let a = c.args in
    let start : Position = record { at = a.rest.now.at; line = 1 } in
    let wrong = c.in_err-item.field-0.0 in
    let none = missed c.next_item.result wrong c.in_err-item.ensures.cases (λ none p. search rules) in
    let other = subst (Seen a.rest.now.text.now c.loop-j.place) none.1 (seen (goal.at.returns-in_err-item c).After-next_item) in
    let handed : c.from_residual.result ≡ Err wrong = search rules in record {
      answered = handed ∙ ap Err none.2 ∙ sym (other_checked a.rest.now.text.now start a.count a.values.now c.loop-j.invariant c.loop-j-test.true other);
      left = other_written a.rest.now.text.now start a.count a.values.now c.loop-j.invariant c.loop-j-test.true other;
    }

pub loop-j-preserved : goal.loop-j-preserved
loop-j-preserved c =
    let a = c.args in
    let start : Position = record { at = a.rest.now.at; line = 1 } in
    let item = c.in_ok-item.item in
    let back : to_z w32 (of_z w32 item.number) ≡ item.number = search rules in
    let value = subst (Seen a.rest.now.text.now c.loop-j.place) (came c.next_item.result item c.in_ok-item.ensures.cases) (seen (goal.at.loop-j-preserved c).After-next_item) in
    rw (c.from-place.ensures, back) (next_value a.rest.now.text.now start a.count a.values.now c.loop-j.invariant c.loop-j-test.true c.requires value)

pub returns : goal.returns
returns c =
    let a = c.args in
    let start : Position = record { at = a.rest.now.at; line = 1 } in
    let all = c.loop-j-test.false in record {
      answered = c.check_end.ensures ∙ sym (all_checked a.rest.now.text.now start a.count a.values.now c.loop-j.invariant all);
      left = all_written a.rest.now.text.now start a.count a.values.now c.loop-j.invariant all;
    }
