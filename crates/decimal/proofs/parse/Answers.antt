-- `decimal::parse` meets its contract: n, and what follows it.
use Rattle.std.proofs.Common.{◌≡◌, refl, sym, ◌∙◌, arith, subst, ap, rules}
use Rattle.std.specs.Prelude.{Option, Err}
use Rattle.std.proofs.lemmas.Grind.{common_steps}
use Rattle.numbers.specs.Ranges.{most_variables}
use Rattle.decimal.specs.Table.{input_room, Reads}
use Rattle.decimal.specs.declared.Expected.TheVariants.{Variables}
use Rattle.decimal.specs.declared.ParseError.TheVariants as errors
use Rattle.decimal.specs.declared.Heading.{Heading}
use Rattle.decimal.proofs.Laws.Positions.{start_place}
use Rattle.decimal.proofs.Laws.Items.{HeadingFound, HeadingSeen, heading_seen}
use Rattle.decimal.proofs.Laws.Tables.{no_variables, variables_first, wrong_answers, reads_short, reads_enough, passed_on}
use Rattle.decimal.proofs.parse.Goals as goal
use Rattle.decimal.proofs.parse.Goals.{After-heading, In_ok-n}

pub returns-then-input-lt-INPUT_ROOM : goal.returns-then-input-lt-INPUT_ROOM
returns-then-input-lt-INPUT_ROOM c = let a = c.args in reads_short a.text.now a.input.now c.if-input-lt-INPUT_ROOM.true

pub invariant_of-start : goal.invariant_of-start
invariant_of-start c = record { inside = start_place _ }

-- n, as it was found.
seen : (c : After-heading) {found : Option Heading} → c.heading.result ≡ found → HeadingSeen c.args.text.now 0 1 12 found
seen c e = subst (HeadingSeen c.args.text.now 0 1 12) (sym c.heading.ensures ∙ e) (heading_seen c.args.text.now 0 1 12 (omega arith) (start_place c.args.text.now))

found : (c : In_ok-n) → HeadingFound c.args.text.now 0 1 12 c.in_ok-n.n.number c.in_ok-n.n.at
found c = subst (HeadingSeen c.args.text.now 0 1 12) (sym c.heading.ensures ∙ c.in_ok-n.ensures.ok_part) (heading_seen c.args.text.now 0 1 12 (omega arith) (start_place c.args.text.now))

pub returns-in_err-n : goal.returns-in_err-n
unfolding passed_on
returns-in_err-n c =
    let h = (goal.at.returns-in_err-n c).After-heading in
    let a = c.args in
    let law = reads_enough a.text.now a.input.now c.if-input-lt-INPUT_ROOM.false (no_variables a.text.now (seen h c.in_err-n.ensures.ok_part)) (wrong_answers (record { line = 1; expected = Variables }) a.input.now refl) in
    let handed : c.from_residual.result ≡ Err (errors.Wrong c.in_err-n.field-0.0) = search rules in
    let same : Err (errors.Wrong c.in_err-n.field-0.0) ≡ passed_on (Err (record { line = 1; expected = Variables })) = grind (arith, common_steps) in
    subst (λ answer. Reads a.text.now a.input.now answer a.input.now) (sym (handed ∙ same)) law

pub invariant_of-rest : goal.invariant_of-rest
invariant_of-rest c = record { inside = (found (goal.at.invariant_of-rest c).In_ok-n).placed }

pub parse_limit-requires : goal.parse_limit-requires
unfolding input_room most_variables
parse_limit-requires c =
    let n = found (goal.at.parse_limit-requires c).In_ok-n in
    record { few = n.bounds.1; room = c.if-input-lt-INPUT_ROOM.false }

pub returns-in_err-parse_limit : goal.returns-in_err-parse_limit
unfolding passed_on
returns-in_err-parse_limit c =
    let a = c.args in
    let n = found (goal.at.returns-in_err-parse_limit c).In_ok-n in
    let law = reads_enough a.text.now a.input.now c.if-input-lt-INPUT_ROOM.false (variables_first a.text.now n) c.parse_limit.ensures in
    let handed : c.from_residual-in_err-parse_limit.result ≡ Err (errors.Wrong c.in_err-parse_limit.field-0.0) = search rules in
    subst (λ answer. Reads a.text.now a.input.now answer c.parse_limit.new.input) (ap passed_on c.in_err-parse_limit.was ∙ sym handed) law

pub returns : goal.returns
unfolding passed_on
returns c =
    let a = c.args in
    let n = found (goal.at.returns c).In_ok-n in
    let law = reads_enough a.text.now a.input.now c.if-input-lt-INPUT_ROOM.false (variables_first a.text.now n) c.parse_limit.ensures in
    subst (λ answer. Reads a.text.now a.input.now answer c.parse_limit.new.input) (ap passed_on c.in_ok-parse_limit.was) law
