-- `decimal::parse_limit` meets its contract: the limit, nothing more on the first line, and the values.
use Rattle.std.proofs.Common.{◌≡◌, sym, ◌∙◌, arith, subst}
use Rattle.std.specs.Prelude.{Option}
use Rattle.std.proofs.lemmas.Grind.{common_steps}
use Rattle.decimal.specs.Words.{last_line}
use Rattle.decimal.specs.Table.{body_read}
use Rattle.decimal.specs.declared.Expected.TheVariants.{Limit, LineEnd}
use Rattle.decimal.specs.declared.Heading.{Heading}
use Rattle.decimal.specs.Inner.Positions.{words_at}
use Rattle.decimal.specs.Inner.Values.{limit_at}
use Rattle.decimal.proofs.Laws.Items.{HeadingFound, HeadingSeen, heading_seen}
use Rattle.decimal.proofs.Laws.Tables.{no_limit, limit_second, body_more, body_values, wrong_answers, same_answers}
use Rattle.decimal.proofs.parse_limit.Goals as goal
use Rattle.decimal.proofs.parse_limit.Goals.{After-heading, In_ok-limit}

-- The limit, as it was found behind n.
seen : (c : After-heading) {found : Option Heading} → c.heading.result ≡ found → HeadingSeen c.args.rest.now.text.now c.args.rest.now.at 0 255 found
seen c e = subst (HeadingSeen c.args.rest.now.text.now c.args.rest.now.at 0 255) (sym c.heading.ensures ∙ e) (heading_seen c.args.rest.now.text.now c.args.rest.now.at 0 255 (omega arith) c.args.rest.now.inside)

module _ (c : In_ok-limit) where
  found : HeadingFound c.args.rest.now.text.now c.args.rest.now.at 0 255 c.in_ok-limit.limit.number c.in_ok-limit.limit.at
  found = subst (HeadingSeen c.args.rest.now.text.now c.args.rest.now.at 0 255) (sym c.heading.ensures ∙ c.in_ok-limit.ensures.ok_part) (heading_seen c.args.rest.now.text.now c.args.rest.now.at 0 255 (omega arith) c.args.rest.now.inside)

  body_is : limit_at c.args.rest.now.text.now c.args.rest.now.at c.args.n ≡ body_read (last_line c.args.rest.now.text.now) c.args.n c.in_ok-limit.limit.number (words_at c.args.rest.now.text.now (record { at = c.in_ok-limit.limit.at; line = 1 }))
  body_is = limit_second c.args.rest.now.text.now c.args.n c.args.rest.now.at found

pub returns-in_err-limit : goal.returns-in_err-limit
returns-in_err-limit c =
    let h = (goal.at.returns-in_err-limit c).After-heading in
    let a = c.args in
    let law = wrong_answers (record { line = 1; expected = Limit }) a.input.now (no_limit a.rest.now.text.now a.n a.rest.now.at (seen h c.in_err-limit.ensures.ok_part)) in
    grind (arith, common_steps)

pub invariant_of-behind : goal.invariant_of-behind
invariant_of-behind c = record { inside = (found (goal.at.invariant_of-behind c).In_ok-limit).placed }

pub returns-then-has_more : goal.returns-then-has_more
returns-then-has_more c =
    let l = (goal.at.returns-then-has_more c).In_ok-limit in
    let a = c.args in
    wrong_answers (record { line = 1; expected = LineEnd }) a.input.now (body_is l ∙ body_more _ a.n c.in_ok-limit.limit.number _ (sym c.if-has_more.ensures))

pub parse_values-requires : goal.parse_values-requires
parse_values-requires c =
    let l = (goal.at.parse_values-requires c).In_ok-limit in
    let p = c.requires in
    record { few = p.few; limit_byte = (found l).bounds.1; room = p.room }

pub returns : goal.returns
returns c =
    let l = (goal.at.returns c).In_ok-limit in
    same_answers (body_is l ∙ body_values _ c.args.n c.in_ok-limit.limit.number _ (sym c.if-has_more.ensures)) c.parse_values.ensures
