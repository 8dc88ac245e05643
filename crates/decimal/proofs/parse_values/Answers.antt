-- `decimal::parse_values` meets its contract: the values, then their bytes.
use Rattle.std.specs.Prelude.{Ok}
use Rattle.std.proofs.Common.{◌≡◌, ◌≤◌, ℕ, List, length, take, arith, sym, ◌∙◌, ap, pow_mono, pos, replicate}
use Rattle.std.proofs.lemmas.List.{length-replicate}
use Rattle.std.proofs.lemmas.Grind.{common_steps}
use Rattle.numbers.specs.Ranges.{most_variables}
use Rattle.decimal.specs.Words.{Word, last_line}
use Rattle.decimal.specs.Table.{got, Table, values_read, input_room, values_found}
use Rattle.decimal.specs.Inner.Positions.{words_at}
use Rattle.decimal.specs.Inner.Values.{table_at, body_judged}
use Rattle.decimal.proofs.Laws.Values.{good_values}
use Rattle.decimal.proofs.Laws.Buffers.{front_taken}
use Rattle.decimal.proofs.Laws.Tables.{table_wrong, table_good, wrong_answers, got_answers}
use Rattle.decimal.proofs.parse_values.Goals as goal
use Rattle.decimal.proofs.parse_values.Goals.{After-power-count, After-read_values, In_ok-read_values}

-- The words behind the limit.
abbrev words : List ℕ → ℕ → List Word
words text at = words_at text (record { at = at; line = 1 })

-- As many values as the row has places, at most.
most : (c : After-power-count) → c.power-count.result ≤ 4096
most c = let e = c.power-count.ensures in let m = pow_mono {i = c.args.n} {j = 12} c.requires.few in omega arith

pub read_values-requires : goal.read_values-requires
read_values-requires c = most (goal.at.read_values-requires c).After-power-count

-- Where they are not all there, the text goes wrong as they do.
pub returns-in_err-read_values : goal.returns-in_err-read_values
returns-in_err-read_values c =
    let a = c.args in
    let law = wrong_answers _ a.input.now (table_wrong (last_line a.rest.now.text.now) a.n a.limit (words a.rest.now.text.now a.rest.now.at) c.power-count.result c.power-count.ensures _ (sym c.in_err-read_values.ensures.answered)) in
    grind (arith, common_steps)

-- The row is as long as before.
places : (c : After-read_values) → length c.read_values.new.values ≡ 4096
places c = c.read_values.auto.values ∙ length-replicate 4096 (pos 0)

-- Where the values are all there, they are the row's front.
module _ (c : In_ok-read_values) where
  good : body_judged (values_read (last_line c.args.rest.now.text.now) c.power-count.result (words c.args.rest.now.text.now c.args.rest.now.at)) ≡ Ok tt
  good = sym c.in_ok-read_values.ensures.answered

  abbrev table : Table
  table = record { n = c.args.n; limit = c.args.limit; values = values_found c.power-count.result (words c.args.rest.now.text.now c.args.rest.now.at) }

  table_is : table_at c.args.rest.now.text.now c.args.rest.now.at c.args.n c.args.limit ≡ got table
  table_is = table_good (last_line c.args.rest.now.text.now) c.args.n c.args.limit (words c.args.rest.now.text.now c.args.rest.now.at) c.power-count.result c.power-count.ensures good

  many : length table.values ≡ c.power-count.result
  many = (good_values (last_line c.args.rest.now.text.now) c.power-count.result (words c.args.rest.now.text.now c.args.rest.now.at) good).1

  front : take c.power-count.result c.read_values.new.values ≡ table.values
  front = front_taken (replicate 4096 (pos 0)) table.values c.power-count.result c.read_values.ensures.left many

pub slice_bounds-row-end : goal.slice_bounds-row-end
slice_bounds-row-end c = let p = places (goal.at.slice_bounds-row-end c).After-read_values in let m = most (goal.at.slice_bounds-row-end c).After-power-count in omega arith

pub slice_bounds-write_input-end : goal.slice_bounds-write_input-end
slice_bounds-write_input-end c = let t = (goal.at.slice_bounds-write_input-end c).In_ok-read_values in sym (ap length (front t) ∙ many t)

pub write_input-requires : goal.write_input-requires
unfolding input_room most_variables
write_input-requires c =
    let t = (goal.at.write_input-requires c).In_ok-read_values in
    let m = most (goal.at.write_input-requires c).After-power-count in
    let l = many t in
    let few = c.requires.few in
    let room = c.requires.room in
    record { n_byte = omega arith; limit_byte = c.requires.limit_byte; room = rw (front t) (omega arith) }

pub returns : goal.returns
returns c =
    let t = (goal.at.returns c).In_ok-read_values in
    let written = rw (front t) at c.write_input.ensures in
    got_answers (table t) c.args.input.now (table_is t) written
