-- `sums::sum` meets its contract.
use Rattle.std.proofs.Common.{◌≡◌, sym, ◌∙◌, ap, true, ◌^◌, length, arith}
use Rattle.std.proofs.lemmas.Grind.{common_steps}
use Rattle.numbers.specs.Answers.{unless}
use Rattle.numbers.specs.Lists.{every}
use Rattle.numbers.specs.Ranges.{is_value}
use Rattle.numbers.specs.Refusals.{number, answer_of}
use Rattle.numbers.specs.declared.Refusal.TheVariants as refusals
use Rattle.sums.specs.Sums.{Weighted, sum_table, into_room, plain_sum}
use Rattle.sums.proofs.Laws.Answers.{unadmitted, unroomed, answered, fills_refused, fills_whole}
use Rattle.sums.proofs.Laws.Checks.{unfit, passed_weights}
use Rattle.sums.proofs.Laws.Split.{table_length}
use Rattle.sums.proofs.Laws.Summable.{few_variables, weighted_summable}
use Rattle.sums.proofs.sum.Goals as goal
use Rattle.sums.proofs.sum.Goals.{In_ok-check_weights, Else-not-sums_fit, Else-table-power}

pub returns-in_err-check_weights : goal.returns-in_err-check_weights
unfolding answer_of plain_sum
returns-in_err-check_weights c =
    let a = c.args in
    let room = length a.table.now in
    let rest = unless (every is_value (sum_table a.weights.now)) 18 (into_room a.n room (sum_table a.weights.now)) in
    let law = fills_refused (plain_sum a.n a.weights.now room) _ a.table.now (unfit a.n a.weights.now rest _ (sym c.in_err-check_weights.ensures)) in
    grind (arith, common_steps)

-- The list passed its checks.
list : (c : In_ok-check_weights) → Weighted c.args.n c.args.weights.now
unfolding answer_of
list c = passed_weights c.args.n c.args.weights.now (sym c.in_ok-check_weights.ensures)

pub sums_fit-requires : goal.sums_fit-requires
sums_fit-requires c = weighted_summable c.args.n c.args.weights.now (list c)

pub returns-then-not-sums_fit : goal.returns-then-not-sums_fit
unfolding plain_sum number
returns-then-not-sums_fit c =
    let w = list (goal.at.returns-then-not-sums_fit c).In_ok-check_weights in
    let a = c.args in
    let room = length a.table.now in
    let table = sum_table a.weights.now in
    fills_refused (plain_sum a.n a.weights.now room) refusals.Sum a.table.now
    (unadmitted a.n a.weights.now (every is_value table) 18 room table w (sym c.sums_fit.ensures ∙ c.if-not-sums_fit.true))

-- Every sum is a value.
values : (c : Else-not-sums_fit) → every is_value (sum_table c.args.weights.now) ≡ true
values c = sym c.sums_fit.ensures ∙ c.if-not-sums_fit.false

pub power-requires : goal.power-requires
power-requires c = let few = few_variables c.args.n c.args.weights.now (list (goal.at.power-requires c).In_ok-check_weights) in omega arith

pub returns-then-table-power : goal.returns-then-table-power
unfolding plain_sum number
returns-then-table-power c =
    let before = goal.at.returns-then-table-power c in
    let a = c.args in
    let room = length a.table.now in
    let table = sum_table a.weights.now in
    fills_refused (plain_sum a.n a.weights.now room) refusals.Length a.table.now
    (unroomed a.n a.weights.now (every is_value table) 18 room table (list before.In_ok-check_weights) (values before.Else-not-sums_fit) (λ e. c.if-table-power.true (e ∙ sym c.power.ensures)))

-- The buffer has room for the table.
size : (c : Else-table-power) → length c.args.table.now ≡ 2 ^ c.args.n
size c = c.if-table-power.false ∙ c.power.ensures

pub write_sums-requires : goal.write_sums-requires
write_sums-requires c =
    let before = goal.at.write_sums-requires c in
    let w = list before.In_ok-check_weights in
    (weighted_summable c.args.n c.args.weights.now w, size before.Else-table-power ∙ ap (λ k. 2 ^ k) (sym w.size))

pub returns : goal.returns
unfolding plain_sum
returns c =
    let before = goal.at.returns c in
    let w = list before.In_ok-check_weights in
    let room = size before.Else-table-power in
    let a = c.args in
    let table = sum_table a.weights.now in
    fills_whole (plain_sum a.n a.weights.now (length a.table.now)) table a.table.now c.write_sums.new.table
    (answered a.n a.weights.now (every is_value table) 18 (length a.table.now) table w (values before.Else-not-sums_fit) room)
    (table_length a.weights.now ∙ ap (λ k. 2 ^ k) w.size ∙ sym room)
    c.write_sums.ensures
