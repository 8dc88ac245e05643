-- `sums::remainder` meets its contract.
use Rattle.std.proofs.Common.{◌≡◌, sym, ◌∙◌, ap, true, map, ◌^◌, length, pos, arith}
use Rattle.std.proofs.lemmas.Grind.{common_steps}
use Rattle.numbers.specs.Answers.{unless}
use Rattle.numbers.specs.Refusals.{number, answer_of}
use Rattle.numbers.specs.declared.Refusal.TheVariants as refusals
use Rattle.sums.specs.Sums.{Weighted, remainder_by, remainder_table, is_remainder_bits, into_room, reduced_sum}
use Rattle.sums.proofs.Laws.Answers.{unadmitted, unroomed, answered, fills_refused, fills_whole}
use Rattle.sums.proofs.Laws.Checks.{unfit, passed_weights}
use Rattle.sums.proofs.Laws.Classes.{bits_test, remainders_length}
use Rattle.sums.proofs.Laws.Summable.{few_variables, weighted_summable}
use Rattle.sums.proofs.remainder.Goals as goal
use Rattle.sums.proofs.remainder.Goals.{In_ok-check_weights, Else-not-is_remainder_bits, Else-table-power}

pub returns-in_err-check_weights : goal.returns-in_err-check_weights
unfolding answer_of reduced_sum
returns-in_err-check_weights c =
    let a = c.args in
    let room = length a.table.now in
    let rest = unless (is_remainder_bits a.q) 19 (into_room a.n room (remainder_table a.q a.weights.now)) in
    let law = fills_refused (reduced_sum a.n a.weights.now a.q room) _ a.table.now (unfit a.n a.weights.now rest _ (sym c.in_err-check_weights.ensures)) in
    grind (arith, common_steps)

-- The list passed its checks.
list : (c : In_ok-check_weights) → Weighted c.args.n c.args.weights.now
unfolding answer_of
list c = passed_weights c.args.n c.args.weights.now (sym c.in_ok-check_weights.ensures)

pub returns-then-not-is_remainder_bits : goal.returns-then-not-is_remainder_bits
unfolding reduced_sum number
returns-then-not-is_remainder_bits c =
    let w = list (goal.at.returns-then-not-is_remainder_bits c).In_ok-check_weights in
    let a = c.args in
    let room = length a.table.now in
    fills_refused (reduced_sum a.n a.weights.now a.q room) refusals.RemainderBits a.table.now
    (unadmitted a.n a.weights.now (is_remainder_bits a.q) 19 room (remainder_table a.q a.weights.now) w (sym c.is_remainder_bits.ensures ∙ c.if-not-is_remainder_bits.true))

-- q is from 1 to 11.
bits : (c : Else-not-is_remainder_bits) → is_remainder_bits c.args.q ≡ true
bits c = sym c.is_remainder_bits.ensures ∙ c.if-not-is_remainder_bits.false

pub power-requires : goal.power-requires
power-requires c = let few = few_variables c.args.n c.args.weights.now (list (goal.at.power-requires c).In_ok-check_weights) in omega arith

pub returns-then-table-power : goal.returns-then-table-power
unfolding reduced_sum number
returns-then-table-power c =
    let before = goal.at.returns-then-table-power c in
    let a = c.args in
    let room = length a.table.now in
    fills_refused (reduced_sum a.n a.weights.now a.q room) refusals.Length a.table.now
    (unroomed a.n a.weights.now (is_remainder_bits a.q) 19 room (remainder_table a.q a.weights.now) (list before.In_ok-check_weights) (bits before.Else-not-is_remainder_bits) (λ e. c.if-table-power.true (e ∙ sym c.power.ensures)))

-- The buffer has room for the table.
size : (c : Else-table-power) → length c.args.table.now ≡ 2 ^ c.args.n
size c = c.if-table-power.false ∙ c.power.ensures

pub write_sums-requires : goal.write_sums-requires
write_sums-requires c =
    let before = goal.at.write_sums-requires c in
    let w = list before.In_ok-check_weights in
    (weighted_summable c.args.n c.args.weights.now w, size before.Else-table-power ∙ ap (λ k. 2 ^ k) (sym w.size))

pub reduce-requires : goal.reduce-requires
reduce-requires c = ((bits_test c.args.q).0 (bits (goal.at.reduce-requires c).Else-not-is_remainder_bits)).1

pub returns : goal.returns
unfolding reduced_sum remainder_table
returns c =
    let before = goal.at.returns c in
    let w = list before.In_ok-check_weights in
    let room = size before.Else-table-power in
    let a = c.args in
    let table = remainder_table a.q a.weights.now in
    fills_whole (reduced_sum a.n a.weights.now a.q (length a.table.now)) table a.table.now c.reduce.new.table
    (answered a.n a.weights.now (is_remainder_bits a.q) 19 (length a.table.now) table w (bits before.Else-not-is_remainder_bits) room)
    (remainders_length a.q a.weights.now ∙ ap (λ k. 2 ^ k) w.size ∙ sym room)
    (c.reduce.ensures ∙ ap (map (λ z. pos (remainder_by (2 ^ a.q) z))) c.write_sums.ensures)
