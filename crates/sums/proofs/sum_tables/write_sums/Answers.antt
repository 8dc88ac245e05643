-- `sum_tables::write_sums` meets its contract. The loop's invariant: the sums of the first j weights stand in front.
use Rattle.std.proofs.Common.{arith}
use Rattle.sums.proofs.Laws.Filling.{first_sum, may_double, doubled, all_sums}
use Rattle.sums.proofs.Laws.Summable.{weight_read}
use Rattle.sums.proofs.sum_tables.write_sums.Goals as goal

pub loop-j-init : goal.loop-j-init
loop-j-init c = first_sum c.args.weights.now c.args.table.now c.requires.1

pub add_weight-requires : goal.add_weight-requires
add_weight-requires c =
    let l = c.loop-j in
    rw (weight_read c.args.weights.now l.j c.requires.0 c.loop-j-test.true, c.power.ensures)
    (may_double c.args.weights.now l.table l.j c.loop-j-test.true l.invariant c.requires.0)

pub loop-j-preserved : goal.loop-j-preserved
loop-j-preserved c =
    let l = c.loop-j in
    doubled c.args.weights.now l.table l.j c.loop-j-test.true l.invariant
    (rw (weight_read c.args.weights.now l.j c.requires.0 c.loop-j-test.true, c.power.ensures) at c.add_weight.ensures)

pub returns : goal.returns
returns c =
    let l = c.loop-j in
    all_sums c.args.weights.now l.table l.j (let m = l.auto in let t = c.loop-j-test.false in omega arith) l.invariant
