-- `input::read_values` meets its contract. The loop's invariant: the values so far are read.
use Rattle.std.proofs.Common.{w32, ◌+◌, ◌*◌, ◌≡◌, ◌∙◌, arith, to_z, of_z, to_z-of_z}
use borrow.Author.Rules.{sfits_of}
use Rattle.operands.specs.Bytes.{signed_at}
use Rattle.listing.proofs.Laws.Values.{no_values, next_value, all_values}
use Rattle.listing.proofs.input.read_values.Goals as goal

pub loop-j-init : goal.loop-j-init
loop-j-init c = no_values _ _

pub loop-j-preserved : goal.loop-j-preserved
loop-j-preserved c =
    let a = c.args in
    let l = c.loop-j in
    let t = c.loop-j-test.true in
    let value : to_z w32 (of_z w32 c.read_signed.result) ≡ signed_at a.input.now (2 + 4 * l.j) = to_z-of_z {w = w32} (sfits_of c.read_signed.type_inv) ∙ c.read_signed.ensures in
    rw value (next_value a.input.now a.values.now l.invariant (omega arith))

pub returns : goal.returns
returns c =
    let a = c.args in
    let t = c.loop-j-test.false in
    all_values a.input.now a.values.now c.loop-j.invariant (omega arith)
