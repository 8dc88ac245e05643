-- `fronts::put_bytes` meets its contract. The loop's invariant: the bytes so far stand in front.
use Rattle.std.proofs.Common.{◌≡◌, ◌%◌, get_or, pos, ap, ◌∙◌, to_z-of_z, w32, SFits, rules}
use lib.Signed.{mag}
use Rattle.cases.specs.Rows.{byte_of}
use Rattle.cases.proofs.Laws.Rows.{no_bytes, one_byte}
use Rattle.cases.proofs.fronts.put_bytes.Goals as goal
use Rattle.cases.proofs.fronts.put_bytes.Goals.{After-unsigned_part}

pub loop-i-init : goal.loop-i-init
loop-i-init c =
    no_bytes c.args.bytes.now c.args.row.now c.requires

-- The number at the place as a byte.
byte_is : (c : After-unsigned_part) → c.unsigned_part.result % 256 ≡ byte_of (get_or c.args.row.now c.loop-i.i (pos 0))
unfolding byte_of
byte_is c =
    let z = get_or c.args.row.now c.loop-i.i (pos 0) in
    let h : SFits w32 z = record { sfits = search rules } in
    ap (λ m. m % 256) (c.unsigned_part.ensures ∙ ap mag (to_z-of_z h))

pub loop-i-preserved : goal.loop-i-preserved
loop-i-preserved c =
    let a = c.args in
    rw (byte_is (goal.at.loop-i-preserved c).After-unsigned_part) (one_byte a.bytes.now a.row.now c.requires c.loop-i.invariant c.loop-i-test.true)
