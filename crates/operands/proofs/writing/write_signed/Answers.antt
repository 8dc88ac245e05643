-- `writing::write_signed` meets its contract.
use Rattle.std.proofs.Common.{◌+◌, ◌-◌, ◌∙◌, length, ap, of_z, to_z, arith}
use Rattle.std.proofs.Math.Facts.{to_z-of_z}
use Rattle.std.specs.Int.{w32}
use Rattle.numbers.specs.Lists.{overwritten}
use Rattle.numbers.proofs.Laws.Overwriting.{part_back}
use Rattle.operands.specs.Bytes.{signed_bytes}
use Rattle.operands.proofs.Laws.Bytes.{same_bytes}
use Rattle.operands.proofs.writing.write_signed.Goals as goal

pub returns : goal.returns
unfolding signed_bytes
returns c =
    let a = c.args in
    let number = of_z w32 (to_z w32 (of_z w32 a.number)) in
    let new = c.copy_from_slice.ensures.after ∙ c.to_be_bytes.ensures ∙ same_bytes 4 number ∙ ap signed_bytes (to_z-of_z c.ranges.number) in
    part_back a.buffer.now a.at c.copy_from_slice.new.self (a.at + 4 - a.at) (let e = ap length new in omega arith) ∙ ap (overwritten a.buffer.now a.at) new
