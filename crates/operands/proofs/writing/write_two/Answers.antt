-- `writing::write_two` meets its contract.
use Rattle.std.proofs.Common.{◌+◌, ◌-◌, ◌∙◌, length, ap, arith}
use Rattle.numbers.specs.Lists.{overwritten}
use Rattle.numbers.proofs.Laws.Overwriting.{part_back}
use Rattle.operands.proofs.Laws.Bytes.{written_part}
use Rattle.operands.proofs.writing.write_two.Goals as goal

pub returns : goal.returns
returns c =
    let a = c.args in
    let new = c.copy_from_slice.ensures.after ∙ c.to_be_bytes.ensures ∙ written_part 2 a.number in
    part_back a.buffer.now a.at c.copy_from_slice.new.self (a.at + 2 - a.at) (let e = ap length new in omega arith) ∙ ap (overwritten a.buffer.now a.at) new
