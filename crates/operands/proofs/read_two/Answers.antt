-- `operands::read_two` meets its contract.
use Rattle.std.proofs.Common.{sym, ◌∙◌}
use Rattle.operands.proofs.Laws.Operands.{unsigned_two}
use Rattle.operands.proofs.read_two.Goals as goal

pub returns : goal.returns
returns c =
    let a = c.args in
    record { read = c.from_be_bytes.ensures ∙ sym (unsigned_two a.image.now a.at c.requires); small = c.from_be_bytes.type_inv }
