-- `operands::read_four` meets its contract.
use Rattle.std.proofs.Common.{sym, ◌∙◌}
use Rattle.operands.proofs.Laws.Operands.{four_by_bytes}
use Rattle.operands.proofs.read_four.Goals as goal

pub returns : goal.returns
returns c =
    let a = c.args in
    record { read = c.from_be_bytes.ensures ∙ sym (four_by_bytes a.image.now a.at c.requires); small = c.from_be_bytes.type_inv }
