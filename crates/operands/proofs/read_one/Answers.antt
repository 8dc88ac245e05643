-- `operands::read_one` meets its contract.
use Rattle.std.proofs.Common.{sym, ◌∙◌}
use Rattle.operands.proofs.Laws.Operands.{unsigned_one}
use Rattle.operands.proofs.read_one.Goals as goal

pub returns : goal.returns
returns c =
    let a = c.args in
    record { read = c.byte.ensures.0 ∙ sym (unsigned_one a.image.now a.at c.requires); small = c.byte.ensures.1 }
