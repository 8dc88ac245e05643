-- `operands::read_signed` meets its contract.
use Rattle.std.proofs.Common.{sym, ◌∙◌, ap, to_z}
use Rattle.std.proofs.Math.Facts.{to_z-of_z}
use Rattle.std.specs.Int.{w32}
use Rattle.operands.specs.Bytes.{signed_at}
use Rattle.operands.proofs.Laws.Operands.{four_by_bytes}
use Rattle.operands.proofs.read_signed.Goals as goal

pub returns : goal.returns
unfolding signed_at
returns c =
    let a = c.args in
    to_z-of_z {w = w32} (record { sfits = c.from_be_bytes.type_inv }) ∙ c.from_be_bytes.ensures ∙ ap (to_z w32) (sym (four_by_bytes a.image.now a.at c.requires))
