-- `commands::write_table` meets its contract.
use Rattle.std.proofs.Common.{to_z-of_z}
use Rattle.image.specs.Inner.Kinds.{due_of}
use Rattle.image.specs.Reader.{due_byte}
use Rattle.compiler.proofs.Laws.Commands.{table_written}
use Rattle.compiler.proofs.commands.write_table.Goals as goal

pub returns : goal.returns
unfolding due_of due_byte
returns c =
    let a = c.args in
    table_written a.buffer.now a.n a.offset c.requires.0 c.requires.1 (rw (to_z-of_z c.ranges.offset, c.byte.ensures) at c.write_signed.ensures)
