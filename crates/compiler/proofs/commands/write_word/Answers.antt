-- `commands::write_word` meets its contract.
use Rattle.std.proofs.Common.{to_z-of_z}
use Rattle.image.specs.Inner.Kinds.{due_of}
use Rattle.image.specs.Reader.{due_byte}
use Rattle.compiler.proofs.Laws.Commands.{word_written}
use Rattle.compiler.proofs.commands.write_word.Goals as goal

pub returns : goal.returns
unfolding due_of due_byte
returns c =
    let a = c.args in
    word_written a.buffer.now a.at a.class a.weight c.requires (rw c.byte.ensures at c.write_two.ensures) (rw (to_z-of_z c.ranges.weight) at c.write_signed.ensures)
