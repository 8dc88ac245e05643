-- `commands::write_head` meets its contract.
use Rattle.image.specs.Inner.Kinds.{due_of}
use Rattle.image.specs.Reader.{due_byte}
use Rattle.compiler.proofs.Laws.Commands.{head_written}
use Rattle.compiler.proofs.commands.write_head.Goals as goal

pub returns : goal.returns
unfolding due_of due_byte
returns c =
    let a = c.args in
    head_written a.buffer.now a.group a.incoming a.outgoing a.width c.requires.0 c.requires.1.0 c.requires.1.1 (rw c.byte.ensures at c.write_two.ensures) c.write_two-2.ensures
