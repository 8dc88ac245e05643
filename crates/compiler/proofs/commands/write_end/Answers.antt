-- `commands::write_end` meets its contract.
use Rattle.image.specs.Inner.Kinds.{due_of}
use Rattle.image.specs.Reader.{due_byte}
use Rattle.compiler.proofs.Laws.Commands.{end_written}
use Rattle.compiler.proofs.commands.write_end.Goals as goal

pub returns : goal.returns
unfolding due_of due_byte
returns c = end_written c.args.buffer.now c.args.at c.args.bits c.requires (rw c.byte.ensures at c.write_four.ensures)
