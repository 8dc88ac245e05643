-- The kinds of commands, and what the values of the code's enums stand for.
use Rattle.std.specs.Prelude.{ℕ, Bool, true, false}
use Rattle.image.specs.Reader.{Due, table, cell, word, end}
use Rattle.image.specs.declared.Command.{Command}
use Rattle.image.specs.declared.Command.TheVariants as commands
use Rattle.image.specs.declared.Kind.{Kind}
use Rattle.image.specs.declared.Kind.TheVariants as kinds

-- The due command that a value of the enum stands for.
unfoldable pub due_of : Kind → Due
due_of kinds.Table = table
due_of kinds.Cell = cell
due_of kinds.Word = word
due_of kinds.End = end

-- The kind of a command.
unfoldable pub kind_of : Command → Due
kind_of (commands.Table n offset) = table
kind_of (commands.Cell group incoming outgoing width) = cell
kind_of (commands.Word class weight) = word
kind_of (commands.End bits) = end

-- The weight width of a cell, as written in one byte; 0 of other commands.
unfoldable pub width_of : Command → ℕ
width_of (commands.Table n offset) = 0
width_of (commands.Cell group incoming outgoing width) = width
width_of (commands.Word class weight) = 0
width_of (commands.End bits) = 0

-- 0x45, the last command.
unfoldable pub is_end : Command → Bool
is_end (commands.Table n offset) = false
is_end (commands.Cell group incoming outgoing width) = false
is_end (commands.Word class weight) = false
is_end (commands.End bits) = true
