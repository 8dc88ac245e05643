-- The commands of an image, their bytes, and the cells that a list of commands describes.
use Rattle.std.specs.Prelude.{ℕ, pos}
use mathlib.Core.List.{List, [], ◌∷◌, ◌++◌, map, flat_map}
use Rattle.operands.specs.Bytes.{big_endian, signed_bytes}
use Rattle.image.specs.Cells.{Word, Cell, Card, total_bits}
use Rattle.image.specs.declared.Command.{Command}
use Rattle.image.specs.declared.Command.TheVariants as commands

-- A command (the paper's term): its byte and its operands, for each case of the enum.
unfoldable pub command_bytes : Command → List ℕ
command_bytes (commands.Table n offset) = 0x56 ∷ big_endian 1 n ++ signed_bytes offset
command_bytes (commands.Cell group incoming outgoing width) = 0x43 ∷ big_endian 1 group ++ big_endian 2 incoming ++ big_endian 2 outgoing ++ big_endian 1 width
command_bytes (commands.Word class weight) = 0x57 ∷ big_endian 2 class ++ signed_bytes weight
command_bytes (commands.End bits) = 0x45 ∷ big_endian 4 bits

-- The bytes that each command takes, its operands included.
abbrev pub table_size : ℕ
table_size = 6

abbrev pub cell_size : ℕ
cell_size = 7

abbrev pub word_size : ℕ
word_size = 7

abbrev pub end_size : ℕ
end_size = 5

-- A word's command.
unfoldable pub word_command : Word → Command
word_command word = commands.Word word.class word.weight

-- A cell's command and its words.
unfoldable pub cell_commands : Cell → List Command
cell_commands cell = commands.Cell cell.group cell.incoming cell.outgoing cell.width ∷ map word_command cell.words

-- The commands of a card's image: the table command, the cells from the top down, the total.
unfoldable pub card_commands : Card → List Command
card_commands card = commands.Table card.n card.offset ∷ flat_map cell_commands card.cells ++ commands.End (total_bits card.cells) ∷ []

-- The bytes of a card's image.
unfoldable pub image_of : Card → List ℕ
image_of card = flat_map command_bytes (card_commands card)

-- The words before the next cell command, and the cells after it.
pub record Collected : Type 0 where
  pub words : List Word
  pub cells : List Cell

unfoldable pub collect : List Command → Collected
collect [] = record { words = []; cells = [] }
collect (commands.Table n offset ∷ rest) = collect rest
collect (commands.Cell group incoming outgoing width ∷ rest) = record {
  words = [];
  cells = record { group = group; incoming = incoming; outgoing = outgoing; width = width; words = (collect rest).words } ∷ (collect rest).cells;
}
collect (commands.Word class weight ∷ rest) = record {
  words = record { class = class; weight = weight } ∷ (collect rest).words;
  cells = (collect rest).cells;
}
collect (commands.End bits ∷ rest) = collect rest

-- The card that a list of commands describes, its table command first.
unfoldable pub card_of : List Command → Card
card_of [] = record { n = 0; offset = pos 0; cells = [] }
card_of (commands.Table n offset ∷ rest) = record { n = n; offset = offset; cells = (collect rest).cells }
card_of (commands.Cell group incoming outgoing width ∷ rest) = card_of rest
card_of (commands.Word class weight ∷ rest) = card_of rest
card_of (commands.End bits ∷ rest) = card_of rest
