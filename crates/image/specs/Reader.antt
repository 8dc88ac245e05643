-- The reader's step, and reading an image from the left, in the paper's order of checks.
use Rattle.std.specs.Prelude.{ℕ, zero, suc, ◌+◌, ◌-◌, ◌*◌, ◌%◌, ◌^◌, Bool, true, false, ◌&&◌, ◌||◌, not, List, [], ◌∷◌, length, get_or, leb, ltb, eqb, pos}
use Rattle.numbers.specs.Answers.{Answer, accepted, refused, unless, map_answer, and_then}
use Rattle.numbers.specs.Ranges.{is_variables, is_value, is_weight, eq_z, lesser, greater, widest_address}
use Rattle.numbers.specs.Widths.{address_bits, weight_width, cell_bits}
use Rattle.operands.specs.Bytes.{unsigned_at, signed_at}
use Rattle.image.specs.Commands.{table_size, cell_size, word_size, end_size}
use Rattle.image.specs.declared.Command.{Command}
use Rattle.image.specs.declared.Command.TheVariants.{Table, Cell, Word, End}
use Rattle.image.specs.declared.Place.{Place}

-- The one command that is allowed at a place.
pub data Due : Type 0 where
  table cell word end : Due

-- Words while some are left of the cell, then a cell while variables are left, and then the end.
unfoldable pub due : Place → Due
due p = elim (eqb p.n 0) [
  | true ↦ table
  | false ↦ elim (eqb p.words 0) [ false ↦ word | true ↦ elim (eqb p.left 0) [ false ↦ cell | true ↦ end ] ]
]

-- The byte of a command.
unfoldable pub due_byte : Due → ℕ
due_byte table = 0x56
due_byte cell = 0x43
due_byte word = 0x57
due_byte end = 0x45

-- The bytes of a command with its operands.
unfoldable pub due_size : Due → ℕ
due_size table = table_size
due_size cell = cell_size
due_size word = word_size
due_size end = end_size

-- The command whose byte stands at a place, with the operands after it.
unfoldable pub command_at : Due → List ℕ → ℕ → Command
command_at table image at = Table (unsigned_at image (at + 1) 1) (signed_at image (at + 2))
command_at cell image at = Cell (unsigned_at image (at + 1) 1) (unsigned_at image (at + 2) 2) (unsigned_at image (at + 4) 2) (unsigned_at image (at + 6) 1)
command_at word image at = Word (unsigned_at image (at + 1) 2) (signed_at image (at + 3))
command_at end image at = End (unsigned_at image (at + 1) 4)

-- The most classes that a cut has.
unfoldable pub most_classes : ℕ
most_classes = 4096

-- The operand rules, for each command.
unfoldable pub keeps_rules : Place → Command → Bool
keeps_rules p (Table n offset) = is_variables n && is_value offset
keeps_rules p (Cell group incoming outgoing width) =
    leb 1 group && leb group p.left
    && eqb incoming p.classes
    && leb 1 outgoing && leb outgoing most_classes
    && (ltb group p.left || eqb outgoing 1)
    && leb (address_bits incoming group) widest_address
keeps_rules p (Word class weight) =
    ltb class p.classes && is_weight weight && (not (eqb (p.words % 2 ^ p.group) 0) || eq_z weight (pos 0))
keeps_rules p (End bits) = eqb bits p.bits

-- The place after a command.
unfoldable pub place_after : Place → Command → Place
place_after p (Table n offset) = record {
  at = p.at + table_size;
  n = n;
  left = n;
  classes = 1;
  words = 0;
  group = 0;
  width = 0;
  least = pos 0;
  greatest = pos 0;
  bits = 0;
}
place_after p (Cell group incoming outgoing width) = record {
  at = p.at + cell_size;
  n = p.n;
  left = p.left - group;
  classes = outgoing;
  words = incoming * 2 ^ group;
  group = group;
  width = width;
  least = pos 0;
  greatest = pos 0;
  bits = p.bits + cell_bits incoming group outgoing width;
}
place_after p (Word class weight) = record {
  at = p.at + word_size;
  n = p.n;
  left = p.left;
  classes = p.classes;
  words = p.words - 1;
  group = p.group;
  width = p.width;
  least = lesser p.least weight;
  greatest = greater p.greatest weight;
  bits = p.bits;
}
place_after p (End bits) = record {
  at = p.at + end_size;
  n = p.n;
  left = p.left;
  classes = p.classes;
  words = p.words;
  group = p.group;
  width = p.width;
  least = p.least;
  greatest = p.greatest;
  bits = p.bits;
}

-- After a cell's last word its width is the least that holds its weights, the least and the greatest among them.
unfoldable pub width_is_least : Place → Bool
width_is_least p = ltb 0 p.words || eqb p.width (weight_width (p.least ∷ p.greatest ∷ []))

-- No byte follows the command that ends the image.
unfoldable pub ends_well : List ℕ → Place → Command → Bool
ends_well image p (Table n offset) = true
ends_well image p (Cell group incoming outgoing width) = true
ends_well image p (Word class weight) = true
ends_well image p (End bits) = eqb (length image) (p.at + end_size)

-- What is judged of a command whose operands are all there: 13, and after 0x45 also 14.
unfoldable pub judged : List ℕ → Place → Command → Answer (Command × Place)
judged image p command =
    unless (keeps_rules p command) 13
    (unless (ends_well image p command) 14
    (accepted (command, place_after p command)))

-- One step: the command at a place and the next place, or a refusal.
unfoldable pub step : List ℕ → Place → Answer (Command × Place)
step image p =
    unless (width_is_least p) 13
    (unless (ltb p.at (length image)) 11
    (unless (eqb (get_or image p.at 0) (due_byte (due p))) 12
    (unless (leb (p.at + due_size (due p)) (length image)) 11
    (judged image p (command_at (due p) image p.at)))))

-- A command with those that follow it; nothing follows 0x45.
unfoldable pub followed_by : Command → Answer (List Command) → Answer (List Command)
followed_by (Table n offset) rest = map_answer (λ l. Table n offset ∷ l) rest
followed_by (Cell group incoming outgoing width) rest = map_answer (λ l. Cell group incoming outgoing width ∷ l) rest
followed_by (Word class weight) rest = map_answer (λ l. Word class weight ∷ l) rest
followed_by (End bits) rest = accepted (End bits ∷ [])

-- The commands from a place on. So many steps are enough where they are more than the bytes left.
unfoldable pub read_from : ℕ → List ℕ → Place → Answer (List Command)
read_from zero image p = refused 11
read_from (suc steps) image p = and_then (step image p) (λ s. followed_by s.0 (read_from steps image s.1))

-- Where reading starts.
unfoldable pub start : Place
start = record { at = 0; n = 0; left = 0; classes = 0; words = 0; group = 0; width = 0; least = pos 0; greatest = pos 0; bits = 0 }

-- Reading an image: all its commands, or the first refusal from the left.
unfoldable pub reading : List ℕ → Answer (List Command)
reading image = read_from (suc (length image)) image start

-- Reading an image for a given n: its 0x56 has one rule more, that it carries this n, which is judged before any later byte.
unfoldable pub reading_for : ℕ → List ℕ → Answer (List Command)
reading_for n image = and_then (step image start) (λ first. unless (eqb first.1.n n) 13 (reading image))
