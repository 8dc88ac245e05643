-- What every place that the reader reaches keeps, so that the numbers of the code fit the machine's.
use Rattle.std.specs.Prelude.{ℕ, ◌+◌, ◌*◌, ◌^◌, ◌≤◌, ◌<◌, ◌≡◌, true}
use Rattle.numbers.specs.Ranges.{most_variables, widest_address}
use Rattle.numbers.specs.Widths.{address_bits}
use Rattle.image.specs.Inner.Kinds.{kind_of, width_of}
use Rattle.image.specs.Reader.{due, keeps_rules, most_classes}
use Rattle.image.specs.declared.Command.{Command}
use Rattle.image.specs.declared.Place.{Place}

-- The memory bits that a cell has at most, its weight width being any byte: 2^12 words of 12 + 255 bits.
unfoldable pub most_bits : ℕ
most_bits = 1093632

-- What every place keeps.
pub record WithinBounds (p : Place) : Type 0 where
  pub group : p.group ≤ most_variables
  pub classes : p.classes ≤ most_classes
  pub left : p.left ≤ most_variables
  pub bits : p.bits + p.left * most_bits ≤ most_variables * most_bits

-- A cell that has no more than these memory bits.
pub record CellFits (incoming group outgoing width : ℕ) : Type 0 where
  pub address : address_bits incoming group ≤ widest_address
  pub entering : incoming ≤ most_classes
  pub leaving : outgoing ≤ most_classes
  pub narrow : width < 256

-- A command that is due at a place.
pub record IsDue (p : Place) (command : Command) : Type 0 where
  pub bounds : WithinBounds p
  pub allowed : due p ≡ kind_of command
  pub width : width_of command < 256
  pub room : p.at < 2 ^ 63

-- A command that is due at a place and keeps its rules there.
pub record Follows (p : Place) (command : Command) : Type 0 where
  pub is_due : IsDue p command
  pub rules : keeps_rules p command ≡ true
