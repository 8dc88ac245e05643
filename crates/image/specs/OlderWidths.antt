-- Images with other widths than the reader asks, and among them the older ones: by the older rule every cell had a signed width.
use Rattle.std.specs.Prelude.{ℕ, ◌≡◌}
use mathlib.Core.List.{List, ◌∷◌, ◌++◌, map, flat_map}
use Rattle.numbers.specs.Widths.{holds, least_width}
use Rattle.image.specs.Cells.{Cell, Card}
use Rattle.image.specs.Commands.{command_bytes, cell_commands}
use Rattle.image.specs.WellFormed.{weights, WellFormedBy, width_of}
use Rattle.image.specs.declared.Command.TheVariants as commands

-- A cell written with another width.
unfoldable pub with_width : ℕ → Cell → Cell
with_width width cell = record { group = cell.group; incoming = cell.incoming; outgoing = cell.outgoing; width = width; words = cell.words }

-- The bytes of an image from its beginning to the last word of the last of these cells.
unfoldable pub image_to : Card → List Cell → List ℕ
image_to card cells = flat_map command_bytes (commands.Table card.n card.offset ∷ flat_map cell_commands cells)

-- ---- the older rule

-- The width of a cell by the older rule: the least that holds its weights in two's complement, whatever their signs.
unfoldable pub older_width : Cell → ℕ
older_width cell = least_width holds (weights cell.words)

-- A card that keeps every rule of the reader but the present one on widths, in whose place it keeps the older one. An older good image is
-- the image of such a card: its cells have the older widths, and its 0x45 has the total with them.
abbrev pub OlderWellFormed : Card → Type 0
OlderWellFormed = WellFormedBy older_width

-- Some cell of a card has another width than the reader asks.
pub record WidthDisagrees (card : Card) : Type 0 where
  pub before : List Cell
  pub cell : Cell
  pub after : List Cell
  pub parts : card.cells ≡ before ++ cell ∷ after
  pub disagrees : ¬ (cell.width ≡ width_of cell)

-- ---- one rule for another

-- The card of the same words with the widths of a rule.
unfoldable pub with_widths : (Cell → ℕ) → Card → Card
with_widths rule card = record { n = card.n; offset = card.offset; cells = map (λ cell. with_width (rule cell) cell) card.cells }

-- What the older rule made of the same words.
abbrev pub older_card : Card → Card
older_card = with_widths older_width

-- What the present rule makes of them.
abbrev pub present_card : Card → Card
present_card = with_widths width_of
