-- Cards that keep the paper's rules: what the reader admits, said of cells and words instead of bytes.
use Rattle.std.specs.Prelude.{ℕ, ◌-◌, ◌*◌, ◌%◌, ◌^◌, ◌≤◌, ◌<◌, ◌≡◌, true, List, [], ◌∷◌, map, length, get_or, ℤ, pos}
use Rattle.numbers.specs.Ranges.{is_variables, is_value, is_weight, widest_address}
use Rattle.numbers.specs.Widths.{address_bits, weight_width}
use Rattle.image.specs.Cells.{Word, Cell, Card}
use Rattle.image.specs.Reader.{most_classes}

-- What stands past the last word.
unfoldable pub no_word : Word
no_word = record { class = 0; weight = pos 0 }

-- The weights of a cell's words.
unfoldable pub weights : List Word → List ℤ
weights words = map (λ word. word.weight) words

-- The numbers of a cell that begins with so many variables left and so many classes.
pub record KeepsShape (left classes group incoming outgoing : ℕ) : Type 0 where
  pub some : 1 ≤ group
  pub inside : group ≤ left
  pub joined : incoming ≡ classes
  pub leaving : 1 ≤ outgoing
  pub most : outgoing ≤ most_classes
  pub last : group ≡ left → outgoing ≡ 1
  pub address : address_bits incoming group ≤ widest_address

-- A word whose place in its cell has this group value.
pub record KeepsWord (outgoing value : ℕ) (word : Word) : Type 0 where
  pub known : word.class < outgoing
  pub ranged : is_weight word.weight ≡ true
  pub grounded : value ≡ 0 → word.weight ≡ pos 0

-- A cell that begins with so many variables left and so many classes, with the width that a rule gives it.
pub record KeepsCellBy (rule : Cell → ℕ) (left classes : ℕ) (cell : Cell) : Type 0 where
  pub shape : KeepsShape left classes cell.group cell.incoming cell.outgoing
  pub whole : length cell.words ≡ cell.incoming * 2 ^ cell.group
  pub words : (j : ℕ) → j < length cell.words
      → KeepsWord cell.outgoing (j % 2 ^ cell.group) (get_or cell.words j no_word)
  pub width : cell.width ≡ rule cell

-- The cells from a cut down, with so many variables left and so many classes there.
unfoldable pub KeepsCellsBy : (Cell → ℕ) → ℕ → ℕ → List Cell → Type 0
KeepsCellsBy rule left classes [] = left ≡ 0
KeepsCellsBy rule left classes (cell ∷ cells) =
    KeepsCellBy rule left classes cell × KeepsCellsBy rule (left - cell.group) cell.outgoing cells

-- A card that keeps every rule of the reader, with the widths that a rule gives its cells.
pub record WellFormedBy (rule : Cell → ℕ) (card : Card) : Type 0 where
  pub variables : is_variables card.n ≡ true
  pub offset : is_value card.offset ≡ true
  pub cells : KeepsCellsBy rule card.n 1 card.cells

-- The width that the reader asks of a cell: the weight width of its words.
abbrev pub width_of : Cell → ℕ
width_of cell = weight_width (weights cell.words)

-- With these widths: a cell, the cells from a cut down, and a card that keeps every rule.
abbrev pub KeepsCell : ℕ → ℕ → Cell → Type 0
KeepsCell = KeepsCellBy width_of

abbrev pub KeepsCells : ℕ → ℕ → List Cell → Type 0
KeepsCells = KeepsCellsBy width_of

abbrev pub WellFormed : Card → Type 0
WellFormed = WellFormedBy width_of
