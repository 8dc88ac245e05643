-- The cells of a table's cascade: words, widths and costs for a group between two cuts.
use Rattle.std.specs.Prelude.{ℕ, ◌+◌, ◌-◌, ◌^◌, ℤ, ◌-ℤ◌}
use mathlib.Core.List.{List, [], ◌∷◌, map, flat_map}
use Rattle.numbers.specs.Lists.{numbers_from}
use Rattle.numbers.specs.Widths.{weight_width}
use Rattle.blocks.specs.Blocks.{block, first}
use Rattle.blocks.specs.Classes.{classes, class_count, class_of}
use Rattle.image.specs.Cells.{Word, Cell, Card}

-- The word for group value v of a block at cut h: the class of sub-block v at cut h + g, and its weight.
unfoldable pub word_of : ℕ → List ℤ → ℕ → ℕ → List ℤ → ℕ → Word
word_of n table h g values v =
    let part = block values (n - (h + g)) v in
    record { class = class_of n table (h + g) part; weight = first part -ℤ first values }

-- The words of the cell from cut h to cut h + g: by incoming class, then group value.
unfoldable pub words_of : ℕ → List ℤ → ℕ → ℕ → List Word
words_of n table h g = flat_map (λ values. map (word_of n table h g values) (numbers_from 0 (2 ^ g))) (classes n table h)

-- The cell from cut h to cut h + g.
unfoldable pub cell_of : ℕ → List ℤ → ℕ → ℕ → Cell
cell_of n table h g = record {
  group = g;
  incoming = class_count n table h;
  outgoing = class_count n table (h + g);
  width = weight_width (map (λ word. word.weight) (words_of n table h g));
  words = words_of n table h g;
}

-- The cells of a list of sizes, from cut h down.
unfoldable pub cells_from : ℕ → List ℤ → ℕ → List ℕ → List Cell
cells_from n table h [] = []
cells_from n table h (g ∷ sizes) = cell_of n table h g ∷ cells_from n table (h + g) sizes

-- The card of a grouping: the table's offset, and the cells from the top down.
unfoldable pub card_for : ℕ → List ℤ → List ℕ → Card
card_for n table sizes = record { n = n; offset = first table; cells = cells_from n table 0 sizes }
