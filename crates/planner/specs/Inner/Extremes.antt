-- The extremes of a cell's weights, which are gathered word by word.
use Rattle.std.specs.Prelude.{ℕ, List, take, ℤ, pos}
use Rattle.numbers.specs.Extremes.{lowest, highest}
use Rattle.image.specs.WellFormed.{weights}
use Rattle.cascade.specs.Cascade.{words_of}
use Rattle.diagram.specs.declared.Range.{Range}

-- The extremes of the first k weights of the cell from cut h to cut h + g, and of 0.
unfoldable pub extremes_of : ℕ → List ℤ → ℕ → ℕ → ℕ → Range
extremes_of n table h g k =
    let so_far = weights (take k (words_of n table h g)) in
    record { least = lowest (pos 0) so_far; greatest = highest (pos 0) so_far }
