-- What the node count is counted from.
use Rattle.std.specs.Prelude.{ℕ, suc, ◌-◌, List, ℤ}
use Rattle.numbers.specs.Lists.{tally}
use Rattle.blocks.specs.Classes.{classes}
use Rattle.diagram.specs.Records.{branches}

-- How many classes of cut h branch.
unfoldable pub branching_at : ℕ → List ℤ → ℕ → ℕ
branching_at n table h = tally (branches (n - suc h)) (classes n table h)
