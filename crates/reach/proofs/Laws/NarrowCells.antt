-- The counts, one by one.
use Rattle.std.specs.Prelude.{ℕ, ◌≤◌, ◌<◌, List, length, get_or}
use Rattle.std.proofs.Common.{arith}
use Rattle.reach.specs.Inner.NarrowCells.{CountsReady}

-- The count of a cut above the bottom one stands in the row.
pub count_ready : {n : ℕ} {count_row : List ℕ} → CountsReady n count_row → (h : ℕ) → h < n → (h < length count_row) × (get_or count_row h 0 ≤ 4096)
count_ready r h l = ((let p = r.places in omega arith), r.few h l)
