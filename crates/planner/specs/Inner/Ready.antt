-- What the choice at a cut works with.
use Rattle.std.specs.Prelude.{ℕ, ◌≤◌, ◌<◌, ◌≡◌, List, get_or, ℤ, Option, None}
use Rattle.cascade.specs.Inner.Choices.{table_choice}
use Rattle.cascade.specs.declared.Choice.{Choice}

-- A cut above the bottom one, with the choices at the cuts below it.
pub record CutReady (n h limit : ℕ) (table : List ℤ) (choices : List (Option Choice)) : Type 0 where
  pub cut : h < n
  pub below : (cut : ℕ) → h < cut → cut ≤ n → get_or choices cut None ≡ table_choice n table limit cut
