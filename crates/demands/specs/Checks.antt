-- An order of checks: conditions, each with the number that its failure gives, and what it means that an operation
-- goes by them.
use Rattle.std.specs.Prelude.{ℕ, ◌≡◌, ◌↔◌, ◌⊎◌, List, [], ◌∷◌}
use Rattle.numbers.specs.Answers.{Answer, accepted, refused}

-- A condition of the paper, and which numbers its failure gives.
pub record Check : Type 1 where
  pub holds : Type 0
  pub gives : ℕ → Type 0

-- A condition whose failure gives this one number.
infix 70 ◌otherwise◌
abbrev pub ◌otherwise◌ : Type 0 → ℕ → Check
condition otherwise number = record { holds = condition; gives = λ k. k ≡ number }

-- Every condition holds.
unfoldable pub AllHold : List Check → Type 0
AllHold [] = Unit {0}
AllHold (check ∷ checks) = check.holds × AllHold checks

-- The first condition that does not hold gives the number k.
unfoldable pub FirstFails : List Check → ℕ → Type 0
FirstFails [] k = ⊥
FirstFails (check ∷ checks) k = ((¬ check.holds) × check.gives k) ⊎ (check.holds × FirstFails checks k)

-- An answer goes by an order of checks: accepted exactly where all hold, refused with k exactly where the first that
-- fails gives k.
pub record Decided {A : Type 0} (answer : Answer A) (checks : List Check) : Type 0 where
  pub accepts : AllHold checks ↔ ((a : A) × (answer ≡ accepted a))
  pub refuses : (k : ℕ) → FirstFails checks k ↔ (answer ≡ refused k)
