-- A search for a list among known lists, in any order.
use Rattle.std.specs.Prelude.{ℕ, suc, ◌<◌, ◌≡◌, true, false, List, [], ◌∷◌, length, get_or, ℤ}
use Rattle.blocks.specs.Classes.{same}

-- The number that is found when the known lists are looked at in this order: that of the first equal one; where none is, the next
-- new number.
unfoldable pub found_in : List (List ℤ) → List ℕ → List ℤ → ℕ
found_in known [] d = length known
found_in known (looked ∷ order) d = elim (same (get_or known looked []) d) [ true ↦ looked | false ↦ found_in known order d ]

-- How many lists are compared on the way.
unfoldable pub compared_in : List (List ℤ) → List ℕ → List ℤ → ℕ
compared_in known [] d = 0
compared_in known (looked ∷ order) d = elim (same (get_or known looked []) d) [ true ↦ 1 | false ↦ suc (compared_in known order d) ]

-- An order of so many classes: it holds each of them, and no others.
pub record OrderOf (count : ℕ) (order : List ℕ) : Type 0 where
  pub only : (place : ℕ) → place < length order → get_or order place 0 < count
  pub each : (class : ℕ) → class < count → (place : ℕ) × ((place < length order) × (get_or order place 0 ≡ class))
