-- The two answers by the narrowest cells alone, those of one variable, given by the address width of the one from each cut.
use Rattle.std.specs.Prelude.{ℕ, zero, suc, max, ltb}
use Rattle.numbers.specs.Lists.{least}

-- The first cut from which the narrowest cell is too wide for the limit; the bottom cut n where there is none.
unfoldable pub furthest : (ℕ → ℕ) → ℕ → ℕ → ℕ
furthest address limit n = least (λ h. ltb limit (address h)) n

-- The greatest address width of the narrowest cells from the cuts above cut h.
unfoldable pub widest_above : (ℕ → ℕ) → ℕ → ℕ
widest_above address zero = 0
widest_above address (suc h) = max (widest_above address h) (address h)
