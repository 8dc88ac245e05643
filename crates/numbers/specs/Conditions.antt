-- The paper's ranges as plain conditions, which the tests of the definitions pass exactly; and what is least and greatest over some X.
use Rattle.std.specs.Prelude.{ℕ, ◌^◌, ◌≤◌, ◌<◌, ◌≡◌, ℤ, pos, neg_ℤ, ◌≤ℤ◌}

-- An integer from low to high, both included.
unfoldable pub Between : ℤ → ℤ → ℤ → Type 0
Between low high z = (low ≤ℤ z) × (z ≤ℤ high)

-- n is 1 to 12.
unfoldable pub Variables : ℕ → Type 0
Variables n = (1 ≤ n) × (n ≤ 12)

-- A, the address limit, is 1 to 12.
unfoldable pub Limit : ℕ → Type 0
Limit limit = (1 ≤ limit) × (limit ≤ 12)

-- A value of a table, or an offset: from -8,388,608 to 8,388,607.
unfoldable pub TableValue : ℤ → Type 0
TableValue z = Between (neg_ℤ (pos 8388608)) (pos 8388607) z

-- A signed 32-bit number: from -2,147,483,648 to 2,147,483,647.
unfoldable pub Signed32 : ℤ → Type 0
Signed32 z = Between (neg_ℤ (pos 2147483648)) (pos 2147483647) z

-- X of the domain, below 2^n.
abbrev pub Domain : ℕ → ℕ → Type 0
Domain n x = x < 2 ^ n

-- X of a part of it, from a to b, both included.
abbrev pub Part : ℕ → ℕ → ℕ → Type 0
Part a b x = (a ≤ x) × (x ≤ b)

-- The least of a function's values over some X: at none of these is there less, and at one of them it is met.
pub record LeastOver (over : ℕ → Type 0) (f : ℕ → ℤ) (z : ℤ) : Type 0 where
  pub under : (x : ℕ) → over x → z ≤ℤ f x
  pub met : (x : ℕ) × (over x × (z ≡ f x))

-- The greatest likewise.
pub record GreatestOver (over : ℕ → Type 0) (f : ℕ → ℤ) (z : ℤ) : Type 0 where
  pub above : (x : ℕ) → over x → f x ≤ℤ z
  pub met : (x : ℕ) × (over x × (z ≡ f x))
