-- The ranges of the paper: variables, address limits, values, weights. Integers are compared by tests that compute.
use Rattle.std.specs.Prelude.{ℕ, Bool, false, ◌&&◌, cond, leb, eqb, ℤ, pos, negsuc, neg_ℤ}
use Rattle.std.specs.Int.Signed.{le_z}

-- The most variables that a table may have.
unfoldable pub most_variables : ℕ
most_variables = 12

-- The widest address of a cell.
unfoldable pub widest_address : ℕ
widest_address = 12

-- n (the paper's term), the number of variables: 1 to 12.
unfoldable pub is_variables : ℕ → Bool
is_variables n = leb 1 n && leb n most_variables

-- A, the address limit (the paper's term): 1 to 12.
unfoldable pub is_limit : ℕ → Bool
is_limit limit = leb 1 limit && leb limit widest_address

-- An integer from low to high, both included.
unfoldable pub within : ℤ → ℤ → ℤ → Bool
within low high z = le_z low z && le_z z high

-- A value of a table, and an offset: -8,388,608 to 8,388,607.
unfoldable pub is_value : ℤ → Bool
is_value z = within (neg_ℤ (pos 8388608)) (pos 8388607) z

-- A weight (the paper's term) of a record list or an image: within ±16,777,215, the greatest difference of two values.
unfoldable pub is_weight : ℤ → Bool
is_weight z = within (neg_ℤ (pos 16777215)) (pos 16777215) z

-- Equal integers, as a test.
unfoldable pub eq_z : ℤ → ℤ → Bool
eq_z (pos a) (pos b) = eqb a b
eq_z (pos a) (negsuc b) = false
eq_z (negsuc a) (pos b) = false
eq_z (negsuc a) (negsuc b) = eqb a b

-- The lesser and the greater of two integers.
unfoldable pub lesser : ℤ → ℤ → ℤ
lesser a b = cond (le_z a b) a b

unfoldable pub greater : ℤ → ℤ → ℤ
greater a b = cond (le_z a b) b a
