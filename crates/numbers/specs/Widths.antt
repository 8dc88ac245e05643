-- The widths of a cell, and its cost in memory bits.
use Rattle.std.specs.Prelude.{ℕ, zero, suc, ◌+◌, ◌-◌, ◌*◌, ◌^◌, max, Bool, cond, List, [], ◌∷◌, leb, ℤ, pos, neg_ℤ}
use Rattle.std.specs.Int.Signed.{mag, lt_z, non_neg}
use Rattle.numbers.specs.Lists.{every, least}
use Rattle.numbers.specs.Ranges.{within, eq_z}

-- Rail width (the paper's term): the least number of bits that tells so many classes apart.
unfoldable pub rail_width : ℕ → ℕ
rail_width count = least (λ w. leb count (2 ^ w)) count

-- a bits hold z in two's complement: no bit holds 0 alone, one bit -1 and 0, two bits -2 to 1.
unfoldable pub holds : ℕ → ℤ → Bool
holds zero z = eq_z z (pos 0)
holds (suc a) z = within (neg_ℤ (pos (2 ^ a))) (pos (2 ^ a - 1)) z

-- a bits hold z without a sign, where z is not negative: it is below 2^a.
unfoldable pub holds_unsigned : ℕ → ℤ → Bool
holds_unsigned a z = lt_z z (pos (2 ^ a))

-- A number of bits that surely holds every weight: where the search for the least ends.
unfoldable pub enough : List ℤ → ℕ
enough [] = 0
enough (z ∷ weights) = max (suc (mag z)) (enough weights)

-- The least number of bits that holds every weight by a rule.
unfoldable pub least_width : (ℕ → ℤ → Bool) → List ℤ → ℕ
least_width rule weights = least (λ a. every (rule a) weights) (enough weights)

-- No weight of the cell is negative.
unfoldable pub none_negative : List ℤ → Bool
none_negative weights = every non_neg weights

-- Weight width (the paper's term): without a negative weight the least a with every weight below 2^a, else the least that holds every
-- weight in two's complement.
unfoldable pub weight_width : List ℤ → ℕ
weight_width weights = cond (none_negative weights) (least_width holds_unsigned weights) (least_width holds weights)

-- Address width of a cell (the paper's term): the incoming rail width and the group's variables.
abbrev pub address_bits : ℕ → ℕ → ℕ
address_bits incoming group = rail_width incoming + group

-- Memory bits of a cell (the paper's term), its cost: a word for each address, a class and a weight in each word.
unfoldable pub cell_bits : ℕ → ℕ → ℕ → ℕ → ℕ
cell_bits incoming group outgoing width = 2 ^ address_bits incoming group * (rail_width outgoing + width)
