-- What the theorems speak of: an accepted table, what Build writes for it, and the function that a node stands for.
use Rattle.std.specs.Prelude.{ℕ, ◌^◌, ◌≡◌, true, length, ℤ}
use mathlib.Core.List.{List, flat_map}
use Rattle.numbers.specs.Lists.{every}
use Rattle.numbers.specs.Ranges.{is_variables, is_value}
use Rattle.diagram.specs.Records.{records, record_numbers}
use Rattle.diagram.specs.Walk.{path_weight}

-- A table that passes the checks 1, 2 and 3: n from 1 to 12, 2^n values, each in range.
pub record Accepted (n : ℕ) (table : List ℤ) : Type 0 where
  pub variables : is_variables n ≡ true
  pub size : length table ≡ 2 ^ n
  pub values : every is_value table ≡ true

-- What Build writes: the numbers of the table's records, one record after the other.
abbrev pub written : ℕ → List ℤ → List ℤ
written n table = flat_map record_numbers (records n table)

-- The function of X that node k of the table's diagram stands for: the weights of the 1-edges on the path from it.
abbrev pub node_function : ℕ → List ℤ → ℕ → ℕ → ℤ
node_function n table k x = path_weight (written n table) n k x
