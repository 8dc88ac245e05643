-- A table written as decimal text.
use Rattle.std.specs.Prelude.{ℕ, ℤ, pos}
use mathlib.Core.List.{List, [], ◌∷◌, ◌++◌, flat_map}
use Rattle.lines.specs.Text.{decimal}
use Rattle.decimal.specs.Table.{Table}

-- A value on a line of its own.
unfoldable pub value_line : ℤ → List ℕ
value_line value = decimal value ++ 10 ∷ []

-- n, a space and the limit on the first line, then the values.
unfoldable pub table_text : Table → List ℕ
table_text table = decimal (pos table.n) ++ 32 ∷ decimal (pos table.limit) ++ 10 ∷ flat_map value_line table.values
