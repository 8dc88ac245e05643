-- A planned cell of a table, and the bytes that its words are written as.
use Rattle.std.specs.Prelude.{ℕ, ◌+◌, ◌≤◌, ◌≡◌, ℤ, List, map}
use mathlib.Core.List.{flat_map}
use Rattle.image.specs.Cells.{Word}
use Rattle.image.specs.Commands.{command_bytes, word_command}
use Rattle.cascade.specs.Cascade.{cell_of}
use Rattle.cascade.specs.declared.Cell.{Cell as PlanCell}

-- The bytes of words.
unfoldable pub word_bytes : List Word → List ℕ
word_bytes words = flat_map command_bytes (map word_command words)

-- A planned cell of a table from cut h: what is written of it.
pub record CellPlanned (n h : ℕ) (table : List ℤ) (cell : PlanCell) : Type 0 where
  pub ends : h + cell.group ≤ n
  pub entering : cell.incoming ≡ (cell_of n table h cell.group).incoming
  pub leaving : cell.outgoing ≡ (cell_of n table h cell.group).outgoing
  pub wide : cell.width ≡ (cell_of n table h cell.group).width
