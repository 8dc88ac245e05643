-- Build: what it answers, and what its buffer then holds.
use Rattle.std.specs.Prelude.{ℕ, ◌-◌, ◌*◌, ◌^◌, ◌≡◌, length, take, leb, eqb, ℤ, Result}
use mathlib.Core.List.{List, flat_map}
use Rattle.numbers.specs.Answers.{Answer, accepted, unless, map_answer, buffer_after}
use Rattle.numbers.specs.Refusals.{answer_of}
use Rattle.numbers.specs.declared.Refusal.{Refusal}
use Rattle.numbers.specs.Lists.{every}
use Rattle.numbers.specs.Ranges.{is_variables, is_value}
use Rattle.diagram.specs.Records.{Record, records, record_numbers, record_size, offset, node_count}
use Rattle.diagram.specs.declared.Built.{Built}

-- The checks on a table that Build, Plan and Compile share, in their order: 1, 2, 3.
unfoldable pub of_table : {A : Type 0} → ℕ → List ℤ → Answer A → Answer A
of_table n table rest =
    unless (is_variables n) 1
    (unless (eqb (length table) (2 ^ n)) 2
    (unless (every is_value table) 3
    rest))

-- The numbers that a node buffer must have room for: those of 2^n - 1 records.
unfoldable pub node_room : ℕ → ℕ
node_room n = record_size * (2 ^ n - 1)

-- Build's answer for a buffer of so many numbers: the records, or a refusal.
unfoldable pub build : ℕ → List ℤ → ℕ → Answer (List Record)
build n table room = of_table n table (unless (leb (node_room n) room) 4 (accepted (records n table)))

-- Node count and offset.
pub record Summary : Type 0 where
  pub nodes : ℕ
  pub table_offset : ℤ

-- Those of a table.
abbrev pub summary_of : ℕ → List ℤ → Summary
summary_of n table = record { nodes = node_count n table; table_offset = offset table }

-- What Build answers beside its buffer.
unfoldable pub build_answer : ℕ → List ℤ → ℕ → Answer Summary
build_answer n table room = map_answer (λ rs. summary_of n table) (build n table room)

-- What the lent node buffer holds after Build.
unfoldable pub build_buffer : ℕ → List ℤ → List ℤ → List ℤ
build_buffer n table buffer = buffer_after (build n table (length buffer)) (flat_map record_numbers) buffer

-- The records' part of a node buffer, for so many nodes: the numbers of each node but the terminal.
unfoldable pub record_part : ℕ → List ℤ → List ℤ
record_part count buffer = take (record_size * (count - 1)) buffer

-- The paper's answer that a result stands for.
unfoldable pub built : Result Built Refusal → Answer Summary
built result = map_answer (λ (b : Built). record { nodes = b.nodes; table_offset = b.offset }) (answer_of result)

-- Build's promise: its answer, and what its buffer then holds.
pub record Builds (n : ℕ) (table buffer : List ℤ) (answer : Result Built Refusal) (buffer' : List ℤ) : Type 0 where
  pub answered : built answer ≡ build_answer n table (length buffer)
  pub left : buffer' ≡ build_buffer n table buffer
