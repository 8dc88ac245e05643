-- When a case of Plan or Compile passes, by the definition of the operation. What the numbers of a case are stands in the crate checks.
use Rattle.std.specs.Prelude.{Bool, ◌&&◌, List, map, replicate, ℤ, pos, ◌==◌, nat_le}
use mathlib.Core.List.{flat_map}
use Rattle.numbers.specs.Answers.{Answer}
use Rattle.cascade.specs.Plan.{Totals, plan, plan_answer, size_array, cell_array}
use Rattle.cascade.specs.Compile.{ImageSummary, compile_answer, compile_cells, compile_buffer}
use Rattle.cascade.specs.Rows.{cell_row}
use Rattle.cases.specs.Rows.{size_at, byte_lent, answer_is, front_holds, sizes_are}

-- Plan's verdict is the expected one: its refusal, its count of cells and its bits.
unfoldable pub verdict_is : List ℤ → Answer Totals → Bool
verdict_is numbers answer = answer_is (size_at numbers 3) (λ t. (size_at numbers 4 == t.cells) && size_at numbers 5 == t.bits) answer

-- Plan answers so, with these sizes and these cells, seven numbers each.
unfoldable pub plan_passes : List ℤ → List ℤ → List ℤ → List ℤ → Bool
plan_passes numbers table sizes cells =
    let n = size_at numbers 1 in
    let limit = size_at numbers 2 in
    let planned = plan n table limit in
    verdict_is numbers (plan_answer n table limit)
    && (sizes_are (size_array planned) sizes
    && sizes_are (flat_map cell_row (cell_array n table planned)) cells)

-- Compile's outcome is the expected one: its refusal, its length, its node count, its count of cells and its bits.
unfoldable pub outcome_is : List ℤ → Answer ImageSummary → Bool
outcome_is numbers answer =
    answer_is (size_at numbers 4)
    (λ r.
    (size_at numbers 5 == r.image_length)
    && (size_at numbers 6 == r.nodes
    && (size_at numbers 7 == r.planned.cells
    && size_at numbers 8 == r.planned.bits)))
    answer

-- Compile answers so, with these cells, and leaves these bytes in front of the lent image.
unfoldable pub compile_passes : List ℤ → List ℤ → List ℤ → List ℤ → Bool
compile_passes numbers table cells front =
    let n = size_at numbers 1 in
    let limit = size_at numbers 2 in
    let places = size_at numbers 3 in
    nat_le places 512
    && (outcome_is numbers (compile_answer n table limit places)
    && (sizes_are (flat_map cell_row (compile_cells n table limit places)) cells
    && front_holds (pos byte_lent) (map pos (compile_buffer n table limit (replicate places byte_lent))) front))
