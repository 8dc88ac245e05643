-- Compile: its outcome, the cells beside it, and what the image buffer then holds.
use Rattle.std.specs.Prelude.{ℕ, ◌≡◌, List, length, take, leb, replicate, ℤ, Result, Ok, Err}
use Rattle.numbers.specs.Answers.{Answer, accepted, unless, map_answer, and_then, buffer_after}
use Rattle.numbers.specs.Refusals.{answer_of}
use Rattle.numbers.specs.declared.Refusal.{Refusal}
use Rattle.numbers.specs.Ranges.{most_variables}
use Rattle.diagram.specs.Records.{node_count}
use Rattle.image.specs.Commands.{image_of}
use Rattle.cascade.specs.Cascade.{card_for}
use Rattle.cascade.specs.Plan.{plan, Totals, totals, cell_array, no_cell}
use Rattle.cascade.specs.declared.Cell.{Cell as PlanCell}
use Rattle.cascade.specs.declared.Compiled.{Compiled}

-- The bytes of the image of a grouping.
unfoldable pub image_for : ℕ → List ℤ → List ℕ → List ℕ
image_for n table sizes = image_of (card_for n table sizes)

-- Compile's answer for an image buffer of so many bytes: the chosen sizes, or a refusal.
unfoldable pub compile : ℕ → List ℤ → ℕ → ℕ → Answer (List ℕ)
compile n table limit room =
    and_then (plan n table limit) (λ sizes. unless (leb (length (image_for n table sizes)) room) 10 (accepted sizes))

-- The image's length, the node count, and Plan's totals.
pub record ImageSummary : Type 0 where
  pub image_length : ℕ
  pub nodes : ℕ
  pub planned : Totals

unfoldable pub image_summary : ℕ → List ℤ → List ℕ → ImageSummary
image_summary n table sizes = record { image_length = length (image_for n table sizes); nodes = node_count n table; planned = totals n table sizes }

unfoldable pub compile_answer : ℕ → List ℤ → ℕ → ℕ → Answer ImageSummary
compile_answer n table limit room = map_answer (image_summary n table) (compile n table limit room)

-- The cells beside the outcome: Plan's, and all 0 in every refusal.
unfoldable pub compile_cells : ℕ → List ℤ → ℕ → ℕ → List PlanCell
compile_cells n table limit room = cell_array n table (compile n table limit room)

-- What the lent image buffer holds after Compile.
unfoldable pub compile_buffer : ℕ → List ℤ → ℕ → List ℕ → List ℕ
compile_buffer n table limit buffer = buffer_after (compile n table limit (length buffer)) (image_for n table) buffer

-- Compiled image (the paper's term): the first bytes of the buffer, as many as Compile's length.
unfoldable pub compiled_image : ImageSummary → List ℕ → List ℕ
compiled_image r buffer = take r.image_length buffer

-- The paper's answer that a result stands for.
unfoldable pub outcome : Result Compiled Refusal → Answer ImageSummary
outcome result = map_answer (λ (c : Compiled). record { image_length = c.length; nodes = c.nodes; planned = record { cells = c.count; bits = c.bits } }) (answer_of result)

-- The cells that a result stands for: a refusal's are all 0.
unfoldable pub compiled_cells : Result Compiled Refusal → List PlanCell
compiled_cells (Ok compiled) = compiled.cells
compiled_cells (Err refusal) = replicate most_variables no_cell

-- Compile's promise: its answer, the cells beside it, and what its buffer then holds.
pub record Compiles (n : ℕ) (table : List ℤ) (limit : ℕ) (buffer : List ℕ) (answer : Result Compiled Refusal) (buffer' : List ℕ) : Type 0 where
  pub answered : outcome answer ≡ compile_answer n table limit (length buffer)
  pub priced : compiled_cells answer ≡ compile_cells n table limit (length buffer)
  pub left : buffer' ≡ compile_buffer n table limit buffer
