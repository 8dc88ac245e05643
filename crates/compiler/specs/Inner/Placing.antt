-- What compiling leaves: the image of planned cells in a buffer.
use Rattle.std.specs.Prelude.{ℕ, ◌≡◌, List, length, leb, ℤ, Result}
use Rattle.numbers.specs.Answers.{Answer, accepted, unless, map_answer, buffer_after}
use Rattle.numbers.specs.declared.Refusal.{Refusal}
use Rattle.cascade.specs.Compile.{image_for, image_summary, outcome, compiled_cells}
use Rattle.cascade.specs.Plan.{cell_array}
use Rattle.cascade.specs.declared.Compiled.{Compiled}

-- The image of a grouping goes into a buffer of so many bytes, or 10.
unfoldable pub image_placed : ℕ → List ℤ → List ℕ → ℕ → Answer (List ℕ)
image_placed n table sizes room = unless (leb (length (image_for n table sizes)) room) 10 (accepted sizes)

-- What is then answered, and left in the buffer.
pub record Places (n : ℕ) (table : List ℤ) (sizes buffer : List ℕ) (answer : Result Compiled Refusal) (buffer' : List ℕ) : Type 0 where
  pub answered : outcome answer ≡ map_answer (image_summary n table) (image_placed n table sizes (length buffer))
  pub priced : compiled_cells answer ≡ cell_array n table (image_placed n table sizes (length buffer))
  pub left : buffer' ≡ buffer_after (image_placed n table sizes (length buffer)) (image_for n table) buffer
