-- How Plan's and Compile's answers come back through C: a number as the result, rows of numbers, values behind references.
use Rattle.std.specs.Prelude.{ℕ, ◌≡◌, length, ℤ}
use mathlib.Core.List.{List, flat_map}
use Rattle.cascade.specs.Plan.{plan, plan_answer, size_array, cell_array}
use Rattle.cascade.specs.Compile.{compile_answer, compile_cells, compile_buffer}
use Rattle.cascade.specs.Rows.{cell_row}
use Rattle.exports.specs.Results.{result_of, left_behind}

-- What Plan answers, and leaves in its two rows and behind its two references.
pub record PlanGiven (n : ℕ) (table : List ℤ) (limit : ℕ) (sizes cells : List ℕ) (count bits : ℕ) (result : ℕ) (sizes' cells' : List ℕ) (count' bits' : ℕ) : Type 0 where
  pub answered : result ≡ result_of (plan_answer n table limit)
  pub sized : sizes' ≡ left_behind (plan_answer n table limit) (λ t. size_array (plan n table limit)) sizes
  pub celled : cells' ≡ left_behind (plan_answer n table limit) (λ t. flat_map cell_row (cell_array n table (plan n table limit))) cells
  pub counted : count' ≡ left_behind (plan_answer n table limit) (λ t. t.cells) count
  pub summed : bits' ≡ left_behind (plan_answer n table limit) (λ t. t.bits) bits

-- What Compile answers, and leaves in its image buffer, in its row and behind its four references.
pub record CompileGiven (n : ℕ) (table : List ℤ) (limit : ℕ) (image cells : List ℕ) (image_length nodes count bits : ℕ) (result : ℕ) (image' cells' : List ℕ) (image_length' nodes' count' bits' : ℕ) : Type 0 where
  pub answered : result ≡ result_of (compile_answer n table limit (length image))
  pub imaged : image' ≡ compile_buffer n table limit image
  pub celled : cells' ≡ left_behind (compile_answer n table limit (length image)) (λ r. flat_map cell_row (compile_cells n table limit (length image))) cells
  pub measured : image_length' ≡ left_behind (compile_answer n table limit (length image)) (λ r. r.image_length) image_length
  pub noded : nodes' ≡ left_behind (compile_answer n table limit (length image)) (λ r. r.nodes) nodes
  pub counted : count' ≡ left_behind (compile_answer n table limit (length image)) (λ r. r.planned.cells) count
  pub summed : bits' ≡ left_behind (compile_answer n table limit (length image)) (λ r. r.planned.bits) bits
