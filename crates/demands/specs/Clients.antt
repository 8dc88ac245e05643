-- What clients of the operations know from the contracts: a table compiled and run at X gives f(X), compiled and
-- expanded the table.
use Rattle.std.specs.Prelude.{ℕ, ◌^◌, ◌≡◌, List, length, get_or, ltb, eqb, ℤ, pos, Result as Outcome}
use Rattle.numbers.specs.Answers.{Answer, accepted, unless, map_answer, and_then, buffer_after}
use Rattle.numbers.specs.Refusals.{answer_of}
use Rattle.numbers.specs.declared.Refusal.{Refusal}
use Rattle.image.specs.Run.{Result, ran}
use Rattle.image.specs.declared.Evaluated.{Evaluated}
use Rattle.cascade.specs.Compile.{compile_answer, compile_buffer}

-- Compile's refusals; then X not below 2^n is 7; else f(X), and as many words as Compile answered cells.
unfoldable pub run_table : ℕ → List ℤ → ℕ → ℕ → ℕ → Answer Result
run_table n table limit room x =
    and_then (compile_answer n table limit room)
    (λ r. unless (ltb x (2 ^ n)) 7 (accepted (record { value = get_or table x (pos 0); words = r.planned.cells })))

-- The promise of the first client.
pub record RunsTable (n : ℕ) (table : List ℤ) (limit : ℕ) (image : List ℕ) (x : ℕ)
    (answer : Outcome Evaluated Refusal) (image' : List ℕ) : Type 0 where
  pub answered : ran answer ≡ run_table n table limit (length image) x
  pub left : image' ≡ compile_buffer n table limit image

-- Compile's refusals; then a buffer not of 2^n numbers is 2; else the table.
unfoldable pub expand_table : ℕ → List ℤ → ℕ → ℕ → ℕ → Answer (List ℤ)
expand_table n table limit room places =
    and_then (compile_answer n table limit room) (λ r. unless (eqb places (2 ^ n)) 2 (accepted table))

-- The promise of the second.
pub record ExpandsTable (n : ℕ) (table : List ℤ) (limit : ℕ) (image : List ℕ) (values : List ℤ)
    (answer : Outcome (Unit {0}) Refusal) (image' : List ℕ) (values' : List ℤ) : Type 0 where
  pub answered : answer_of answer ≡ map_answer (λ t. tt) (expand_table n table limit (length image) (length values))
  pub left : image' ≡ compile_buffer n table limit image
  pub written : values' ≡ buffer_after (expand_table n table limit (length image) (length values)) (λ t. t) values
