-- How Build's and Walk's answers come back through C: a number as the result, values behind references and in the node buffer.
use Rattle.std.specs.Prelude.{ℕ, ◌≡◌, List, length, ℤ}
use Rattle.diagram.specs.Build.{build_answer, build_buffer}
use Rattle.diagram.specs.Walk.{walk}
use Rattle.exports.specs.Results.{result_of, left_behind}

-- What Build answers, and leaves in its node buffer and behind its two references.
pub record BuildGiven (n : ℕ) (table nodes : List ℤ) (count : ℕ) (offset : ℤ) (result : ℕ) (nodes' : List ℤ) (count' : ℕ) (offset' : ℤ) : Type 0 where
  pub answered : result ≡ result_of (build_answer n table (length nodes))
  pub recorded : nodes' ≡ build_buffer n table nodes
  pub counted : count' ≡ left_behind (build_answer n table (length nodes)) (λ s. s.nodes) count
  pub valued : offset' ≡ left_behind (build_answer n table (length nodes)) (λ s. s.table_offset) offset

-- What Walk answers and leaves behind its reference.
pub record WalkGiven (n : ℕ) (offset : ℤ) (records : List ℤ) (x : ℕ) (value : ℤ) (result : ℕ) (value' : ℤ) : Type 0 where
  pub answered : result ≡ result_of (walk n offset records x)
  pub valued : value' ≡ left_behind (walk n offset records x) (λ v. v) value
