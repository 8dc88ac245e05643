-- How Reach's answer comes back through C: a number as the result, a row of cuts, values behind references.
use Rattle.std.specs.Prelude.{ℕ, ◌≡◌, List, ℤ}
use Rattle.reach.specs.Reach.{reach, cut_array, reach_answer}
use Rattle.exports.specs.Results.{result_of, left_behind}

-- What Reach answers, and leaves in its row and behind its two references.
pub record ReachGiven (n : ℕ) (table : List ℤ) (limit : ℕ) (cuts : List ℕ) (count least : ℕ) (result : ℕ) (cuts' : List ℕ) (count' least' : ℕ) : Type 0 where
  pub answered : result ≡ result_of (reach_answer n table limit)
  pub listed : cuts' ≡ left_behind (reach_answer n table limit) (λ t. cut_array (reach n table limit)) cuts
  pub counted : count' ≡ left_behind (reach_answer n table limit) (λ t. t.count) count
  pub limited : least' ≡ left_behind (reach_answer n table limit) (λ t. t.limit) least
