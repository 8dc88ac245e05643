-- Reach: the cuts that fitting cells arrive at from cut 0, and the least address limit that fits.
use Rattle.std.specs.Prelude.{ℕ, suc, ◌≡◌, Bool, true, List, length, replicate, leb, ℤ, Result, Ok, Err}
use Rattle.numbers.specs.Answers.{Answer, accepted, unless, map_answer}
use Rattle.numbers.specs.Refusals.{answer_of}
use Rattle.numbers.specs.declared.Refusal.{Refusal}
use Rattle.numbers.specs.Lists.{numbers_from, keep, tally, least, padded}
use Rattle.numbers.specs.Ranges.{is_limit, most_variables}
use Rattle.diagram.specs.Build.{of_table}
use Rattle.cascade.specs.Groupings.{groupings, fits, is_grouping}
use Rattle.cascade.specs.Plan.{entries}
use Rattle.reach.specs.declared.Reached.{Reached}

-- Cut h is arrived at: of the lists of sizes that take the top h variables, at least one has only cells that fit the limit.
unfoldable pub is_reached : ℕ → List ℤ → ℕ → ℕ → Bool
is_reached n table limit h = leb 1 (tally (fits n table limit) (groupings h))

-- Some list of sizes takes the top h variables and has only cells that fit the limit; at cut 0 the list of none does.
abbrev pub Arriving : ℕ → List ℤ → ℕ → ℕ → Type 0
Arriving n table limit h = (sizes : List ℕ) × (is_grouping h sizes ≡ true) × (fits n table limit sizes ≡ true)

-- The cuts that are arrived at, in rising order.
unfoldable pub reached_cuts : ℕ → List ℤ → ℕ → List ℕ
reached_cuts n table limit = keep (is_reached n table limit) (numbers_from 0 (suc n))

-- The least address limit that fits: some list of fitting cells arrives at the bottom cut. With limit n one does.
unfoldable pub least_limit : ℕ → List ℤ → ℕ
least_limit n table = least (λ limit. is_reached n table limit n) n

-- What is found: those cuts, and that limit.
pub record Reachable : Type 0 where
  pub cuts : List ℕ
  pub limit : ℕ

unfoldable pub reachable : ℕ → List ℤ → ℕ → Reachable
reachable n table limit = record { cuts = reached_cuts n table limit; limit = least_limit n table }

-- Reach's answer: Plan's checks in their order, and no 9.
unfoldable pub reach : ℕ → List ℤ → ℕ → Answer Reachable
reach n table limit = of_table n table (unless (is_limit limit) 8 (accepted (reachable n table limit)))

-- An array has a place for each cut that a table can have.
unfoldable pub cut_array : Answer Reachable → List ℕ
cut_array answer = padded (suc most_variables) 0 (entries (λ f. f.cuts) answer)

-- The number of cuts, and the least limit.
pub record ReachTotals : Type 0 where
  pub count : ℕ
  pub limit : ℕ

unfoldable pub reach_totals : Reachable → ReachTotals
reach_totals f = record { count = length f.cuts; limit = f.limit }

unfoldable pub reach_answer : ℕ → List ℤ → ℕ → Answer ReachTotals
reach_answer n table limit = map_answer reach_totals (reach n table limit)

-- The paper's answer that a result stands for, and its cuts: a refusal's array holds 0.
unfoldable pub reach_judgement : Result Reached Refusal → Answer ReachTotals
reach_judgement result = map_answer (λ (r : Reached). record { count = r.count; limit = r.least }) (answer_of result)

unfoldable pub cuts_of : Result Reached Refusal → List ℕ
cuts_of (Ok reached) = reached.cuts
cuts_of (Err refusal) = replicate (suc most_variables) 0

-- Reach's promise: its answer, and what the array holds, 0 past the last cut and all 0 in a refusal.
pub record Reaches (n : ℕ) (table : List ℤ) (limit : ℕ) (answer : Result Reached Refusal) : Type 0 where
  pub judged : reach_judgement answer ≡ reach_answer n table limit
  pub listed : cuts_of answer ≡ cut_array (reach n table limit)
