-- When a case of Reach passes, by the definition of the operation. What the numbers of a case are stands in the crate checks.
use Rattle.std.specs.Prelude.{Bool, ◌&&◌, List, ℤ, ◌==◌}
use Rattle.numbers.specs.Answers.{Answer}
use Rattle.reach.specs.Reach.{reach, cut_array, ReachTotals, reach_answer}
use Rattle.cases.specs.Rows.{size_at, answer_is, sizes_are}

-- Reach's verdict is the expected one: its refusal, its count of cuts and its least limit.
unfoldable pub verdict_is : List ℤ → Answer ReachTotals → Bool
verdict_is numbers answer = answer_is (size_at numbers 3) (λ t. (size_at numbers 4 == t.count) && size_at numbers 5 == t.limit) answer

-- Reach answers so, with these cuts.
unfoldable pub reach_passes : List ℤ → List ℤ → List ℤ → Bool
reach_passes numbers table cuts =
    let n = size_at numbers 1 in
    let limit = size_at numbers 2 in
    verdict_is numbers (reach_answer n table limit) && sizes_are (cut_array (reach n table limit)) cuts
