-- When a case of Build or Walk passes, by the definition of the operation. What the numbers of a case are stands in the crate checks.
use Rattle.std.specs.Prelude.{Bool, ◌&&◌, List, replicate, ℤ, pos, ◌==◌, nat_le, slice_index_or}
use Rattle.numbers.specs.Answers.{Answer}
use Rattle.numbers.specs.Ranges.{eq_z}
use Rattle.diagram.specs.Build.{Summary, build_answer, build_buffer}
use Rattle.diagram.specs.Walk.{walk}
use Rattle.cases.specs.Rows.{size_at, number_lent, answer_is, front_holds}

-- Build's answer is the expected one: its refusal, its node count and its offset.
unfoldable pub built_is : List ℤ → Answer Summary → Bool
built_is numbers answer = answer_is (size_at numbers 3) (λ s. (size_at numbers 4 == s.nodes) && eq_z s.table_offset (slice_index_or numbers 5 (pos 0))) answer

-- Build answers so, and leaves these numbers in front of the lent row.
unfoldable pub build_passes : List ℤ → List ℤ → List ℤ → Bool
build_passes numbers table front =
    let n = size_at numbers 1 in
    let places = size_at numbers 2 in
    nat_le places 24570
    && (built_is numbers (build_answer n table places)
    && front_holds number_lent (build_buffer n table (replicate places number_lent)) front)

-- Walk answers so: its refusal and its value.
unfoldable pub walk_passes : List ℤ → List ℤ → Bool
walk_passes numbers records =
    answer_is (size_at numbers 4) (λ value. eq_z value (slice_index_or numbers 5 (pos 0)))
    (walk (size_at numbers 1) (slice_index_or numbers 2 (pos 0)) records (size_at numbers 3))
