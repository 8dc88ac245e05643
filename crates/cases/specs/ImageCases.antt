-- When a case of Run or Expand passes, by the definition of the operation. What the numbers of a case are stands in the crate checks.
use Rattle.std.specs.Prelude.{ℕ, Bool, true, ◌&&◌, List, map, length, replicate, ℤ, pos, ◌==◌, nat_le, slice_index_or}
use Rattle.numbers.specs.Answers.{Answer}
use Rattle.numbers.specs.Ranges.{eq_z}
use Rattle.image.specs.Run.{Result, run, expand, expand_buffer}
use Rattle.cases.specs.Rows.{size_at, byte_of, number_lent, answer_is, front_holds}

-- Run's answer is the expected one: its refusal, or its value and its words.
unfoldable pub ran_is : ℕ → ℤ → ℕ → Answer Result → Bool
ran_is refusal value words answer = answer_is refusal (λ r. (words == r.words) && eq_z r.value value) answer

-- Run answers so.
unfoldable pub run_passes : List ℤ → List ℤ → Bool
run_passes numbers image =
    nat_le (length image) 512
    && ran_is (size_at numbers 2) (slice_index_or numbers 3 (pos 0)) (size_at numbers 4) (run (map byte_of image) (size_at numbers 1))

-- Expand's answer is the expected one: its refusal, or none.
unfoldable pub expanded_is : {A : Type 0} → List ℤ → Answer A → Bool
expanded_is numbers answer = answer_is (size_at numbers 2) (λ a. true) answer

-- Expand answers so, and leaves these values in front of the lent table.
unfoldable pub expand_passes : List ℤ → List ℤ → List ℤ → Bool
expand_passes numbers image front =
    let bytes = map byte_of image in
    let places = size_at numbers 1 in
    nat_le (length image) 512
    && (nat_le places 4096
    && (expanded_is numbers (expand bytes places)
    && front_holds number_lent (expand_buffer bytes (replicate places number_lent)) front))
