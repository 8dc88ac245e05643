-- When a case of the pair run passes, by the definition of the operation. What the numbers of a case are stands in the crate checks.
use Rattle.std.specs.Prelude.{Bool, ◌&&◌, List, map, length, ℤ, pos, nat_le, slice_index_or}
use Rattle.pairs.specs.Pairs.{pair_run}
use Rattle.cases.specs.Rows.{size_at, byte_of}
use Rattle.cases.specs.ImageCases.{ran_is}

-- The pair run answers so.
unfoldable pub pair_run_passes : List ℤ → List ℤ → Bool
pair_run_passes numbers image =
    nat_le (length image) 512
    && ran_is (size_at numbers 4) (slice_index_or numbers 5 (pos 0)) (size_at numbers 6) (pair_run (size_at numbers 1) (map byte_of image) (size_at numbers 2) (size_at numbers 3))
