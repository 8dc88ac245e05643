-- Functions of two variables: X and Y of m bits each are the index Z of a card with n = 2m, and the pair run answers for them.
use Rattle.std.specs.Prelude.{ℕ, ◌+◌, ◌*◌, ◌^◌, Bool, ◌&&◌, List, leb, ltb}
use Rattle.numbers.specs.Answers.{Answer, unless, and_then}
use Rattle.image.specs.Reader.{reading_for}
use Rattle.image.specs.Run.{Result, run}

-- m, the bits of X and of Y: 1 to 6.
unfoldable pub is_pair_bits : ℕ → Bool
is_pair_bits m = leb 1 m && leb m 6

-- X and Y have m bits each.
unfoldable pub is_pair : ℕ → ℕ → ℕ → Bool
is_pair m x y = ltb x (2 ^ m) && ltb y (2 ^ m)

-- Z, the index of a pair: X above, Y below.
unfoldable pub pair_index : ℕ → ℕ → ℕ → ℕ
pair_index m x y = 2 ^ m * x + y

-- The pair run's answer: m is checked, then the image, which must have n = 2m, then X and Y; else it is Run's answer at Z.
unfoldable pub pair_run : ℕ → List ℕ → ℕ → ℕ → Answer Result
pair_run m image x y =
    unless (is_pair_bits m) 16
    (and_then (reading_for (2 * m) image)
    (λ commands. unless (is_pair m x y) 17 (run image (pair_index m x y))))
