-- What the checks of the pair run ask, as plain conditions.
use Rattle.std.specs.Prelude.{ℕ, ◌*◌, ◌^◌, ◌≤◌, ◌<◌, ◌≡◌, List}
use Rattle.numbers.specs.Answers.{accepted}
use Rattle.image.specs.Commands.{card_of}
use Rattle.image.specs.Reader.{reading}
use Rattle.image.specs.declared.Command.{Command}

-- m is 1 to 6.
abbrev pub PairBits : ℕ → Type 0
PairBits m = (1 ≤ m) × (m ≤ 6)

-- X and Y are below 2^m.
abbrev pub Pair : ℕ → ℕ → ℕ → Type 0
Pair m x y = (x < 2 ^ m) × (y < 2 ^ m)

-- The image is accepted and its n is 2m.
abbrev pub PairImage : ℕ → List ℕ → Type 0
PairImage m image = (commands : List Command) × (reading image ≡ accepted commands) × ((card_of commands).n ≡ 2 * m)
