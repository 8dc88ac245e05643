-- What rows hold: the numbers of an answer in front, and behind them what no answer may change.
use Rattle.std.specs.Prelude.{◌≡◌, Result, Ok, ℕ, ◌%◌, Bool, true, false, ◌&&◌, Option, Some, None, nat_le, List, map, length, ℤ, pos, negsuc, ◌==◌, slice_index_or}
use Rattle.std.specs.Int.Signed.{mag}
use Rattle.numbers.specs.Answers.{Answer, accepted, refused}
use Rattle.numbers.specs.Ranges.{eq_z}
use Rattle.numbers.specs.declared.Refusal.{Refusal}
use Rattle.numbers.specs.Lists.{padded}
use Rattle.blocks.specs.Classes.{same}

-- The number at a place as a size, 0 past the last: no case has a number below 0 where a size stands.
unfoldable pub size_at : List ℤ → ℕ → ℕ
size_at row at = mag (slice_index_or row at (pos 0))

-- A number as a byte.
unfoldable pub byte_of : ℤ → ℕ
byte_of z = mag z % 256

-- The bytes of a case's image, in front of as many as such an image may have; none where it has more.
unfoldable pub image_bytes : List ℤ → Option (List ℕ)
image_bytes image = elim (nat_le (length image) 512) [ true ↦ Some (padded 512 0 (map byte_of image)) | false ↦ None ]

-- What a lent row of numbers holds before the call: -77.
abbrev pub number_lent : ℤ
number_lent = negsuc 76

-- What a lent row of bytes holds before the call.
abbrev pub byte_lent : ℕ
byte_lent = 165

-- A lent row holds these numbers in front, and behind them what it was lent with.
unfoldable pub front_holds : ℤ → List ℤ → List ℤ → Bool
front_holds lent row front = same row (padded (length row) lent front)

-- An answer is the expected one: it is accepted where no refusal is expected, and passes the test, or it is that refusal.
unfoldable pub answer_is : {A : Type 0} → ℕ → (A → Bool) → Answer A → Bool
answer_is refusal test (accepted a) = refusal == 0 && test a
answer_is refusal test (refused k) = refusal == k

-- What a test tells of what an answer found is what another test tells of it.
abbrev pub Tells : {A : Type 0} → Result A Refusal → (A → Bool → Type 0) → (A → Bool) → Type 0
Tells {A} answer told test = (found : A) (b : Bool) → answer ≡ Ok found → told found b → b ≡ test found

-- What is told of two values is whether their numbers are equal.
abbrev pub Compares : {A : Type 0} → (A → ℤ → Bool → Type 0) → (A → ℤ) → (ℤ → ℤ) → Type 0
Compares {A} told left right = (found : A) (wanted : ℤ) (b : Bool) → told found wanted b → b ≡ eq_z (left found) (right wanted)

-- Sizes are these numbers, with 0 past the last.
unfoldable pub sizes_are : List ℕ → List ℤ → Bool
sizes_are sizes expected = front_holds (pos 0) (map pos sizes) (map (λ z. pos (mag z)) expected)
