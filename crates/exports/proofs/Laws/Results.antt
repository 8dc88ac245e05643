-- Laws of results.
use Rattle.std.specs.Prelude.{◌≡◌, refl}
use Rattle.numbers.specs.Answers.{Answer, accepted, refused, map_answer}
use Rattle.exports.specs.Results.{result_of}

-- The result is the same for another accepted value.
pub result_mapped : {A B : Type 0} (f : A → B) (answer : Answer A) → result_of (map_answer f answer) ≡ result_of answer
result_mapped f (accepted a) = refl
result_mapped f (refused k) = refl
