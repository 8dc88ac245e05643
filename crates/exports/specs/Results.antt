-- How an answer comes back through C: a number as the result, values behind references.
use Rattle.std.specs.Prelude.{ℕ}
use Rattle.numbers.specs.Answers.{Answer, accepted, refused}

-- The result: 0 for an accepted answer, else the refusal's number.
abbrev pub result_of : {A : Type 0} → Answer A → ℕ
result_of (accepted a) = 0
result_of (refused k) = k

-- What stands behind a reference afterwards: a value of the accepted answer, or what stood there before.
abbrev pub left_behind : {A B : Type 0} → Answer A → (A → B) → B → B
left_behind (accepted a) value before = value a
left_behind (refused k) value before = before
