-- The form of every operation's answer: what it accepts, or a refusal with the paper's number.
use Rattle.std.specs.Prelude.{ℕ, Bool, true, false, List, ◌++◌, length, drop}

pub data Answer (A : Type 0) : Type 0 where
  accepted : A → Answer A
  refused : ℕ → Answer A

-- Where the test fails, the refusal with this number; else what follows. A chain of these is an order of checks.
abbrev pub unless : {A : Type 0} → Bool → ℕ → Answer A → Answer A
unless true k rest = rest
unless false k rest = refused k

-- The same answer with another value where it is accepted.
abbrev pub map_answer : {A B : Type 0} → (A → B) → Answer A → Answer B
map_answer f (accepted a) = accepted (f a)
map_answer f (refused k) = refused k

-- An accepted value is worked on; a refusal is handed on.
abbrev pub and_then : {A B : Type 0} → Answer A → (A → Answer B) → Answer B
and_then (accepted a) f = f a
and_then (refused k) f = refused k

-- What a lent buffer holds afterwards: an accepted answer overwrites the front, a refusal nothing.
abbrev pub buffer_after : {A B : Type 0} → Answer A → (A → List B) → List B → List B
buffer_after (accepted a) written buffer = written a ++ drop (length (written a)) buffer
buffer_after (refused k) written buffer = buffer
