-- Orders of checks: what an accepted answer and a refusal tell of the tests.
use Rattle.std.specs.Prelude.{ℕ, ◌≡◌, refl, Bool, true, false}
use Rattle.std.proofs.Common.{ap, subst, arith}
use Rattle.numbers.specs.Answers.{Answer, accepted, refused, unless, map_answer}

-- An accepted answer is no refusal.
pub not_refused {ℓ} : {A : Type 0} {X : Type ℓ} (a : A) (k : ℕ) → accepted a ≡ refused k → X
not_refused a k h = absurd (let z : ◌≡◌ {A = ℕ} 0 1 = cc in omega arith)

-- Where a check accepts, its test passes.
pub unless_accepted : {A : Type 0} (b : Bool) (k : ℕ) (rest : Answer A) (a : A) → unless b k rest ≡ accepted a → (b ≡ true) × (rest ≡ accepted a)
unless_accepted true k rest a h = (refl, h)
unless_accepted false k rest a h = not_refused a k (let e : accepted a ≡ refused k = cc in e)

-- What holds of a check's number and of the refusals that follow holds of its refusal.
pub unless_refused : {A : Type 0} (X : ℕ → Type 0) (b : Bool) (number : ℕ) (rest : Answer A) → X number → ((k : ℕ) → rest ≡ refused k → X k) → (k : ℕ) → unless b number rest ≡ refused k → X k
unless_refused X true number rest here later k h = later k h
unless_refused X false number rest here later k h = subst X (let e : number ≡ k = cc in e) here

-- Where all but the test accepts, a refusal is the test's.
pub test_fails : {A : Type 0} (b : Bool) (number : ℕ) (a : A) (k : ℕ) → unless b number (accepted a) ≡ refused k → b ≡ false
test_fails true number a k h = not_refused a k h
test_fails false number a k h = refl

-- Another value where it is accepted: the same refusal.
pub map_refused : {A B : Type 0} (f : A → B) (answer : Answer A) (k : ℕ) → map_answer f answer ≡ refused k → answer ≡ refused k
map_refused f (accepted a) k h = not_refused (f a) k h
map_refused f (refused j) k h = ap refused (let e : j ≡ k = cc in e)
