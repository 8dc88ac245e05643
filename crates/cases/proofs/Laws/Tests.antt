-- Tests one after the other, each on what a function answered, and the front of what is lent.
use Rattle.std.specs.Prelude.{◌≡◌, ℕ, zero, suc, ◌≤◌, Bool, true, false, ◌&&◌, List, ◌∷◌, ◌++◌, length, take, replicate, refl}
use Rattle.std.proofs.Common.{sym, ◌∙◌, ap, arith, length-append, take_at}

-- Where a test passes, the others decide; where it fails, all fail.
pub passed : {test : Bool} (others : Bool) → test ≡ true → (test && others) ≡ others
passed others e = ap (λ b. b && others) e

pub failed : {test : Bool} (others : Bool) → test ≡ false → (test && others) ≡ false
failed others e = ap (λ b. b && others) e

-- The front of a lent row that holds one number everywhere.
pub lent_front : {A : Type 0} (a : A) (k n : ℕ) → k ≤ n → take k (replicate n a) ≡ replicate k a
lent_front a zero n l = refl
lent_front a (suc k) zero l = absurd (omega arith)
lent_front a (suc k) (suc n) l = ap (λ row. a ∷ row) (lent_front a k n (omega arith))

-- A front that was lent and is back: it is within the row, and is taken out again.
module _ {A : Type 0} {k : ℕ} (front rest : List A) (e : length front ≡ k) where
  pub front_within : k ≤ length (front ++ rest)
  front_within = let l = length-append front rest in omega arith

  pub front_length : k ≡ length (take k (front ++ rest))
  front_length = sym (ap length (take_at front rest k e) ∙ e)
