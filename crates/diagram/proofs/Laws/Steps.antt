-- One step of a path in any record list, and the bits of X that it reads.
use Rattle.std.specs.Prelude.{ℕ, zero, suc, ◌+◌, ◌-◌, ◌*◌, ◌/◌, ◌%◌, ◌^◌, ◌≤◌, ◌<◌, ◌≡◌, refl, true, false, List, ℤ, pos, nat_abs, ◌+ℤ◌}
use Rattle.std.proofs.Common.{sym, ◌∙◌, mod-lt, mod-eq_of_lt, one-mul, mul_assoc, one-add, arith, pow_pos, pow-add, shr-shr, eqb-true, ne_eqb}
use Rattle.std.proofs.Math.Path.{ap}
use Rattle.std.proofs.Math.Nat.{mod-le, mul-add-mod_self_right, two-pow-succ}
use Rattle.std.proofs.Math.Decide.{dec_lt}
use Rattle.std.proofs.Math.Dec.{eqb}
use Rattle.std.proofs.Math.Pow.{high}
use Rattle.std.proofs.lemmas.Nat.{mod-pow-add}
use Rattle.std.proofs.lemmas.Bool.{eqb-false}
use Rattle.numbers.specs.Ranges.{eq_z}
use Rattle.numbers.proofs.Laws.Bools.{yes_or_no}
use Rattle.diagram.specs.Walk.{variable_at, low_at, high_at, weight_at, bit_set, path_weight}

-- ---- one step of a path

-- The terminal adds nothing.
pub path_terminal : (list : List ℤ) (i x : ℕ) → path_weight list i 0 x ≡ pos 0
unfolding path_weight
path_terminal list zero x = refl
path_terminal list (suc i) x = refl

-- A record of another variable.
pub path_skip : (list : List ℤ) (i k x : ℕ) → eq_z (variable_at list (suc k)) (pos i) ≡ false → path_weight list (suc i) (suc k) x ≡ path_weight list i (suc k) x
unfolding path_weight
path_skip list i k x e = rw (e, path_weight)

-- Different variables are told apart.
lower_variable : (j i : ℕ) → j < i → eq_z (pos j) (pos i) ≡ false
unfolding eq_z
lower_variable j i h = ne_eqb j i (λ e. omega arith)

-- A 1-edge and a 0-edge.
pub path_high : (list : List ℤ) (i k x : ℕ) → eq_z (variable_at list (suc k)) (pos i) ≡ true → bit_set x i ≡ true → path_weight list (suc i) (suc k) x ≡ weight_at list (suc k) +ℤ path_weight list i (nat_abs (high_at list (suc k))) x
unfolding path_weight
path_high list i k x e b = rw (e, b, path_weight)

pub path_low : (list : List ℤ) (i k x : ℕ) → eq_z (variable_at list (suc k)) (pos i) ≡ true → bit_set x i ≡ false → path_weight list (suc i) (suc k) x ≡ path_weight list i (nat_abs (low_at list (suc k))) x
unfolding path_weight
path_low list i k x e b = rw (e, b, path_weight)

-- ---- nodes below a height

-- Node 0, or a record of a variable below i.
pub record Below (list : List ℤ) (i k : ℕ) : Type 0 where
  pub lower : 1 ≤ k → (j : ℕ) × ((j < i) × (variable_at list k ≡ pos j))

pub below_higher : (list : List ℤ) (i above k : ℕ) → i ≤ above → Below list i k → Below list above k
below_higher list i above k h b = record { lower = λ one. let v = b.lower one in (v.0, (let l = v.1.0 in omega arith, v.1.1)) }

-- It has nothing to read at i.
pub path_down : (list : List ℤ) (i k x : ℕ) → Below list i k → path_weight list (suc i) k x ≡ path_weight list i k x
path_down list i zero x b = path_terminal list (suc i) x ∙ sym (path_terminal list i x)
path_down list i (suc k) x b =
    let v = b.lower (omega arith) in
    path_skip list i k x (ap (λ z. eq_z z (pos i)) v.1.1 ∙ lower_variable v.0 i v.1.0)

-- So it has the same path from higher up.
pub path_from_above : (list : List ℤ) (i above k x : ℕ) → i ≤ above → Below list i k → path_weight list above k x ≡ path_weight list i k x
path_from_above list i zero k x h b = ap (λ m. path_weight list m k x) (let e : 0 ≡ i = omega arith in e)
path_from_above list i (suc above) k x h b = here_or_above (dec_lt i (suc above)) (λ p. path_from_above list i above k x p b)
  where
    here_or_above : Dec (i < suc above) → (i ≤ above → path_weight list above k x ≡ path_weight list i k x) → path_weight list (suc above) k x ≡ path_weight list i k x
    here_or_above (yes p) rest = path_down list above k x (below_higher list i above k (omega arith) b) ∙ rest (omega arith)
    here_or_above (no p) rest = ap (λ m. path_weight list m k x) (let e : suc above ≡ i = omega arith in e)

-- ---- one bit of X

-- The place in a block, by the bit that picks its half.
pub bit_one : (x i : ℕ) → bit_set x i ≡ true → x % 2 ^ suc i ≡ 2 ^ i + x % 2 ^ i
unfolding bit_set
bit_one x i e =
    ap (λ k. x % 2 ^ k) (sym (one-add i))
    ∙ mod-pow-add x 1 i
    ∙ ap (λ b. b * 2 ^ i + x % 2 ^ i) (eqb-true (x / 2 ^ i % 2) 1 e)
    ∙ ap (λ p. p + x % 2 ^ i) (one-mul (2 ^ i))

pub bit_zero : (x i : ℕ) → bit_set x i ≡ false → x % 2 ^ suc i ≡ x % 2 ^ i
unfolding bit_set
bit_zero x i e =
    ap (λ k. x % 2 ^ k) (sym (one-add i))
    ∙ mod-pow-add x 1 i
    ∙ ap (λ b. b * 2 ^ i + x % 2 ^ i) (let f = eqb-false (x / 2 ^ i % 2) 1 e in let z : x / 2 ^ i % 2 ≡ 0 = omega arith in z)
    ∙ (let z : 0 * 2 ^ i + x % 2 ^ i ≡ x % 2 ^ i = omega arith in z)

-- Numbers whose low bits agree agree in each of these bits.
pub same_bit : (x y i : ℕ) → x % 2 ^ suc i ≡ y % 2 ^ suc i → (bit_set x i ≡ bit_set y i) × (x % 2 ^ i ≡ y % 2 ^ i)
same_bit x y i e =
    let lx = mod-lt x (pow_pos i) in
    let ly = mod-lt y (pow_pos i) in
    yes_or_no (bit_set x i)
    (λ a. yes_or_no (bit_set y i)
    (λ b. (a ∙ sym b, let p = bit_one x i a in let q = bit_one y i b in omega arith))
    (λ b. absurd (let p = bit_one x i a in let q = bit_zero y i b in omega arith)))
    (λ a. yes_or_no (bit_set y i)
    (λ b. absurd (let p = bit_zero x i a in let q = bit_one y i b in omega arith))
    (λ b. (a ∙ sym b, let p = bit_zero x i a in let q = bit_zero y i b in omega arith)))

-- The path reads no other bits.
pub path_bits : (list : List ℤ) (i k x y : ℕ) → x % 2 ^ i ≡ y % 2 ^ i → path_weight list i k x ≡ path_weight list i k y
unfolding path_weight
path_bits list zero k x y e = refl
path_bits list (suc i) zero x y e = refl
path_bits list (suc i) (suc k) x y e =
    let s = same_bit x y i e in
    yes_or_no (eq_z (variable_at list (suc k)) (pos i))
    (λ v. yes_or_no (bit_set y i)
    (λ b. rw (v, s.0, b, path_weight) (ap (λ z. weight_at list (suc k) +ℤ z) (path_bits list i (nat_abs (high_at list (suc k))) x y s.1)))
    (λ b. rw (v, s.0, b, path_weight) (path_bits list i (nat_abs (low_at list (suc k))) x y s.1)))
    (λ v. rw (v, path_weight) (path_bits list i (suc k) x y s.1))

-- A number below 2^i has no bit i; 2^i more than it has.
pub bit_clear : (r i : ℕ) → r < 2 ^ i → bit_set r i ≡ false
bit_clear r i h =
    yes_or_no (bit_set r i)
    (λ b. absurd (let p = bit_one r i b in let q = mod-le r (2 ^ suc i) in omega arith))
    (λ b. b)

pub bit_there : (r i : ℕ) → r < 2 ^ i → bit_set (2 ^ i + r) i ≡ true
bit_there r i h =
    yes_or_no (bit_set (2 ^ i + r) i)
    (λ b. b)
    (λ b. absurd (let p = bit_zero (2 ^ i + r) i b in let q = mod-lt (2 ^ i + r) (pow_pos i) in let s : (2 ^ i + r) % 2 ^ suc i ≡ 2 ^ i + r = mod-eq_of_lt (rw two-pow-succ (omega arith)) in omega arith))

-- Of j·2^a + r the bits below a are those of r, the others those of j.
module _ (a j r : ℕ) where
  pub low_bit : (i : ℕ) → i < a → bit_set (j * 2 ^ a + r) i ≡ bit_set r i
  low_bit i l =
      let parts : a ≡ a - suc i + suc i = omega arith in
      let whole = ap (λ k. j * 2 ^ k) parts ∙ ap (λ p. j * p) (pow-add 2 (a - suc i) (suc i)) ∙ sym (mul_assoc j (2 ^ (a - suc i)) (2 ^ suc i)) in
      (same_bit (j * 2 ^ a + r) r i (ap (λ p. (p + r) % 2 ^ suc i) whole ∙ mul-add-mod_self_right (j * 2 ^ (a - suc i)) (2 ^ suc i) r)).0

  pub high_bit : (i : ℕ) → r < 2 ^ a → bit_set (j * 2 ^ a + r) (a + i) ≡ bit_set j i
  unfolding bit_set
  high_bit i below = ap (λ q. eqb (q % 2) 1) (sym (shr-shr (j * 2 ^ a + r) a i) ∙ ap (λ q. q / 2 ^ i) (high j a below))

-- Where all bits are 0 the path adds nothing.
pub path_zero : (list : List ℤ) (i k : ℕ) → path_weight list i k 0 ≡ pos 0
unfolding path_weight
path_zero list zero k = refl
path_zero list (suc i) zero = refl
path_zero list (suc i) (suc k) =
    yes_or_no (eq_z (variable_at list (suc k)) (pos i))
    (λ v. rw (v, bit_clear 0 i (pow_pos i), path_weight) (path_zero list i (nat_abs (low_at list (suc k)))))
    (λ v. rw (v, path_weight) (path_zero list i (suc k)))
