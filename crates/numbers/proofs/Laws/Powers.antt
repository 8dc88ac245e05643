-- Powers of two, and places in rows of blocks of a power's size.
use Rattle.std.specs.Prelude.{ℕ, zero, suc, ◌+◌, ◌-◌, ◌*◌, ◌^◌, ◌≤◌, ◌<◌, ◌≡◌}
use Rattle.std.proofs.Common.{sym, ◌∙◌, ap, mul-le-mul_right, suc-mul, mul_assoc, add-mul, arith, lit<, pow_pos, pow-add}
use Rattle.std.proofs.Math.Nat.{two-pow-succ}

-- A number is below its power of two.
pub below_power : (n : ℕ) → n < 2 ^ n
below_power zero = lit< tt
below_power (suc n) = rw two-pow-succ (let h = below_power n in omega (arith, pow_pos n))

-- 2^n is 2^(n-i) parts of 2^i.
pub power_split : (n i : ℕ) → i ≤ n → 2 ^ (n - i) * 2 ^ i ≡ 2 ^ n
power_split n i h = sym (pow-add 2 (n - i) i) ∙ ap (λ k. 2 ^ k) (let e : n - i + i ≡ n = omega arith in e)

-- Part j of so many parts of 2^i ends within them all.
pub part_room : (parts i j : ℕ) → j < parts → j * 2 ^ i + 2 ^ i ≤ parts * 2 ^ i
part_room parts i j h = let m = mul-le-mul_right (2 ^ i) h in omega (arith, suc-mul j (2 ^ i))

-- Part v of part j, where a part holds 2^k smaller ones.
pub part_of_part : (i k j v : ℕ) → j * 2 ^ (k + i) + v * 2 ^ i ≡ (j * 2 ^ k + v) * 2 ^ i
part_of_part i k j v =
    ap (λ p. j * p + v * 2 ^ i) (pow-add 2 k i)
    ∙ ap (λ p. p + v * 2 ^ i) (sym (mul_assoc j (2 ^ k) (2 ^ i)))
    ∙ sym (add-mul (j * 2 ^ k) v (2 ^ i))
