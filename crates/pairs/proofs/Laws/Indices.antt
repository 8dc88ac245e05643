-- The index of a pair: below 2^(2m), one for each pair, and every number below 2^(2m) is one.
use Rattle.std.specs.Prelude.{ℕ, ◌+◌, ◌-◌, ◌*◌, ◌/◌, ◌%◌, ◌^◌, ◌≤◌, ◌<◌, ◌≡◌}
use Rattle.std.proofs.Common.{sym, ◌∙◌, subst, mul_comm, mod-lt, div-add-mod', div-lt_iff_lt-mul, pow_pos, arith}
use Rattle.std.proofs.Math.Path.{ap}
use Rattle.std.proofs.Math.Nat.{add-zero, mod-eq_of_lt, div-eq_of_lt, mul-add-div, mul-add-mod_self_left}
use Rattle.std.proofs.Math.Pow.{pow_mono}
use Rattle.numbers.proofs.Laws.Powers.{power_split, part_room}
use Rattle.pairs.specs.Pairs.{pair_index}
use Rattle.pairs.specs.Conditions.{Pair}

module _ (m : ℕ) where
  -- 2^(2m) is 2^m times 2^m.
  square : 2 ^ m * 2 ^ m ≡ 2 ^ (2 * m)
  square = ap (λ k. 2 ^ k * 2 ^ m) (let e : m ≡ 2 * m - m = omega arith in e) ∙ power_split (2 * m) m (omega arith)

  -- Z as a place in block X of height m.
  pub index_place : (x y : ℕ) → pair_index m x y ≡ x * 2 ^ m + y
  unfolding pair_index
  index_place x y = ap (λ p. p + y) (mul_comm (2 ^ m) x)

  pub index_below : (x y : ℕ) → x < 2 ^ m → y < 2 ^ m → pair_index m x y < 2 ^ (2 * m)
  index_below x y h k = let e = index_place x y in let r = part_room (2 ^ m) m x h in let s = square in omega arith

  pub index_row : (x y : ℕ) → y < 2 ^ m → pair_index m x y / 2 ^ m ≡ x
  unfolding pair_index
  index_row x y h = mul-add-div (pow_pos m) x y ∙ ap (λ q. x + q) (div-eq_of_lt h) ∙ add-zero x

  pub index_column : (x y : ℕ) → y < 2 ^ m → pair_index m x y % 2 ^ m ≡ y
  unfolding pair_index
  index_column x y h = mul-add-mod_self_left (2 ^ m) x y ∙ mod-eq_of_lt h

  pub index_back : (z : ℕ) → pair_index m (z / 2 ^ m) (z % 2 ^ m) ≡ z
  index_back z = index_place (z / 2 ^ m) (z % 2 ^ m) ∙ div-add-mod' z (2 ^ m)

  pub row_below : (z : ℕ) → z < 2 ^ (2 * m) → z / 2 ^ m < 2 ^ m
  row_below z h = (div-lt_iff_lt-mul (pow_pos m)).1 (subst (λ k. z < k) (sym square) h)

  pub column_below : (z : ℕ) → z % 2 ^ m < 2 ^ m
  column_below z = mod-lt z (pow_pos m)

  pub index_of_some : (z : ℕ) → z < 2 ^ (2 * m) → (x : ℕ) × (y : ℕ) × Pair m x y × (pair_index m x y ≡ z)
  index_of_some z h = (z / 2 ^ m, z % 2 ^ m, (row_below z h, column_below z), index_back z)

  -- 2^m times a number of m bits is small.
  pub product_small : m ≤ 6 → (x : ℕ) → x < 2 ^ m → 2 ^ m * x ≤ 4096
  unfolding pair_index
  product_small most x h =
      let below = index_below x 0 h (pow_pos m) in
      let power : 2 ^ (2 * m) ≤ 2 ^ 12 = pow_mono {i = 2 * m} {j = 12} (omega arith) in
      omega arith
