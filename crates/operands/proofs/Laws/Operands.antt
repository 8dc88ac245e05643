-- Operands from their bytes: those of one, two and four bytes, and the sign.
use Rattle.std.specs.Prelude.{ℕ, zero, suc, ◌+◌, ◌-◌, ◌*◌, ◌≤◌, ◌<◌, ◌≡◌, refl, List, ◌∷◌, length, take, drop, pos, negsuc, ◌-ℤ◌}
use Rattle.std.proofs.Common.{sym, ◌∙◌, ap₂, add-one, drop-cons, SFits, to_z}
use Rattle.std.proofs.Math.Path.{ap}
use Rattle.std.proofs.Math.Numerals.{add-two}
use native.Mathlib.Omega.{arith}
use Rattle.std.proofs.Math.ListN.{get_or}
use Rattle.std.specs.Int.{w32}
use Rattle.std.proofs.Math.Facts.{to_z_pos, to_z-neg}
use Rattle.operands.specs.Bytes.{number, unsigned_at}

module _ (image : List ℕ) (at : ℕ) where
  byte_here : at < length image → drop at image ≡ get_or image at 0 ∷ drop (at + 1) image
  byte_here h = drop-cons image at 0 h ∙ ap (λ n. get_or image at 0 ∷ drop n image) (sym (add-one at))

  pub unsigned_one : at + 1 ≤ length image → unsigned_at image at 1 ≡ get_or image at 0
  unfolding unsigned_at number
  unsigned_one h =
      ap (λ l. number (take 1 l)) (byte_here (omega arith))
      ∙ (let e : get_or image at 0 * 1 + 0 ≡ get_or image at 0 = omega arith in e)

  pub unsigned_two : at + 2 ≤ length image → unsigned_at image at 2 ≡ get_or image at 0 * 256 + get_or image (at + 1) 0
  unfolding unsigned_at number
  unsigned_two h =
      ap (λ l. number (take 2 l)) (byte_here (omega arith) ∙ ap (λ l. get_or image at 0 ∷ l) (drop-cons image (at + 1) 0 (omega arith)))
      ∙ (let e : get_or image at 0 * 256 + (get_or image (at + 1) 0 * 1 + 0) ≡ get_or image at 0 * 256 + get_or image (at + 1) 0 = omega arith in e)

  pub four_by_bytes : at + 4 ≤ length image → unsigned_at image at 4 ≡ get_or image at 0 * 16777216 + get_or image (at + 1) 0 * 65536 + get_or image (at + 2) 0 * 256 + get_or image (at + 3) 0
  unfolding unsigned_at number
  four_by_bytes h =
      ap (λ l. number (take 4 l))
      (byte_here (omega arith)
      ∙ ap (λ l. get_or image at 0 ∷ l)
      (drop-cons image (at + 1) 0 (omega arith)
      ∙ ap (λ l. get_or image (at + 1) 0 ∷ l)
      (drop-cons image (suc (at + 1)) 0 (omega arith)
      ∙ ap (λ l. get_or image (suc (at + 1)) 0 ∷ l) (drop-cons image (suc (suc (at + 1))) 0 (omega arith)))))
      ∙ (let a = get_or image at 0 in
      let b = get_or image (at + 1) 0 in
      let second : suc (at + 1) ≡ at + 2 = omega arith in
      let third : suc (suc (at + 1)) ≡ at + 3 = omega arith in
      ap₂ (λ c d. a * 16777216 + (b * 65536 + (c * 256 + (d * 1 + 0)))) (ap (λ k. get_or image k 0) second) (ap (λ k. get_or image k 0) third)
      ∙ (let c = get_or image (at + 2) 0 in
      let d = get_or image (at + 3) 0 in
      let e : a * 16777216 + (b * 65536 + (c * 256 + (d * 1 + 0))) ≡ a * 16777216 + b * 65536 + c * 256 + d = omega arith in
      e))

pub unsigned_four : (image : List ℕ) (at : ℕ) → at + 4 ≤ length image → unsigned_at image at 4 ≡ unsigned_at image at 2 * 65536 + unsigned_at image (at + 2) 2
unfolding unsigned_at number
unsigned_four image at h =
    ap (λ l. number (take 4 l))
    (drop-cons image at 0 (omega arith)
    ∙ ap (λ l. get_or image at 0 ∷ l)
    (drop-cons image (suc at) 0 (omega arith)
    ∙ ap (λ l. get_or image (suc at) 0 ∷ l)
    (drop-cons image (suc (suc at)) 0 (omega arith) ∙ ap (λ l. get_or image (suc (suc at)) 0 ∷ l) (drop-cons image (suc (suc (suc at))) 0 (omega arith)))))
    ∙ (let a = get_or image at 0 in
    let b = get_or image (suc at) 0 in
    let c = get_or image (suc (suc at)) 0 in
    let d = get_or image (suc (suc (suc at))) 0 in
    let e : a * 16777216 + (b * 65536 + (c * 256 + (d * 1 + 0))) ≡ (a * 256 + (b * 1 + 0)) * 65536 + (c * 256 + (d * 1 + 0)) = omega arith in
    e)
    ∙ sym
    (ap₂ (λ x y. x * 65536 + y)
    (ap (λ l. number (take 2 l)) (drop-cons image at 0 (omega arith) ∙ ap (λ l. get_or image at 0 ∷ l) (drop-cons image (suc at) 0 (omega arith))))
    (ap (λ n. number (take 2 (drop n image))) (add-two at)
    ∙ ap (λ l. number (take 2 l)) (drop-cons image (suc (suc at)) 0 (omega arith) ∙ ap (λ l. get_or image (suc (suc at)) 0 ∷ l) (drop-cons image (suc (suc (suc at))) 0 (omega arith)))))

-- ---- the sign

minus_one_less : (m : ℕ) → negsuc 0 -ℤ pos m ≡ negsuc m
minus_one_less zero = refl
minus_one_less (suc m) = ap negsuc (let e : suc (0 + m) ≡ suc m = omega arith in e)

-- Bits of the upper half stand for a negative number.
module _ (bits : ℕ) (upper : 2147483648 ≤ bits) (fits : bits < 4294967296) where
  complement_back : to_z w32 (4294967295 - bits) ≡ pos (4294967295 - bits)
  complement_back = to_z_pos w32 (let e : 4294967295 - bits < 2147483648 = omega arith in e)

  pub signed_upper : negsuc 0 -ℤ to_z w32 (4294967295 - bits) ≡ to_z w32 bits
  signed_upper =
      ap (λ z. negsuc 0 -ℤ z) complement_back
      ∙ minus_one_less (4294967295 - bits)
      ∙ sym (ap (to_z w32) (let e : bits ≡ 4294967296 - suc (4294967295 - bits) = omega arith in e) ∙ to_z-neg w32 (4294967295 - bits) (let e : 4294967295 - bits < 2147483648 = omega arith in e))

  pub signed_upper_fits : SFits w32 (negsuc 0 -ℤ to_z w32 (4294967295 - bits))
  signed_upper_fits =
      rw (complement_back, minus_one_less (4294967295 - bits)) (record { sfits = (let e : 4294967295 - bits < 2147483648 = omega arith in e) })
