-- Bytes and the numbers they stand for, both ways.
use Rattle.std.specs.Prelude.{ℕ, zero, suc, ◌+◌, ◌*◌, ◌/◌, ◌%◌, ◌^◌, ◌≤◌, ◌<◌, ◌≡◌, refl, List, [], ◌∷◌, ◌++◌, length, get_or, ℤ}
use Rattle.std.proofs.Math.Path.{sym, ap, subst}
use Rattle.std.proofs.Common.{◌∙◌, ap₂, add-zero, mul_assoc, add-mul, add_assoc, div-add-mod', mod-eq_of_lt, mod-lt, mul-le-mul_right, suc-mul, le_trans, arith, lit<, length-take, length-drop, take_at, drop-drop, get_or-drop, get_or-take, length-take-le, SFits, of_z, to_z}
use Rattle.std.proofs.Math.Nat.{one-le-pow, pow-succ', mul-add-div_right, mul-add-mod_self_right, div-eq_of_lt, mod-one, min-le_left}
use Rattle.std.proofs.Math.Decide.{dec_lt}
use Rattle.std.proofs.Math.ListN.{take, drop, take-append-drop, get_or-eq_default}
use Rattle.std.proofs.Math.Seq.{drop_at}
use Rattle.std.specs.Int.{w32, bytes_high_first}
use Rattle.std.proofs.Math.Facts.{Fits-of_z, to_z-of_z, of_z-to_z, Fits-of_lt}
use Rattle.operands.specs.Bytes.{AreBytes, big_endian, signed_bytes, number, unsigned_at, signed_at}

power_some : (k : ℕ) → 0 < 256 ^ k
power_some k = one-le-pow k 256 (lit< tt)

pub length_big_endian : (k v : ℕ) → length (big_endian k v) ≡ k
unfolding big_endian
length_big_endian zero v = refl
length_big_endian (suc k) v = ap suc (length_big_endian k v)

-- ---- from a number to its bytes and back

-- The lower digits of a number, with one digit more.
lower_digits : (v b : ℕ) → 0 < b → v / b % 256 * b + v % b ≡ v % (256 * b)
lower_digits v b some =
    let d = v / b in
    let e1 : d / 256 * 256 + d % 256 ≡ d = div-add-mod' d 256 in
    let e2 : d * b + v % b ≡ v = div-add-mod' v b in
    let low : d % 256 * b + v % b < 256 * b = (let m = mul-le-mul_right b (mod-lt d {m = 256} (lit< tt)) in let r = mod-lt v some in let s = suc-mul (d % 256) b in omega arith) in
    let whole : d / 256 * (256 * b) + (d % 256 * b + v % b) ≡ v =
    ap (λ n. n + (d % 256 * b + v % b)) (sym (mul_assoc (d / 256) 256 b))
    ∙ sym (add_assoc (d / 256 * 256 * b) (d % 256 * b) (v % b))
    ∙ ap (λ n. n + v % b) (sym (add-mul (d / 256 * 256) (d % 256) b))
    ∙ ap (λ n. n * b + v % b) e1
    ∙ e2 in
    sym (ap (λ n. n % (256 * b)) (sym whole) ∙ mul-add-mod_self_right (d / 256) (256 * b) (d % 256 * b + v % b) ∙ mod-eq_of_lt low)

number_digits : (k v : ℕ) → number (big_endian k v) ≡ v % 256 ^ k
unfolding number big_endian
number_digits zero v = sym (mod-one v)
number_digits (suc k) v =
    rw (length_big_endian k v, number_digits k v) (lower_digits v (256 ^ k) (power_some k) ∙ ap (λ n. v % n) (sym (pow-succ' 256 k)))

pub number_back : (k v : ℕ) → v < 256 ^ k → number (big_endian k v) ≡ v
number_back k v h = number_digits k v ∙ mod-eq_of_lt h

-- ---- from bytes to their number and back

-- Higher digits do not change the lower bytes.
lower_bytes : (k y r : ℕ) → big_endian k (y * 256 ^ k + r) ≡ big_endian k r
unfolding big_endian
lower_bytes zero y r = refl
lower_bytes (suc k) y r =
    let same : y * 256 ^ suc k + r ≡ y * 256 * 256 ^ k + r = ap (λ n. n + r) (ap (λ n. y * n) (pow-succ' 256 k) ∙ sym (mul_assoc y 256 (256 ^ k))) in
    rw same
    (ap₂ (λ d l. d ∷ l)
    (ap (λ n. n % 256) (mul-add-div_right (power_some k) (y * 256) r) ∙ mul-add-mod_self_right y 256 (r / 256 ^ k))
    (lower_bytes k (y * 256) r))

-- ---- the bytes of the library's methods

-- Those of a number.
pub same_bytes : (k v : ℕ) → bytes_high_first k v ≡ big_endian k v
unfolding big_endian
same_bytes zero v = refl
same_bytes (suc zero) v = ap (λ b. b ∷ []) (let e : v % 256 ≡ v / 1 % 256 = omega arith in e)
same_bytes (suc (suc k)) v = ap (λ l. v / 256 ^ suc k % 256 ∷ l) (same_bytes (suc k) v)

-- Those of a number's lower digits.
pub written_part : (k v : ℕ) → bytes_high_first k (v % 256 ^ k) ≡ big_endian k v
written_part k v =
    same_bytes k (v % 256 ^ k)
    ∙ sym (lower_bytes k (v / 256 ^ k) (v % 256 ^ k))
    ∙ ap (big_endian k) (div-add-mod' v (256 ^ k))

-- ---- numbers of bytes

number_small : (l : List ℕ) → AreBytes l → number l < 256 ^ length l
unfolding AreBytes number
number_small [] h = lit< tt
number_small (b ∷ l) h =
    let s = number_small l (λ i. h (suc i)) in
    let m = mul-le-mul_right (256 ^ length l) (h 0) in
    let e = suc-mul b (256 ^ length l) in
    let p = pow-succ' 256 (length l) in
    omega arith

pub bytes_back : (l : List ℕ) → AreBytes l → big_endian (length l) (number l) ≡ l
unfolding AreBytes number big_endian
bytes_back [] h = refl
bytes_back (b ∷ l) h =
    let small = number_small l (λ i. h (suc i)) in
    ap₂ (λ d l. d ∷ l)
    (ap (λ n. n % 256) (mul-add-div_right (power_some (length l)) b (number l) ∙ ap (λ n. b + n) (div-eq_of_lt small) ∙ add-zero b) ∙ mod-eq_of_lt (h 0))
    (lower_bytes (length l) b (number l) ∙ bytes_back l (λ i. h (suc i)))

-- ---- operands that stand in an image, up to the next place

module _ (image : List ℕ) (at : ℕ) where
  pub byte_here : (b : ℕ) (rest : List ℕ) → drop at image ≡ b ∷ rest → (get_or image at 0 ≡ b) × (drop (at + 1) image ≡ rest)
  byte_here b rest e = (
    ap (λ n. get_or image n 0) (sym (add-zero at)) ∙ sym (get_or-drop at image 0 0) ∙ ap (λ l. get_or l 0 0) e,
    sym (drop-drop 1 at image) ∙ ap (drop 1) e,
  )

  pub operand_here : (k v next : ℕ) (rest : List ℕ) → at + k ≡ next → v < 256 ^ k → drop at image ≡ big_endian k v ++ rest → (unsigned_at image at k ≡ v) × (drop next image ≡ rest)
  unfolding unsigned_at
  operand_here k v next rest n h e = (
    ap (λ l. number (take k l)) e ∙ ap number (take_at (big_endian k v) rest k (length_big_endian k v)) ∙ number_back k v h,
    ap (λ m. drop m image) (sym n) ∙ sym (drop-drop k at image) ∙ ap (drop k) e ∙ drop_at (big_endian k v) rest k (length_big_endian k v),
  )

  pub signed_here : (z : ℤ) (next : ℕ) (rest : List ℕ) → at + 4 ≡ next → SFits w32 z → drop at image ≡ signed_bytes z ++ rest → (signed_at image at ≡ z) × (drop next image ≡ rest)
  unfolding signed_bytes signed_at
  signed_here z next rest n h e =
      let read = operand_here 4 (of_z w32 z) next rest n (Fits-of_z h).fits e in
      (ap (to_z w32) read.0 ∙ to_z-of_z h, read.1)

-- The bytes between two places.
part_bytes : (image : List ℕ) → AreBytes image → (at k : ℕ) → AreBytes (take k (drop at image))
unfolding AreBytes
part_bytes image h at k i = at_place (dec_lt i k)
  where
    at_place : Dec (i < k) → get_or (take k (drop at image)) i 0 < 256
    at_place (yes l) = rw (get_or-take k (drop at image) i 0 l, get_or-drop at image i 0) (h (at + i))
    at_place (no l) = rw (get_or-eq_default (take k (drop at image)) 0 {n = i} (rw length-take (le_trans (min-le_left k (length (drop at image))) (omega arith)))) (lit< tt)

module _ (image : List ℕ) (bytes : AreBytes image) (at k next : ℕ) (n : at + k ≡ next) (room : next ≤ length image) where
  part_length : length (take k (drop at image)) ≡ k
  part_length = length-take-le k (drop at image) (rw length-drop (omega arith))

  pub operand_small : unsigned_at image at k < 256 ^ k
  unfolding unsigned_at
  operand_small = subst (λ m. number (take k (drop at image)) < 256 ^ m) part_length (number_small (take k (drop at image)) (part_bytes image bytes at k))

  pub operand_back : big_endian k (unsigned_at image at k) ++ drop next image ≡ drop at image
  unfolding unsigned_at
  operand_back =
      ap (λ l. l ++ drop next image)
      (ap (λ m. big_endian m (number (take k (drop at image)))) (sym part_length) ∙ bytes_back (take k (drop at image)) (part_bytes image bytes at k))
      ∙ ap (λ l. take k (drop at image) ++ l) (ap (λ m. drop m image) (sym n) ∙ sym (drop-drop k at image))
      ∙ take-append-drop k (drop at image)

pub signed_back : (image : List ℕ) → AreBytes image → (at next : ℕ) → at + 4 ≡ next → next ≤ length image → signed_bytes (signed_at image at) ++ drop next image ≡ drop at image
unfolding signed_bytes signed_at
signed_back image bytes at next n room =
    ap (λ v. big_endian 4 v ++ drop next image) (of_z-to_z {w = w32} (Fits-of_lt (operand_small image bytes at 4 next n room)))
    ∙ operand_back image bytes at 4 next n room
