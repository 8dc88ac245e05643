-- The bytes of numbers, from the bytes of their parts.
use Rattle.std.specs.Prelude.{ℕ, suc, ◌-◌, ◌/◌, ◌%◌, ◌<◌, ◌≡◌, refl, true, false, [], ◌∷◌, ◌++◌, ℤ, pos, negsuc}
use Rattle.std.proofs.Common.{zero-le, sym, ◌∙◌, ap, ap₂, true≢false, arith, le-ltb}
use Rattle.std.proofs.lemmas.Bool.{false≢true}
use Rattle.std.specs.Int.Signed.{mag, lt_z}
use Rattle.operands.specs.Bytes.{big_endian, signed_bytes}

-- One byte.
pub one_byte : (v : ℕ) → v < 256 → big_endian 1 v ≡ v ∷ []
unfolding big_endian
one_byte v h = ap (λ b. b ∷ []) (let e : v / 1 % 256 ≡ v = omega arith in e)

-- Two bytes.
pub two_bytes : (v : ℕ) → big_endian 2 v ≡ v / 256 % 256 ∷ v % 256 ∷ []
unfolding big_endian
two_bytes v = ap (λ b. v / 256 % 256 ∷ b ∷ []) (let e : v / 1 % 256 ≡ v % 256 = omega arith in e)

-- Four bytes: two and two.
pub four_bytes : (v : ℕ) → big_endian 4 v ≡ big_endian 2 (v / 65536) ++ big_endian 2 v
unfolding big_endian
four_bytes v = ap₂ (λ a b. a ∷ b ∷ big_endian 2 v) (let e : v / 16777216 % 256 ≡ v / 65536 / 256 % 256 = omega arith in e) (let e : v / 65536 % 256 ≡ v / 65536 / 1 % 256 = omega arith in e)

-- The bits of a negative number are the complement of its unsigned part; those of another number are its unsigned part.
pub negative_bytes : (z : ℤ) → lt_z z (pos 0) ≡ true → big_endian 4 (4294967295 - mag z) ≡ signed_bytes z
unfolding signed_bytes
negative_bytes (pos a) h = absurd (false≢true (sym (le-ltb a 0 zero-le) ∙ h))
negative_bytes (negsuc a) h = ap (big_endian 4) (let e : 4294967295 - a ≡ 4294967296 - suc a = omega arith in e)

pub other_bytes : (z : ℤ) → lt_z z (pos 0) ≡ false → big_endian 4 (mag z) ≡ signed_bytes z
unfolding signed_bytes
other_bytes (pos a) h = refl
other_bytes (negsuc a) h = absurd (true≢false h)
