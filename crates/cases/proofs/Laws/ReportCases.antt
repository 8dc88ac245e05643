-- The sum of a case in 64 bits: it fits, and is compared by its bits.
use Rattle.std.specs.Prelude.{suc, ◌+◌, ◌*◌, ◌≤◌, ℤ, pos, negsuc, ◌+ℤ◌, ◌*ℤ◌, FitsSigned}
use Rattle.std.proofs.Common.{arith}
use Rattle.std.specs.Int.Signed.{mag}
use Rattle.std.specs.Int.{w32, w64}
use Rattle.numbers.proofs.Laws.Machine.{mag_add, mag_neg}

-- Thousands of millions.
product_mag : (z : ℤ) → mag (z *ℤ pos 1000000000) ≤ suc (mag z) * 1000000000 + 1
product_mag (pos a) = omega arith
product_mag (negsuc a) = let m = mag_neg (pos (suc a * 1000000000)) in omega arith

pub product_fits : {high : ℤ} → FitsSigned w32 high → FitsSigned w64 (high *ℤ pos 1000000000)
product_fits {high} h = let m = product_mag high in let s = h.sfits in record { sfits = omega arith }

-- They and the rest.
pub sum_fits : {high low : ℤ} → FitsSigned w32 high → FitsSigned w32 low → FitsSigned w64 (high *ℤ pos 1000000000 +ℤ low)
sum_fits {high} {low} h l =
    let m = product_mag high in
    let a = mag_add (high *ℤ pos 1000000000) low in
    let s = h.sfits in
    let t = l.sfits in
    record { sfits = omega arith }
