-- Pieces of text written one behind the other.
use Rattle.std.specs.Prelude.{ℕ, ◌+◌, ◌≤◌, ◌<◌, ◌≡◌, true, false, List, [], ◌∷◌, ◌++◌, length, set, ℤ, pos, negsuc}
use Rattle.std.proofs.Common.{sym, ap, add-one, arith, length-append, ltb-true}
use Rattle.std.specs.Int.Signed.{mag, lt_z}
use Rattle.numbers.proofs.Laws.Machine.{not_negative}
use Rattle.numbers.proofs.Laws.Written.{length_kept, written_behind, one_stored}
use Rattle.numbers.proofs.Laws.Rows.{overwritten_none}
use Rattle.lines.specs.Text.{decimal}
use Rattle.lines.specs.Inner.Writing.{Writes}
use Rattle.lines.proofs.Laws.Decimals.{decimal_negative}

-- Nothing is written yet.
pub nothing_yet : (row : List ℕ) (at : ℕ) → Writes row at [] at row
nothing_yet row at = record { behind = omega arith; written = sym (overwritten_none row at) }

-- One byte.
pub byte_stored : (row : List ℕ) (at byte : ℕ) {next : ℕ} → next ≡ at + 1 → at < length row → Writes row at (byte ∷ []) next (set row at byte)
byte_stored row at byte e room = record { behind = e; written = one_stored row at byte room }

module _ {row row' : List ℕ} {at next : ℕ} {piece : List ℕ} (w : Writes row at piece next row') (room : at + length piece ≤ length row) where
  -- The buffer is as long as before.
  pub same_room : length row' ≡ length row
  same_room = length_kept row at piece w.written room

  -- A second piece behind the first: both are one.
  pub writes_behind : {more row'' : List ℕ} {last : ℕ} → Writes row' next more last row'' → Writes row at (piece ++ more) last row''
  writes_behind {more = more} v =
      let start = w.behind in
      let end = v.behind in
      let all = length-append piece more in
      record { behind = omega arith; written = written_behind row at piece w.written next more v.written (sym start) (omega arith) }

-- A negative number in decimal.
pub negative_decimal : (z : ℤ) → lt_z z (pos 0) ≡ true → decimal z ≡ 45 ∷ decimal (pos (mag z + 1))
negative_decimal (pos number) e = let l = ltb-true number 0 e in absurd (omega arith)
negative_decimal (negsuc number) e = rw add-one (decimal_negative number)

-- Any other is its unsigned part.
pub other_decimal : (z : ℤ) → lt_z z (pos 0) ≡ false → decimal z ≡ decimal (pos (mag z))
other_decimal z e = ap decimal (not_negative z e)
