-- A row with new entries from a place on: what stands before and up to their end, its length, and a part of a slice that comes back.
use Rattle.std.specs.Prelude.{ℕ, ◌+◌, ◌≤◌, ◌≡◌, List, ◌++◌}
use Rattle.std.proofs.Common.{sym, ◌∙◌, append_assoc, drop-drop}
use Rattle.std.proofs.Math.Path.{ap}
use native.Mathlib.Omega.{arith}
use Rattle.std.proofs.Math.ListN.{length, take, drop, length-append, length-drop}
use Rattle.std.proofs.Math.Seq.{length-take-le, take_at}
use borrow.Rule.Slice.PartMut.{put_mid}
use Rattle.numbers.specs.Lists.{overwritten}

module _ {A : Type 0} (row : List A) (at : ℕ) (new : List A) where
  pub take_overwritten : at ≤ length row → take (at + length new) (overwritten row at new) ≡ take at row ++ new
  unfolding overwritten
  take_overwritten h =
      ap (take (at + length new)) (sym (append_assoc (take at row) new (drop (at + length new) row)))
      ∙ take_at (take at row ++ new) (drop (at + length new) row) (at + length new) (length-append (take at row) new ∙ ap (λ k. k + length new) (length-take-le at row h))

  pub length_overwritten : at + length new ≤ length row → length (overwritten row at new) ≡ length row
  unfolding overwritten
  length_overwritten h =
      length-append (take at row) (new ++ drop (at + length new) row)
      ∙ (let t = length-take-le at row (omega arith) in
      let d = length-drop (at + length new) row in
      let n = length-append new (drop (at + length new) row) in
      let e : length (take at row) + length (new ++ drop (at + length new) row) ≡ length row = omega arith in
      e)

  -- A part of a slice that comes back with new entries.
  pub part_back : (k : ℕ) → k ≡ length new → put_mid at k row new ≡ overwritten row at new
  unfolding overwritten
  part_back k e = ap (λ l. take at row ++ (new ++ l)) (drop-drop k at row ∙ ap (λ n. drop (at + n) row) e)
