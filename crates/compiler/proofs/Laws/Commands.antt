-- Commands, from the stores of their byte and of their operands.
use Rattle.std.specs.Prelude.{◌≡◌, length, set, ℤ}
use Rattle.std.proofs.Common.{sym, ◌∙◌, arith, ℕ, ◌+◌, ◌≤◌, ◌<◌, ap, List, [], ◌∷◌, ◌++◌, length-append}
use Rattle.numbers.specs.Lists.{overwritten}
use Rattle.operands.specs.Bytes.{big_endian, signed_bytes}
use Rattle.image.specs.Commands.{command_bytes}
use Rattle.operands.proofs.Laws.Bytes.{length_big_endian}
use Rattle.image.specs.declared.Command.TheVariants as commands
use Rattle.operands.proofs.Laws.Digits.{one_byte}
use Rattle.numbers.proofs.Laws.Written.{one_stored, written_behind, stored_behind}

module _ (row : List ℕ) where
  -- The command byte and an operand of one byte, in front.
  two_stored : (b v : ℕ) → 2 ≤ length row → v < 256 → set (set row 0 b) 1 v ≡ overwritten row 0 (b ∷ big_endian 1 v)
  two_stored b v room small =
      stored_behind row 0 (b ∷ []) (one_stored row 0 b (omega arith)) 1 v (omega arith) (omega arith)
      ∙ ap (λ l. overwritten row 0 (b ∷ l)) (sym (one_byte v small))

  -- The table command, in front.
  pub table_written : {row' : List ℕ} (n : ℕ) (offset : ℤ) → 6 ≤ length row → n < 256 → row' ≡ overwritten (set (set row 0 0x56) 1 n) 2 (signed_bytes offset) → row' ≡ overwritten row 0 (command_bytes (commands.Table n offset))
  unfolding command_bytes
  table_written n offset room small e =
      written_behind row 0 (0x56 ∷ big_endian 1 n) (two_stored 0x56 n (omega arith) small) 2 (signed_bytes offset) e (let l = length_big_endian 1 n in omega arith) (omega arith)

  -- A cell's own command, in front.
  pub head_written : {left right : List ℕ} (group incoming outgoing width : ℕ) → 7 ≤ length row → group < 256 → width < 256 → left ≡ overwritten (set (set row 0 0x43) 1 group) 2 (big_endian 2 incoming) → right ≡ overwritten left 4 (big_endian 2 outgoing) → set right 6 width ≡ overwritten row 0 (command_bytes (commands.Cell group incoming outgoing width))
  unfolding command_bytes
  head_written group incoming outgoing width room small narrow e f =
      let g : List ℕ = 0x43 ∷ big_endian 1 group in
      let i = big_endian 2 incoming in
      let o = big_endian 2 outgoing in
      let one = length_big_endian 1 group in
      let two = length_big_endian 2 incoming in
      let more = length_big_endian 2 outgoing in
      let front = length-append g i in
      let all = length-append (g ++ i) o in
      let entered = written_behind row 0 g (two_stored 0x43 group (omega arith) small) 2 i e (omega arith) (omega arith) in
      let left = written_behind row 0 (g ++ i) entered 4 o f (omega arith) (omega arith) in
      stored_behind row 0 (g ++ i ++ o) left 6 width (omega arith) (omega arith)
      ∙ ap (λ l. overwritten row 0 (g ++ i ++ o ++ l)) (sym (one_byte width narrow))

  module _ (at : ℕ) where
    -- A word at a place.
    pub word_written : {left right : List ℕ} (class : ℕ) (weight : ℤ) → at + 7 ≤ length row → left ≡ overwritten (set row at 0x57) (at + 1) (big_endian 2 class) → right ≡ overwritten left (at + 3) (signed_bytes weight) → right ≡ overwritten row at (command_bytes (commands.Word class weight))
    unfolding command_bytes
    word_written class weight room e f =
        let two = length_big_endian 2 class in
        let front = written_behind row at (0x57 ∷ []) (one_stored row at 0x57 (omega arith)) (at + 1) (big_endian 2 class) e (omega arith) (omega arith) in
        written_behind row at (0x57 ∷ big_endian 2 class) front (at + 3) (signed_bytes weight) f (omega arith) (omega arith)

    -- The last command at a place.
    pub end_written : {row' : List ℕ} (bits : ℕ) → at + 5 ≤ length row → row' ≡ overwritten (set row at 0x45) (at + 1) (big_endian 4 bits) → row' ≡ overwritten row at (command_bytes (commands.End bits))
    unfolding command_bytes
    end_written bits room e = written_behind row at (0x45 ∷ []) (one_stored row at 0x45 (omega arith)) (at + 1) (big_endian 4 bits) e (omega arith) (omega arith)
