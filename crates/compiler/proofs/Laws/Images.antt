-- An image, from its table command, its cells and its last command.
use Rattle.std.specs.Prelude.{ℕ, ◌+◌, ◌≤◌, ◌≡◌, refl, length, ℤ}
use Rattle.std.proofs.Common.{◌∙◌, arith, length-append, sym, ap, ap₂, List, [], ◌∷◌, ◌++◌, append_assoc, append-nil}
use mathlib.Core.List.{flat_map}
use Rattle.numbers.specs.Lists.{overwritten}
use Rattle.numbers.proofs.Laws.Selections.{flat_map_append}
use Rattle.blocks.specs.Blocks.{first}
use Rattle.operands.specs.Bytes.{big_endian, signed_bytes}
use Rattle.image.specs.Cells.{Cell}
use Rattle.image.specs.Commands.{command_bytes, cell_commands, card_commands, image_of}
use Rattle.image.specs.declared.Command.TheVariants as commands
use Rattle.cascade.specs.Cascade.{cells_from, card_for}
use Rattle.cascade.specs.Compile.{image_for}
use Rattle.cascade.specs.Groupings.{cost}
use Rattle.compiler.specs.Inner.Writing.{cell_bytes, cells_bytes}
use Rattle.numbers.proofs.Laws.Written.{written_behind}

-- The bytes of the cells' commands are those of the cells.
commands_bytes : (cells : List Cell) → flat_map command_bytes (flat_map cell_commands cells) ≡ flat_map cell_bytes cells
unfolding flat_map cell_bytes
commands_bytes [] = refl
commands_bytes (cell ∷ cells) =
    flat_map_append command_bytes (cell_commands cell) (flat_map cell_commands cells)
    ∙ ap (λ l. flat_map command_bytes (cell_commands cell) ++ l) (commands_bytes cells)

-- The table command takes 6 bytes, the last command 5.
table_length : (n : ℕ) (offset : ℤ) → length (command_bytes (commands.Table n offset)) ≡ 6
unfolding command_bytes big_endian signed_bytes
table_length n offset = refl

end_length : (bits : ℕ) → length (command_bytes (commands.End bits)) ≡ 5
unfolding command_bytes big_endian
end_length bits = refl

module _ (n : ℕ) (table : List ℤ) (sizes : List ℕ) where
  abbrev opening : List ℕ
  opening = command_bytes (commands.Table n (first table))

  abbrev ending : List ℕ
  ending = command_bytes (commands.End (cost n table sizes))

  image_is : image_for n table sizes ≡ (opening ++ cells_bytes n table sizes) ++ ending
  unfolding image_for card_for image_of card_commands cost cells_bytes flat_map
  image_is =
      ap (λ l. opening ++ l)
      (flat_map_append command_bytes (flat_map cell_commands (cells_from n table 0 sizes)) (commands.End (cost n table sizes) ∷ [])
      ∙ ap₂ (λ cells end. cells ++ end) (commands_bytes (cells_from n table 0 sizes)) (append-nil ending))
      ∙ sym (append_assoc opening (cells_bytes n table sizes) ending)

  -- The bytes of an image: 6, those of the cells, and 5.
  pub image_bytes : length (image_for n table sizes) ≡ 6 + length (cells_bytes n table sizes) + 5
  image_bytes =
      let t = table_length n (first table) in
      let e = end_length (cost n table sizes) in
      let front = length-append opening (cells_bytes n table sizes) in
      let all = ap length image_is ∙ length-append (opening ++ cells_bytes n table sizes) ending in
      omega arith

  -- The three pieces, one behind the other, are the image.
  pub image_written : {opened filled closed : List ℕ} (image : List ℕ) {at bits : ℕ} → length (image_for n table sizes) ≤ length image → at ≡ 6 + length (cells_bytes n table sizes) → bits ≡ cost n table sizes → opened ≡ overwritten image 0 opening → filled ≡ overwritten opened 6 (cells_bytes n table sizes) → closed ≡ overwritten filled at (command_bytes (commands.End bits)) → closed ≡ overwritten image 0 (image_for n table sizes)
  image_written image {at} {bits} room place total e f g =
      let all = image_bytes in
      let t = table_length n (first table) in
      let front = length-append opening (cells_bytes n table sizes) in
      let filled = written_behind image 0 opening e 6 (cells_bytes n table sizes) f (omega arith) (omega arith) in
      written_behind image 0 (opening ++ cells_bytes n table sizes) filled at (command_bytes (commands.End bits)) g (omega arith) (omega arith)
      ∙ ap (overwritten image 0) (ap (λ b. (opening ++ cells_bytes n table sizes) ++ command_bytes (commands.End b)) total ∙ sym image_is)
