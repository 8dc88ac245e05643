-- Commands that stand in an image, from their bytes.
use Rattle.std.specs.Prelude.{ℕ, ◌+◌, ◌≤◌, ◌≡◌, List, ◌∷◌, ◌++◌, length, get_or, drop}
use Rattle.std.proofs.Common.{sym, ◌∙◌, ap, append_assoc, add-one, arith, drop-cons}
use Rattle.operands.specs.Bytes.{AreBytes, big_endian, signed_bytes, unsigned_at, signed_at}
use Rattle.operands.proofs.Laws.Bytes.{operand_back, signed_back}
use Rattle.image.specs.Commands.{command_bytes}
use Rattle.image.specs.Reader.{Due, table, cell, word, end, due_byte, due_size, command_at}

-- The bytes of a command that stands at a place, and what follows it.
pub command_back : (image : List ℕ) → AreBytes image → (d : Due) (at : ℕ) → get_or image at 0 ≡ due_byte d → at + due_size d ≤ length image → command_bytes (command_at d image at) ++ drop (at + due_size d) image ≡ drop at image
unfolding command_bytes command_at due_byte due_size
command_back image bytes table at b room =
    rw (append_assoc (big_endian 1 (unsigned_at image (at + 1) 1)) (signed_bytes (signed_at image (at + 2))) (drop (at + 6) image), signed_back image bytes (at + 2) (at + 6) (omega arith) room, operand_back image bytes (at + 1) 1 (at + 2) (omega arith) (omega arith), ← b)
    (sym (drop-cons image at 0 (omega arith) ∙ ap (λ m. get_or image at 0 ∷ drop m image) (sym (add-one at))))
command_back image bytes cell at b room =
    let group = big_endian 1 (unsigned_at image (at + 1) 1) in
    let incoming = big_endian 2 (unsigned_at image (at + 2) 2) in
    let outgoing = big_endian 2 (unsigned_at image (at + 4) 2) in
    let width = big_endian 1 (unsigned_at image (at + 6) 1) in
    rw (append_assoc (group ++ incoming ++ outgoing) width (drop (at + 7) image), operand_back image bytes (at + 6) 1 (at + 7) (omega arith) room, append_assoc (group ++ incoming) outgoing (drop (at + 6) image), operand_back image bytes (at + 4) 2 (at + 6) (omega arith) (omega arith), append_assoc group incoming (drop (at + 4) image), operand_back image bytes (at + 2) 2 (at + 4) (omega arith) (omega arith), operand_back image bytes (at + 1) 1 (at + 2) (omega arith) (omega arith), ← b)
    (sym (drop-cons image at 0 (omega arith) ∙ ap (λ m. get_or image at 0 ∷ drop m image) (sym (add-one at))))
command_back image bytes word at b room =
    rw (append_assoc (big_endian 2 (unsigned_at image (at + 1) 2)) (signed_bytes (signed_at image (at + 3))) (drop (at + 7) image), signed_back image bytes (at + 3) (at + 7) (omega arith) room, operand_back image bytes (at + 1) 2 (at + 3) (omega arith) (omega arith), ← b)
    (sym (drop-cons image at 0 (omega arith) ∙ ap (λ m. get_or image at 0 ∷ drop m image) (sym (add-one at))))
command_back image bytes end at b room =
    rw (operand_back image bytes (at + 1) 4 (at + 5) (omega arith) (omega arith), ← b)
    (sym (drop-cons image at 0 (omega arith) ∙ ap (λ m. get_or image at 0 ∷ drop m image) (sym (add-one at))))
