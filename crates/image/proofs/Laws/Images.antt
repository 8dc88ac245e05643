-- Images and commands: an accepted image is its commands' bytes, and the bytes of a card that keeps the rules are accepted.
use Rattle.std.specs.Prelude.{ℕ, suc, ◌+◌, ◌-◌, ◌≤◌, ◌<◌, ◌≡◌, length, drop}
use Rattle.std.proofs.Common.{sym, ◌∙◌, ap₂, arith, length-append, length-drop, SFits, of_z}
use Rattle.std.proofs.Math.Path.{ap}
use mathlib.Core.List.{List, [], ◌∷◌, ◌++◌, flat_map, append_assoc}
use Rattle.std.proofs.Math.Seq.{drop-length}
use Rattle.std.specs.Int.{w32}
use Rattle.numbers.specs.Answers.{accepted}
use Rattle.operands.specs.Bytes.{AreBytes, big_endian, signed_bytes}
use Rattle.image.specs.Inner.Kinds.{kind_of}
use Rattle.image.specs.Commands.{command_bytes, card_commands, image_of, card_of}
use Rattle.image.specs.Reader.{due_byte, due_size, command_at, reading, start}
use Rattle.image.specs.WellFormed.{WellFormed}
use Rattle.operands.proofs.Laws.Bytes.{length_big_endian, byte_here, operand_here, signed_here}
use Rattle.image.proofs.Laws.CommandBytes.{command_back}
use Rattle.image.proofs.Laws.Cards.{allowed_card}
use Rattle.image.proofs.Laws.Standing.{Allowed, Stands, Standing, reading_parts}
use Rattle.image.specs.declared.Command.{Command}
use Rattle.image.specs.declared.Command.TheVariants.{Table, Cell, Word, End}

-- ---- from an accepted image to its commands

standing_bytes : (image : List ℕ) → AreBytes image → (at : ℕ) (commands : List Command) → Standing image at commands → drop at image ≡ flat_map command_bytes commands
unfolding Standing flat_map
standing_bytes image bytes at [] s = ap (λ n. drop n image) s ∙ drop-length image
standing_bytes image bytes at (c ∷ rest) s =
    sym (command_back image bytes (kind_of c) at s.0.byte s.0.room)
    ∙ ap₂ (λ k l. command_bytes k ++ l) s.0.operands (standing_bytes image bytes (at + due_size (kind_of c)) rest s.1)

module _ (image : List ℕ) (commands : List Command) (h : reading image ≡ accepted commands) where
  pub reading_allowed : Allowed start commands
  unfolding reading
  reading_allowed = (reading_parts (suc (length image)) image start commands h).0

  pub reading_standing : Standing image 0 commands
  unfolding reading start
  reading_standing = (reading_parts (suc (length image)) image start commands h).1

  -- An accepted image is made of its commands' bytes.
  pub image_of_commands : AreBytes image → image ≡ flat_map command_bytes commands
  image_of_commands bytes = standing_bytes image bytes 0 commands reading_standing

  -- Its commands are those of the card that they describe, which keeps the rules.
  pub commands_of_card : commands ≡ card_commands (card_of commands)
  commands_of_card = (allowed_card commands reading_allowed).0

  pub image_of_card : AreBytes image → image ≡ image_of (card_of commands)
  unfolding image_of
  image_of_card bytes = image_of_commands bytes ∙ ap (flat_map command_bytes) commands_of_card

  pub card_keeps : WellFormed (card_of commands)
  card_keeps = (allowed_card commands reading_allowed).1

-- Images with the same commands are the same.
pub one_image : (first second : List ℕ) (commands : List Command) → AreBytes first → AreBytes second → reading first ≡ accepted commands → reading second ≡ accepted commands → first ≡ second
one_image first second commands f s p q = image_of_commands first commands p f ∙ sym (image_of_commands second commands q s)

-- ---- from a card that keeps the rules to its reading

-- Operands that their bytes hold.
unfoldable pub Holds : Command → Type 0
Holds (Table n offset) = (n < 256) × SFits w32 offset
Holds (Cell group incoming outgoing width) = (group < 256) × ((incoming < 65536) × ((outgoing < 65536) × (width < 256)))
Holds (Word class weight) = (class < 65536) × SFits w32 weight
Holds (End bits) = bits < 4294967296

unfoldable pub AllHold : List Command → Type 0
AllHold [] = Unit {0}
AllHold (c ∷ commands) = Holds c × AllHold commands

pub length_bytes : (c : Command) → length (command_bytes c) ≡ due_size (kind_of c)
unfolding command_bytes due_size kind_of signed_bytes
length_bytes (Table n offset) = rw (length-append (big_endian 1 n) (signed_bytes offset), length_big_endian 1 n, length_big_endian 4 (of_z w32 offset))
length_bytes (Cell group incoming outgoing width) =
    rw (length-append (big_endian 1 group ++ big_endian 2 incoming ++ big_endian 2 outgoing) (big_endian 1 width), length-append (big_endian 1 group ++ big_endian 2 incoming) (big_endian 2 outgoing), length-append (big_endian 1 group) (big_endian 2 incoming), length_big_endian 1 group, length_big_endian 2 incoming, length_big_endian 2 outgoing, length_big_endian 1 width)
length_bytes (Word class weight) = rw (length-append (big_endian 2 class) (signed_bytes weight), length_big_endian 2 class, length_big_endian 4 (of_z w32 weight))
length_bytes (End bits) = rw (length_big_endian 4 bits)

-- A command whose bytes are next in an image stands there.
pub bytes_stand : (image : List ℕ) (at : ℕ) (c : Command) (rest : List ℕ) → Holds c → at + due_size (kind_of c) ≤ length image → drop at image ≡ command_bytes c ++ rest → Stands image at c × (drop (at + due_size (kind_of c)) image ≡ rest)
unfolding Holds command_bytes command_at kind_of due_byte due_size
bytes_stand image at (Table n offset) rest h room e =
    let first = byte_here image at 0x56 (big_endian 1 n ++ (signed_bytes offset ++ rest)) (e ∙ ap (λ l. 0x56 ∷ l) (append_assoc (big_endian 1 n) (signed_bytes offset) rest)) in
    let is_n = operand_here image (at + 1) 1 n (at + 2) (signed_bytes offset ++ rest) (omega arith) h.0 first.1 in
    let is_offset = signed_here image (at + 2) offset (at + 6) rest (omega arith) h.1 is_n.1 in
    (record { byte = first.0; room = room; operands = ap₂ Table is_n.0 is_offset.0 }, is_offset.1)
bytes_stand image at (Cell group incoming outgoing width) rest h room e =
    let tail = big_endian 2 incoming ++ (big_endian 2 outgoing ++ (big_endian 1 width ++ rest)) in
    let parted : big_endian 1 group ++ big_endian 2 incoming ++ big_endian 2 outgoing ++ big_endian 1 width ++ rest ≡ big_endian 1 group ++ tail =
    append_assoc (big_endian 1 group ++ big_endian 2 incoming ++ big_endian 2 outgoing) (big_endian 1 width) rest
    ∙ append_assoc (big_endian 1 group ++ big_endian 2 incoming) (big_endian 2 outgoing) (big_endian 1 width ++ rest)
    ∙ append_assoc (big_endian 1 group) (big_endian 2 incoming) (big_endian 2 outgoing ++ (big_endian 1 width ++ rest)) in
    let first = byte_here image at 0x43 (big_endian 1 group ++ tail) (e ∙ ap (λ l. 0x43 ∷ l) parted) in
    let is_group = operand_here image (at + 1) 1 group (at + 2) tail (omega arith) h.0 first.1 in
    let is_incoming = operand_here image (at + 2) 2 incoming (at + 4) (big_endian 2 outgoing ++ (big_endian 1 width ++ rest)) (omega arith) h.1.0 is_group.1 in
    let is_outgoing = operand_here image (at + 4) 2 outgoing (at + 6) (big_endian 1 width ++ rest) (omega arith) h.1.1.0 is_incoming.1 in
    let is_width = operand_here image (at + 6) 1 width (at + 7) rest (omega arith) h.1.1.1 is_outgoing.1 in
    (record { byte = first.0; room = room; operands = cc (is_group.0, is_incoming.0, is_outgoing.0, is_width.0) }, is_width.1)
bytes_stand image at (Word class weight) rest h room e =
    let first = byte_here image at 0x57 (big_endian 2 class ++ (signed_bytes weight ++ rest)) (e ∙ ap (λ l. 0x57 ∷ l) (append_assoc (big_endian 2 class) (signed_bytes weight) rest)) in
    let is_class = operand_here image (at + 1) 2 class (at + 3) (signed_bytes weight ++ rest) (omega arith) h.0 first.1 in
    let is_weight_lem = signed_here image (at + 3) weight (at + 7) rest (omega arith) h.1 is_class.1 in
    (record { byte = first.0; room = room; operands = ap₂ Word is_class.0 is_weight_lem.0 }, is_weight_lem.1)
bytes_stand image at (End bits) rest h room e =
    let first = byte_here image at 0x45 (big_endian 4 bits ++ rest) e in
    let is_bits = operand_here image (at + 1) 4 bits (at + 5) rest (omega arith) h first.1 in
    (record { byte = first.0; room = room; operands = ap End is_bits.0 }, is_bits.1)

pub bytes_standing : (image : List ℕ) (at : ℕ) (commands : List Command) → AllHold commands → at ≤ length image → drop at image ≡ flat_map command_bytes commands → Standing image at commands
unfolding Standing flat_map AllHold
bytes_standing image at [] h w e = let l : length image - at ≡ 0 = sym (length-drop at image) ∙ ap length e in omega arith
bytes_standing image at (c ∷ commands) h w e =
    let l : length image - at ≡ due_size (kind_of c) + length (flat_map command_bytes commands) = sym (length-drop at image) ∙ ap length e ∙ length-append (command_bytes c) (flat_map command_bytes commands) ∙ ap (λ n. n + length (flat_map command_bytes commands)) (length_bytes c) in
    let room : at + due_size (kind_of c) ≤ length image = omega arith in
    let here = bytes_stand image at c (flat_map command_bytes commands) h.0 room e in
    (here.0, bytes_standing image (at + due_size (kind_of c)) commands h.1 room here.1)
