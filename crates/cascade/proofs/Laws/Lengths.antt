-- The length of a compiled image, exactly and at most, and the most memory bits that it carries.
use Prim.Native.Nat.{ℕ, suc, ◌+◌, ◌*◌, ◌^◌, ◌≤◌, ◌<◌}
use Rattle.std.specs.Prelude.{◌≡◌, refl, true, length, leb, eqb, ℤ}
use Rattle.std.proofs.Common.{◌∙◌, ap, ap₂, mul-le-mul_right, length-append, pow-add}
use mathlib.Core.List.{List, [], ◌∷◌, ◌++◌, map, flat_map}
use Rattle.std.proofs.Math.Nat.{two-pow-succ}
use native.Mathlib.Omega.{arith}
use Rattle.std.proofs.Math.Pow.{pow_mono}
use borrow.Author.Tests.{leb-true}
use Rattle.numbers.specs.Lists.{every, sum_of}
use Rattle.numbers.proofs.Laws.Bools.{both}
use Rattle.numbers.proofs.Laws.Selections.{flat_map_append}
use Rattle.blocks.proofs.Laws.Classes.{class_count_le}
use Rattle.operands.specs.Bytes.{big_endian, signed_bytes}
use Rattle.image.specs.Cells.{Word, Cell, Card, total_bits}
use Rattle.image.specs.Commands.{command_bytes, word_command, cell_commands, card_commands, image_of}
use Rattle.image.specs.declared.Command.TheVariants as commands
use Rattle.diagram.specs.Accepted.{Accepted}
use Rattle.cascade.specs.Cascade.{cell_of, cells_from, card_for}
use Rattle.cascade.specs.Compile.{image_for}
use Rattle.cascade.specs.Groupings.{cost, is_grouping}
use Rattle.cascade.proofs.Laws.Cards.{grouping_sum}
use Rattle.cascade.proofs.Laws.Cells.{variables_most, cell_words, cell_bits_most}
use Rattle.cascade.proofs.Laws.Groupings.{grouping_length}

-- ---- the length of an image

-- A word takes 7 bytes.
pub words_length : (words : List Word) → length (flat_map command_bytes (map word_command words)) ≡ 7 * length words
unfolding flat_map command_bytes word_command big_endian signed_bytes
words_length [] = refl
words_length (word ∷ words) = let rest = words_length words in omega arith

-- A cell takes 7 bytes and those of its words.
pub cell_length : (cell : Cell) → length (flat_map command_bytes (cell_commands cell)) ≡ 7 + 7 * length cell.words
unfolding flat_map command_bytes cell_commands big_endian
cell_length cell = let words = words_length cell.words in omega arith

-- Cells take their bytes one after the other.
cells_length : (cells : List Cell) → length (flat_map command_bytes (flat_map cell_commands cells)) ≡ sum_of (map (λ cell. 7 + 7 * length cell.words) cells)
unfolding flat_map sum_of
cells_length [] = refl
cells_length (cell ∷ cells) =
    ap length (flat_map_append command_bytes (cell_commands cell) (flat_map cell_commands cells))
    ∙ length-append (flat_map command_bytes (cell_commands cell)) (flat_map command_bytes (flat_map cell_commands cells))
    ∙ ap₂ (λ a b. a + b) (cell_length cell) (cells_length cells)

-- The bytes of an image: 6, those of the cells, and 5.
pub card_length : (card : Card) → length (image_of card) ≡ 6 + sum_of (map (λ cell. 7 + 7 * length cell.words) card.cells) + 5
unfolding image_of card_commands flat_map command_bytes big_endian signed_bytes
card_length card =
    let end = commands.End (total_bits card.cells) in
    let cells = cells_length card.cells in
    let all : length (flat_map command_bytes (flat_map cell_commands card.cells ++ end ∷ [])) ≡ length (flat_map command_bytes (flat_map cell_commands card.cells)) + 5 =
    (ap length (flat_map_append command_bytes (flat_map cell_commands card.cells) (end ∷ []))
    ∙ length-append (flat_map command_bytes (flat_map cell_commands card.cells)) (command_bytes end ++ [])) in
    omega arith

-- The bytes of a compiled image.
pub image_length_lem : (n : ℕ) (table : List ℤ) (sizes : List ℕ) → length (image_for n table sizes) ≡ 6 + sum_of (map (λ cell. 7 + 7 * length cell.words) (cells_from n table 0 sizes)) + 5
unfolding image_for card_for
image_length_lem n table sizes = card_length (card_for n table sizes)

-- ---- at most

module _ (n : ℕ) (table : List ℤ) (accepted : Accepted n table) where
  -- The cell from cut h to cut h + g has at most 2^(h + g) words.
  pub cell_words_most : (h g : ℕ) → h + g ≤ n → length (cell_of n table h g).words ≤ 2 ^ (h + g)
  cell_words_most h g ends = rw (cell_words n table h g, pow-add 2 h g) (mul-le-mul_right (2 ^ g) (class_count_le n table h (omega arith)))

  -- The cells from cut h on end at different cuts, so their words are at most 2^(h + 1) + .. + 2^n.
  cells_length_most : (sizes : List ℕ) (h : ℕ) → every (leb 1) sizes ≡ true → h + sum_of sizes ≡ n → sum_of (map (λ cell. 7 + 7 * length cell.words) (cells_from n table h sizes)) + 7 * h + 7 * 2 ^ suc h ≤ 7 * n + 7 * 2 ^ suc n
  unfolding sum_of cells_from every
  cells_length_most [] h some e = omega (arith, pow_mono {i = suc h} {j = suc n} (omega arith))
  cells_length_most (g ∷ sizes) h some e =
      let parts = both (leb 1 g) (every (leb 1) sizes) some in
      let one = leb-true 1 g parts.0 in
      let words = cell_words_most h g (omega arith) in
      let rest = cells_length_most sizes (h + g) parts.1 (omega arith) in
      omega (arith, two-pow-succ (h + g), pow_mono {i = suc h} {j = h + g} (omega arith))

  -- The image of every grouping has at most 57,425 bytes.
  pub image_length_most : (sizes : List ℕ) → is_grouping n sizes ≡ true → length (image_for n table sizes) ≤ 57425
  unfolding is_grouping
  image_length_most sizes grouping =
      let few = variables_most n table accepted in
      let cells = cells_length_most sizes 0 (both (every (leb 1) sizes) (eqb (sum_of sizes) n) grouping).0 (omega (arith, grouping_sum n sizes grouping)) in
      omega (arith, image_length_lem n table sizes, pow_mono {i = suc n} {j = 13} (omega arith))

  -- The cells from cut h on have at most 4,096 words of 12 and 25 bits each.
  cells_bits_most : (sizes : List ℕ) (h : ℕ) → h + sum_of sizes ≡ n → total_bits (cells_from n table h sizes) ≤ 4096 * (12 + 25) * length sizes
  unfolding sum_of cells_from total_bits
  cells_bits_most [] h e = omega arith
  cells_bits_most (g ∷ sizes) h e =
      let bits = cell_bits_most n table accepted h g (omega arith) in
      let rest = cells_bits_most sizes (h + g) (omega arith) in
      omega arith

  -- The memory bits of every grouping are at most those of 12 such cells.
  pub cost_most : (sizes : List ℕ) → is_grouping n sizes ≡ true → cost n table sizes ≤ 4096 * (12 + 25) * 12
  unfolding cost
  cost_most sizes grouping =
      let few = variables_most n table accepted in
      let cells = grouping_length n sizes grouping in
      let bits = cells_bits_most sizes 0 (omega (arith, grouping_sum n sizes grouping)) in
      omega arith

  -- And so fit 32 bits.
  pub cost_fits : (sizes : List ℕ) → is_grouping n sizes ≡ true → cost n table sizes < 2 ^ 32
  cost_fits sizes grouping = let most = cost_most sizes grouping in omega arith
