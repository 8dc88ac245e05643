-- The numbers of a card that keeps the rules fit the bytes of its image.
use Rattle.std.specs.Prelude.{ℕ, suc, ◌-◌, ◌*◌, ◌≤◌, ◌<◌, ◌≡◌, true, length, get_or, pos}
use Rattle.std.proofs.Common.{◌∙◌, ap, lit<}
use mathlib.Core.List.{List, [], ◌∷◌, ◌++◌, map, flat_map}
use native.Mathlib.Omega.{arith}
use Rattle.std.proofs.lemmas.List.{length-map}
use Rattle.numbers.specs.Lists.{every, sum_of}
use Rattle.numbers.specs.Ranges.{is_weight, most_variables}
use Rattle.numbers.specs.Widths.{holds, least_width, weight_width}
use Rattle.numbers.proofs.Laws.BitLength.{weight_width_most, signed_width_most}
use Rattle.numbers.proofs.Laws.Bounds.{value_mag, weight_mag}
use Rattle.numbers.proofs.Laws.Lists.{every_from, get_d_map}
use Rattle.image.specs.Inner.Bounds.{CellFits, most_bits}
use Rattle.image.specs.Cells as cells
use Rattle.image.specs.Cells.{Card, bits_of, total_bits}
use Rattle.image.specs.Commands.{word_command, cell_commands, card_commands}
use Rattle.image.specs.Reader.{most_classes}
use Rattle.image.specs.WellFormed.{no_word, weights, KeepsCell, KeepsCellsBy, KeepsCells, WellFormed}
use Rattle.image.proofs.Laws.Bounds.{variables_most, cell_bits_most}
use Rattle.image.proofs.Laws.Images.{Holds, AllHold}
use Rattle.image.specs.declared.Command.{Command}
use Rattle.image.specs.declared.Command.TheVariants.{End}

-- ---- widths

ranged_weights : (words : List cells.Word) → ((j : ℕ) → j < length words → is_weight (get_or words j no_word).weight ≡ true) → every is_weight (weights words) ≡ true
unfolding weights
ranged_weights words h =
    every_from is_weight (weights words) (pos 0)
    (λ j l. let inside : j < length words = rw (length-map words (λ word. word.weight)) at l in
    ap is_weight (get_d_map (λ word. word.weight) words j no_word (pos 0) inside) ∙ h j inside)

-- No cell needs more than 25 bits for its weights, nor would any in two's complement.
pub width_small : (words : List cells.Word) → ((j : ℕ) → j < length words → is_weight (get_or words j no_word).weight ≡ true) → weight_width (weights words) ≤ 25
width_small words h = weight_width_most (weights words) (ranged_weights words h)

pub signed_small : (words : List cells.Word) → ((j : ℕ) → j < length words → is_weight (get_or words j no_word).weight ≡ true) → least_width holds (weights words) ≤ 25
signed_small words h = signed_width_most (weights words) (ranged_weights words h)

-- ---- commands

pub all_append : (a b : List Command) → AllHold a → AllHold b → AllHold (a ++ b)
unfolding AllHold
all_append [] b h k = k
all_append (c ∷ a) b h k = (h.0, all_append a b h.1 k)

words_hold : (outgoing : ℕ) → outgoing ≤ most_classes → (words : List cells.Word) → ((j : ℕ) → j < length words → ((get_or words j no_word).class < outgoing) × (is_weight (get_or words j no_word).weight ≡ true)) → AllHold (map word_command words)
unfolding AllHold Holds word_command most_classes
words_hold outgoing most [] h = tt
words_hold outgoing most (word ∷ words) h =
    let here = h 0 (omega arith) in
    let known = here.0 in
    let small = weight_mag word.weight here.1 in (
      (omega arith, record { sfits = omega arith }),
      words_hold outgoing most words (λ j l. h (suc j) (omega arith)),
    )

module _ (left classes : ℕ) (cell : cells.Cell) (k : KeepsCell left classes cell) where
  cell_width : cell.width < 256
  cell_width = let w = width_small cell.words (λ j l. (k.words j l).ranged) in let e = k.width in omega arith

  pub cell_of_lem : classes ≤ most_classes → CellFits cell.incoming cell.group cell.outgoing cell.width
  cell_of_lem h = record { address = k.shape.address; entering = (let e = k.shape.joined in omega arith); leaving = k.shape.most; narrow = cell_width }

  pub cell_holds : left ≤ most_variables → classes ≤ most_classes → AllHold (cell_commands cell)
  unfolding AllHold Holds cell_commands most_variables most_classes
  cell_holds l h =
      let inside = k.shape.inside in
      let joined = k.shape.joined in
      let most = k.shape.most in (
        (omega arith, (omega arith, (omega arith, cell_width))),
        words_hold cell.outgoing most cell.words (λ j i. ((k.words j i).known, (k.words j i).ranged)),
      )

cells_hold : (below : List cells.Cell) (left classes : ℕ) → left ≤ most_variables → classes ≤ most_classes → KeepsCells left classes below → AllHold (flat_map cell_commands below)
unfolding KeepsCellsBy flat_map AllHold
cells_hold [] left classes l h k = tt
cells_hold (cell ∷ below) left classes l h k =
    all_append (cell_commands cell) (flat_map cell_commands below) (cell_holds left classes cell k.0 l h) (cells_hold below (left - cell.group) cell.outgoing (omega arith) k.0.shape.most k.1)

-- The memory bits of all cells together.
pub bits_small : (below : List cells.Cell) (left classes : ℕ) → classes ≤ most_classes → KeepsCells left classes below → total_bits below ≤ left * most_bits
unfolding KeepsCellsBy total_bits bits_of sum_of most_bits
bits_small [] left classes h k = omega arith
bits_small (cell ∷ below) left classes h k =
    let here = cell_bits_most cell.incoming cell.group cell.outgoing cell.width (cell_of_lem left classes cell k.0 h) in
    let rest = bits_small below (left - cell.group) cell.outgoing k.0.shape.most k.1 in
    let some = k.0.shape.some in
    let inside = k.0.shape.inside in
    omega arith

pub card_holds : (card : Card) → WellFormed card → AllHold (card_commands card)
unfolding AllHold Holds card_commands most_variables most_classes most_bits
card_holds card w =
    let n = (variables_most card.n w.variables).1 in
    let small = value_mag card.offset w.offset in
    let one : 1 ≤ most_classes = lit< tt in
    let bits = bits_small card.cells card.n 1 one w.cells in (
      (omega arith, record { sfits = omega arith }),
      all_append (flat_map cell_commands card.cells) (End (total_bits card.cells) ∷ []) (cells_hold card.cells card.n 1 n one w.cells) (omega arith, tt),
    )
