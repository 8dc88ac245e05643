-- The older rule of widths: what it gives beside the present one, its cards and the present ones, and its images under the present reader.
use Prim.Native.Nat.{ℕ, suc, ◌-◌, ◌<◌}
use Rattle.std.specs.Prelude.{◌≡◌, length, get_or, ℤ, ◌<ℤ◌}
use Rattle.std.proofs.Math.Path.{refl, sym, ap, ap₂}
use Rattle.std.proofs.Common.{◌∙◌, subst, true≢false}
use Rattle.std.proofs.Math.Bool.{false, not}
use mathlib.Core.List.{List, [], ◌∷◌, ◌++◌, map, flat_map, append_assoc}
use Rattle.std.proofs.Math.Decide.{ℕ_discrete}
use native.Mathlib.Omega.{arith}
use Rattle.std.proofs.Math.IntN.{pos}
use Rattle.std.specs.Int.Signed.{lt_z, non_neg}
use Rattle.numbers.specs.Answers.{refused}
use Rattle.numbers.specs.Widths.{holds, none_negative}
use Rattle.numbers.proofs.Laws.BitLength.{unsigned_length, complement_length}
use Rattle.numbers.proofs.Laws.Bools.{yes_or_no}
use Rattle.numbers.proofs.Laws.Lists.{every_at, every_from, map_append}
use Rattle.numbers.proofs.Laws.Machine.{sign_test}
use Rattle.numbers.proofs.Laws.Selections.{flat_map_append}
use Rattle.numbers.proofs.Laws.Tests.{less_test}
use Rattle.numbers.proofs.Laws.Widths.{least_width_le, signed_width, weight_width_zero}
use Rattle.image.specs.Cells.{Cell, Card, total_bits}
use Rattle.image.specs.Commands.{command_bytes, cell_commands, card_commands, image_of}
use Rattle.image.specs.OlderWidths.{with_width, image_to, older_width, OlderWellFormed, WidthDisagrees, with_widths, older_card, present_card}
use Rattle.image.specs.Reader.{reading}
use Rattle.image.specs.WellFormed.{weights, KeepsCellsBy, WellFormedBy, width_of, KeepsCells, WellFormed}
use Rattle.image.proofs.Laws.Held.{signed_small}
use Rattle.image.proofs.Laws.OtherWidths.{other_width}
use Rattle.image.specs.declared.Command.TheVariants.{Table, End}

-- ---- the older width of a cell

module _ (cell : Cell) where
  abbrev own : List ℤ
  own = weights cell.words

  -- With a negative weight it is the present one.
  pub older_width_same : (i : ℕ) → i < length own → get_or own i (pos 0) <ℤ pos 0 → older_width cell ≡ width_of cell
  unfolding older_width none_negative
  older_width_same i inside negative =
      sym
      (signed_width own
      (yes_or_no (none_negative own)
      (λ e. absurd (true≢false (sym (every_at non_neg own (pos 0) e i inside) ∙ sign_test (get_or own i (pos 0)) ∙ ap not ((less_test (get_or own i (pos 0)) (pos 0)).1 negative))))
      (λ e. e)))

  -- Without one it is one more, unless the present one is 0.
  pub older_width_one_more : ((j : ℕ) → j < length own → ¬ (get_or own j (pos 0) <ℤ pos 0)) → ¬ (width_of cell ≡ 0) → older_width cell ≡ suc (width_of cell)
  unfolding older_width holds none_negative
  older_width_one_more plain some =
      complement_length own (λ h. some ((weight_width_zero own).1 h))
      ∙ ap suc (sym (unsigned_length own (every_from non_neg own (pos 0) (λ j l. sign_test (get_or own j (pos 0)) ∙ ap not (not_less (get_or own j (pos 0)) (plain j l))))))
    where
      not_less : (z : ℤ) → ¬ (z <ℤ pos 0) → lt_z z (pos 0) ≡ false
      not_less z n = yes_or_no (lt_z z (pos 0)) (λ e. absurd (n ((less_test z (pos 0)).0 e))) (λ e. e)

  -- Where that is 0, it is 0.
  pub older_width_zero : width_of cell ≡ 0 → older_width cell ≡ 0
  unfolding older_width holds
  older_width_zero none = let least = least_width_le holds own 0 ((weight_width_zero own).0 none) in omega arith

-- ---- one rule for another

-- A rule that goes by the words of a cell.
abbrev ByWords : (Cell → ℕ) → Type 0
ByWords rule = (width : ℕ) (cell : Cell) → rule (with_width width cell) ≡ rule cell

older_by_words : ByWords older_width
unfolding older_width with_width
older_by_words width cell = refl

present_by_words : ByWords width_of
unfolding with_width
present_by_words width cell = refl

-- A cell that is written with the width it has.
same_width : (width : ℕ) (cell : Cell) → width ≡ cell.width → with_width width cell ≡ cell
unfolding with_width
same_width width cell e = ap (λ w. with_width w cell) e

module _ (from to : Cell → ℕ) (by_words : ByWords to) where
  abbrev changed : Cell → Cell
  changed cell = with_width (to cell) cell

  -- Cells that keep the rules with the widths of one rule keep them with those of another.
  changed_cells : (left classes : ℕ) (cells : List Cell) → KeepsCellsBy from left classes cells → KeepsCellsBy to left classes (map changed cells)
  unfolding KeepsCellsBy with_width
  changed_cells left classes [] k = k
  changed_cells left classes (cell ∷ cells) k = (
    record { shape = k.0.shape; whole = k.0.whole; words = k.0.words; width = sym (by_words (to cell) cell) },
    changed_cells (left - cell.group) cell.outgoing cells k.1,
  )

  changed_card : (card : Card) → WellFormedBy from card → WellFormedBy to (with_widths to card)
  unfolding with_widths
  changed_card card w = record { variables = w.variables; offset = w.offset; cells = changed_cells card.n 1 card.cells w.cells }

  -- And back.
  module _ (from_by_words : ByWords from) where
    back_cells : (left classes : ℕ) (cells : List Cell) → KeepsCellsBy from left classes cells → map (λ cell. with_width (from cell) cell) (map changed cells) ≡ cells
    unfolding KeepsCellsBy with_width
    back_cells left classes [] k = refl
    back_cells left classes (cell ∷ cells) k =
        ap₂ (λ a l. a ∷ l) (same_width (from (changed cell)) cell (from_by_words (to cell) cell ∙ sym k.0.width))
        (back_cells (left - cell.group) cell.outgoing cells k.1)

    back_card : (card : Card) → WellFormedBy from card → with_widths from (with_widths to card) ≡ card
    unfolding with_widths
    back_card card w = ap (λ cells. record { n = card.n; offset = card.offset; cells = cells }) (back_cells card.n 1 card.cells w.cells)

pub older_of_card : (card : Card) → WellFormed card → OlderWellFormed (older_card card)
older_of_card = changed_card width_of older_width older_by_words

pub present_of_card : (card : Card) → OlderWellFormed card → WellFormed (present_card card)
present_of_card = changed_card older_width width_of present_by_words

pub older_back : (card : Card) → OlderWellFormed card → older_card (present_card card) ≡ card
older_back = back_card older_width width_of present_by_words older_by_words

pub present_back : (card : Card) → WellFormed card → present_card (older_card card) ≡ card
present_back = back_card width_of older_width older_by_words present_by_words

-- ---- some width disagrees

abbrev older : Cell → Cell
older cell = with_width (older_width cell) cell

-- Cells up to the first whose width is another by the older rule.
record FirstOther (all : List Cell) : Type 0 where
  before : List Cell
  cell : Cell
  after : List Cell
  parts : all ≡ before ++ cell ∷ after
  agree : map older before ≡ before
  other : ¬ (older_width cell ≡ cell.width)

first_other : (before : List Cell) (cell : Cell) (after : List Cell) → ¬ (older_width cell ≡ cell.width) → FirstOther (before ++ cell ∷ after)
first_other [] cell after other = record { before = []; cell = cell; after = after; parts = refl; agree = refl; other = other }
first_other (first ∷ before) cell after other = here_or_later (first_other before cell after other) (ℕ_discrete (older_width first) first.width)
  where
    here_or_later : FirstOther (before ++ cell ∷ after) → Dec (older_width first ≡ first.width) → FirstOther (first ∷ before ++ cell ∷ after)
    here_or_later later (yes e) =
        record {
          before = first ∷ later.before;
          cell = later.cell;
          after = later.after;
          parts = ap (λ l. first ∷ l) later.parts;
          agree = ap₂ (λ a l. a ∷ l) (same_width (older_width first) first e) later.agree;
          other = later.other;
        }
    here_or_later later (no differs) = record { before = []; cell = first; after = before ++ cell ∷ after; parts = refl; agree = refl; other = differs }

-- One byte holds the older width of each cell that keeps the rules.
older_narrow : (before : List Cell) (cell : Cell) (after : List Cell) (left classes : ℕ) → KeepsCells left classes (before ++ cell ∷ after) → older_width cell < 256
unfolding KeepsCellsBy older_width
older_narrow [] cell after left classes k = let s = signed_small cell.words (λ j l. (k.0.words j l).ranged) in omega arith
older_narrow (first ∷ before) cell after left classes k = older_narrow before cell after (left - first.group) first.outgoing k.1

-- The bytes of an older image up to that cell, and those behind it.
older_bytes : (card : Card) (found : FirstOther card.cells) → image_of (older_card card) ≡ image_to card (found.before ++ older found.cell ∷ []) ++ flat_map command_bytes (flat_map cell_commands (map older found.after) ++ End (total_bits (older_card card).cells) ∷ [])
unfolding image_of card_commands with_widths image_to
older_bytes card found =
    let front = found.before ++ older found.cell ∷ [] in
    let back = map older found.after in
    let end = End (total_bits (map older card.cells)) ∷ [] in
    let parted : map older card.cells ≡ front ++ back =
    ap (map older) found.parts
    ∙ map_append older found.before (found.cell ∷ found.after)
    ∙ ap (λ l. l ++ older found.cell ∷ back) found.agree
    ∙ sym (append_assoc found.before (older found.cell ∷ []) back) in
    ap (λ l. flat_map command_bytes (Table card.n card.offset ∷ l))
    (ap (λ l. flat_map cell_commands l ++ end) parted
    ∙ ap (λ l. l ++ end) (flat_map_append cell_commands front back)
    ∙ append_assoc (flat_map cell_commands front) (flat_map cell_commands back) end)
    ∙ flat_map_append command_bytes (Table card.n card.offset ∷ flat_map cell_commands front) (flat_map cell_commands back ++ end)

-- Where a cell of a present card has another width by the older rule, the older image is refused with 13.
older_image : (card : Card) → WellFormed card → FirstOther card.cells → reading (image_of (older_card card)) ≡ refused 13
older_image card w found =
    let narrow = older_narrow found.before found.cell found.after card.n 1 (subst (KeepsCells card.n 1) found.parts w.cells) in
    ap reading (older_bytes card found)
    ∙ other_width card w found.before found.cell found.after found.parts (older_width found.cell) narrow found.other _

-- A cell among those that keep the rules has the width of the rule.
width_among : (rule : Cell → ℕ) (before : List Cell) (cell : Cell) (after : List Cell) (left classes : ℕ) → KeepsCellsBy rule left classes (before ++ cell ∷ after) → cell.width ≡ rule cell
unfolding KeepsCellsBy
width_among rule [] cell after left classes k = k.0.width
width_among rule (first ∷ before) cell after left classes k = width_among rule before cell after (left - first.group) first.outgoing k.1

abbrev present : Cell → Cell
present cell = with_width (width_of cell) cell

-- So an older good image in which some cell's width disagrees is refused with 13.
pub older_refused : (card : Card) → OlderWellFormed card → WidthDisagrees card → reading (image_of card) ≡ refused 13
unfolding with_widths with_width
older_refused card w d =
    let has : d.cell.width ≡ older_width d.cell = width_among older_width d.before d.cell d.after card.n 1 (subst (KeepsCellsBy older_width card.n 1) d.parts w.cells) in
    let other : ¬ (older_width (present d.cell) ≡ width_of d.cell) = λ e. d.disagrees (has ∙ sym (older_by_words (width_of d.cell) d.cell) ∙ e) in
    let parts : map present card.cells ≡ map present d.before ++ present d.cell ∷ map present d.after = ap (map present) d.parts ∙ map_append present d.before (d.cell ∷ d.after) in
    ap (λ c. reading (image_of c)) (sym (older_back card w))
    ∙ older_image (present_card card) (present_of_card card w) (subst FirstOther (sym parts) (first_other (map present d.before) (present d.cell) (map present d.after) other))

-- ---- no width disagrees

module _ (card : Card) (agrees : ¬ WidthDisagrees card) where
  -- Each cell has the width that the reader asks.
  agreed : (before : List Cell) (cell : Cell) (after : List Cell) → card.cells ≡ before ++ cell ∷ after → cell.width ≡ width_of cell
  agreed before cell after parts = decided (ℕ_discrete cell.width (width_of cell))
    where
      decided : Dec (cell.width ≡ width_of cell) → cell.width ≡ width_of cell
      decided (yes e) = e
      decided (no differs) = absurd (agrees (record { before = before; cell = cell; after = after; parts = parts; disagrees = differs }))

  agreed_cells : (rule : Cell → ℕ) (before cells : List Cell) → card.cells ≡ before ++ cells → (left classes : ℕ) → KeepsCellsBy rule left classes cells → KeepsCells left classes cells
  unfolding KeepsCellsBy
  agreed_cells rule before [] parts left classes k = k
  agreed_cells rule before (cell ∷ cells) parts left classes k = (
    record { shape = k.0.shape; whole = k.0.whole; words = k.0.words; width = agreed before cell cells parts },
    agreed_cells rule (before ++ cell ∷ []) cells (parts ∙ sym (append_assoc before (cell ∷ []) cells)) (left - cell.group) cell.outgoing k.1,
  )

  -- So a card that keeps the rules with other widths keeps the present ones,
  pub agreed_card : (rule : Cell → ℕ) → WellFormedBy rule card → WellFormed card
  agreed_card rule w = record { variables = w.variables; offset = w.offset; cells = agreed_cells rule [] card.cells refl card.n 1 w.cells }

  -- which make the same image.
  agreed_present : (before cells : List Cell) → card.cells ≡ before ++ cells → map present cells ≡ cells
  agreed_present before [] parts = refl
  agreed_present before (cell ∷ cells) parts =
      ap₂ (λ a l. a ∷ l) (same_width (width_of cell) cell (sym (agreed before cell cells parts)))
      (agreed_present (before ++ cell ∷ []) cells (parts ∙ sym (append_assoc before (cell ∷ []) cells)))

  pub agreed_image : image_of (present_card card) ≡ image_of card
  unfolding with_widths
  agreed_image = ap (λ cells. image_of (record { n = card.n; offset = card.offset; cells = cells })) (agreed_present [] card.cells refl)
