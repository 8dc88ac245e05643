-- A cell that is written with another width than its weights have is refused with 13 after its last word, whatever follows.
use Prim.Native.Nat.{ℕ, zero, suc, ◌+◌, ◌-◌, ◌≤◌, ◌<◌}
use Rattle.std.specs.Prelude.{◌≡◌, length, drop}
use Rattle.std.proofs.Math.Path.{refl, sym, ap, subst}
use Rattle.std.proofs.Common.{◌∙◌, arith, length-append, length-drop}
use Rattle.std.proofs.Math.Bool.{false}
use mathlib.Core.List.{List, [], ◌∷◌, ◌++◌, map, flat_map, append_assoc, append-nil}
use borrow.Author.Tests.{lt-ltb, ne_eqb}
use Rattle.numbers.specs.Answers.{refused, and_then, map_answer}
use Rattle.numbers.specs.Extremes.{lowest, highest}
use Rattle.numbers.specs.Ranges.{most_variables}
use Rattle.numbers.specs.Widths.{weight_width}
use Rattle.image.specs.Inner.Kinds.{kind_of, is_end}
use Rattle.image.specs.Cells as cells
use Rattle.image.specs.Cells.{Card}
use Rattle.image.specs.Commands.{command_bytes, word_command, cell_commands, card_commands}
use Rattle.image.specs.OlderWidths.{with_width, image_to}
use Rattle.image.specs.Reader.{due, due_size, keeps_rules, place_after, width_is_least, followed_by, read_from, reading, start, most_classes}
use Rattle.image.specs.WellFormed.{weights, KeepsCellsBy, KeepsCells, WellFormed}
use Rattle.image.proofs.Laws.Bounds.{variables_most}
use Rattle.image.proofs.Laws.Cards.{table_may, first_coming}
use Rattle.image.proofs.Laws.Coming.{Coming, cell_command, width_here, word_may, word_coming, cell_may, cell_coming}
use Rattle.image.proofs.Laws.Due.{ends_well_before}
use Rattle.image.proofs.Laws.Held.{all_append, cell_holds, card_holds}
use Rattle.image.proofs.Laws.Images.{Holds, AllHold, length_bytes, bytes_stand}
use Rattle.image.proofs.Laws.Reading.{followed_on, size_some}
use Rattle.image.proofs.Laws.Standing.{May, Stands, after_at, step_back}
use Rattle.image.proofs.Laws.Steps.{step_wide}
use Rattle.image.specs.declared.Command.{Command}
use Rattle.image.specs.declared.Command.TheVariants.{Table}
use Rattle.image.specs.declared.Place.{Place}

-- ---- commands in front of other bytes

-- Commands stand in the image one behind another from a place on, whatever follows them.
unfoldable Front : List ℕ → ℕ → List Command → Type 0
Front image at [] = Unit {0}
Front image at (c ∷ rest) = Stands image at c × Front image (at + due_size (kind_of c)) rest

bytes_front : (image : List ℕ) (at : ℕ) (commands : List Command) (rest : List ℕ) → AllHold commands → at ≤ length image → drop at image ≡ flat_map command_bytes commands ++ rest → Front image at commands
unfolding Front flat_map AllHold
bytes_front image at [] rest h w e = tt
bytes_front image at (c ∷ commands) rest h w e =
    let later = flat_map command_bytes commands ++ rest in
    let parted : drop at image ≡ command_bytes c ++ later = e ∙ append_assoc (command_bytes c) (flat_map command_bytes commands) rest in
    let l : length image - at ≡ due_size (kind_of c) + length later = sym (length-drop at image) ∙ ap length parted ∙ length-append (command_bytes c) later ∙ ap (λ n. n + length later) (length_bytes c) in
    let room : at + due_size (kind_of c) ≤ length image = omega arith in
    let here = bytes_stand image at c later h.0 room parted in
    (here.0, bytes_front image (at + due_size (kind_of c)) commands rest h.1 room here.1)

front_count : (image : List ℕ) (at : ℕ) (commands : List Command) → at ≤ length image → Front image at commands → at + length commands ≤ length image
unfolding Front
front_count image at [] w f = omega arith
front_count image at (c ∷ commands) w f =
    let room = f.0.room in
    let rest = front_count image (at + due_size (kind_of c)) commands room f.1 in
    let some = size_some (kind_of c) in
    omega arith

module _ (image : List ℕ) where
  -- From a place on the image is refused with 13, where commands stand there and more steps are left.
  Refuses : Place → List Command → Type 0
  Refuses p commands = Front image p.at commands → (steps : ℕ) → length commands < steps → read_from steps image p ≡ refused 13

  -- A command that may stand at a place is read there, and what follows it is refused.
  read_on : (p : Place) (c : Command) (rest : List Command) → is_end c ≡ false → May p c → Refuses (place_after p c) rest → Refuses p (c ∷ rest)
  unfolding Front read_from Refuses
  read_on p c rest e m later f zero h = absurd (omega arith)
  read_on p c rest e m later f (suc steps) h =
      ap (λ a. and_then a (λ s. followed_by s.0 (read_from steps image s.1))) (step_back image p c m f.0 (ends_well_before image p c e))
      ∙ followed_on c (read_from steps image (place_after p c)) e
      ∙ ap (map_answer (λ l. c ∷ l)) (later (subst (λ n. Front image n rest) (sym (after_at p c)) f.1) steps (omega arith))

  -- ---- the cell with another width

  -- A place with another width, and other bits so far.
  abbrev widened : ℕ → ℕ → Place → Place
  widened width bits p = record {
    at = p.at;
    n = p.n;
    left = p.left;
    classes = p.classes;
    words = p.words;
    group = p.group;
    width = width;
    least = p.least;
    greatest = p.greatest;
    bits = bits;
  }

  -- Its words are read, and then its width is not the least.
  words_refused : (width bits : ℕ) (below : List cells.Cell) (words : List cells.Word) (p : Place) → Coming p words below → (width ≡ p.width → ⊥) → Refuses (widened width bits p) (map word_command words)
  unfolding Refuses read_from weights lowest highest word_command is_end kind_of place_after keeps_rules due width_is_least
  words_refused width bits below [] p c other f zero h = absurd (omega arith)
  words_refused width bits below [] p c other f (suc steps) h =
      let wide : width_is_least (widened width bits p) ≡ false = width_here (widened width bits p) (sym c.count) ∙ ne_eqb width (weight_width (p.least ∷ p.greatest ∷ [])) (λ e. other (e ∙ sym c.width)) in
      ap (λ a. and_then a (λ s. followed_by s.0 (read_from steps image s.1))) (step_wide image (widened width bits p) wide)
  words_refused width bits below (word ∷ words) p c other f steps h =
      let m = word_may p word words below c in
      let n = c.count in
      read_on (widened width bits p) (word_command word) (map word_command words) refl
      (record { width = rw (lt-ltb 0 p.words (omega arith)); allowed = m.allowed; rules = m.rules })
      (words_refused width bits below words (place_after p (word_command word)) (word_coming p word words below c) other)
      f steps h

  module _ (cell : cells.Cell) (width : ℕ) (other : width ≡ cell.width → ⊥) (after : List cells.Cell) where
    cell_refused : (p : Place) → Coming p [] (cell ∷ after) → Refuses p (cell_commands (with_width width cell))
    unfolding cell_commands with_width place_after keeps_rules is_end kind_of
    cell_refused p c =
        let m = cell_may p cell after c in
        read_on p (cell_command (with_width width cell)) (map word_command cell.words) refl
        (record { width = m.width; allowed = m.allowed; rules = m.rules })
        (words_refused width _ after cell.words (place_after p (cell_command cell)) (cell_coming p cell after c) other)

    -- ---- the cells before it

    -- The words of a cell before it are read, and what follows them is refused.
    words_before : (below : List cells.Cell) (rest : List Command) → ((q : Place) → Coming q [] below → Refuses q rest) → (words : List cells.Word) (p : Place) → Coming p words below → Refuses p (map word_command words ++ rest)
    unfolding is_end word_command
    words_before below rest later [] p c = later p c
    words_before below rest later (word ∷ words) p c =
        read_on p (word_command word) (map word_command words ++ rest) refl (word_may p word words below c)
        (words_before below rest later words (place_after p (word_command word)) (word_coming p word words below c))

    cells_refused : (before : List cells.Cell) (p : Place) → Coming p [] (before ++ cell ∷ after) → Refuses p (flat_map cell_commands (before ++ with_width width cell ∷ []))
    unfolding flat_map cell_commands is_end
    cells_refused [] p c = subst (Refuses p) (sym (append-nil (cell_commands (with_width width cell)))) (cell_refused p c)
    cells_refused (first ∷ before) p c =
        let below = before ++ cell ∷ after in
        let rest = flat_map cell_commands (before ++ with_width width cell ∷ []) in
        read_on p (cell_command first) (map word_command first.words ++ rest) refl (cell_may p first below c)
        (words_before below rest (cells_refused before) first.words (place_after p (cell_command first)) (cell_coming p first below c))

-- ---- the image

-- The operands of the cells up to one with another width are held by their bytes.
cells_held : (before : List cells.Cell) (cell : cells.Cell) (after : List cells.Cell) (width left classes : ℕ) → width < 256 → left ≤ most_variables → classes ≤ most_classes → KeepsCells left classes (before ++ cell ∷ after) → AllHold (flat_map cell_commands (before ++ with_width width cell ∷ []))
unfolding KeepsCellsBy flat_map AllHold Holds cell_commands with_width
cells_held [] cell after width left classes narrow l h k =
    let own = cell_holds left classes cell k.0 l h in
    all_append (cell_commands (with_width width cell)) [] ((own.0.0, (own.0.1.0, (own.0.1.1.0, narrow))), own.1) tt
cells_held (first ∷ before) cell after width left classes narrow l h k =
    all_append (cell_commands first) (flat_map cell_commands (before ++ with_width width cell ∷ [])) (cell_holds left classes first k.0 l h)
    (cells_held before cell after width (left - first.group) first.outgoing narrow (omega arith) k.0.shape.most k.1)

-- Whatever bytes follow the cell's last word.
pub other_width : (card : Card) → WellFormed card → (before : List cells.Cell) (cell : cells.Cell) (after : List cells.Cell) → card.cells ≡ before ++ cell ∷ after → (width : ℕ) → width < 256 → (width ≡ cell.width → ⊥) → (rest : List ℕ) → reading (image_to card (before ++ with_width width cell ∷ []) ++ rest) ≡ refused 13
unfolding image_to reading start AllHold is_end most_classes card_commands Refuses
other_width card w before cell after parts width narrow other rest =
    let n = (variables_most card.n w.variables).1 in
    let keeps : KeepsCells card.n 1 (before ++ cell ∷ after) = subst (KeepsCells card.n 1) parts w.cells in
    let commands = Table card.n card.offset ∷ flat_map cell_commands (before ++ with_width width cell ∷ []) in
    let image = flat_map command_bytes commands ++ rest in
    let held : AllHold commands = ((card_holds card w).0, cells_held before cell after width card.n 1 narrow n (omega arith) keeps) in
    let front = bytes_front image 0 commands rest held (omega arith) refl in
    read_on image start (Table card.n card.offset) (flat_map cell_commands (before ++ with_width width cell ∷ [])) refl
    (table_may card.n card.offset w.variables w.offset)
    (cells_refused image cell width other after before _ (first_coming card.n card.offset w.variables (before ++ cell ∷ after) keeps))
    front (suc (length image))
    (let c = front_count image 0 commands (omega arith) front in omega arith)
