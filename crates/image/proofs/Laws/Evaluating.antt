-- Evaluation in place gives the card's answer: the words lie where the offsets say.
use Rattle.std.specs.Prelude.{ℕ, zero, suc, ◌+◌, ◌-◌, ◌*◌, ◌/◌, ◌%◌, ◌^◌, ◌≤◌, ◌<◌, ◌≡◌, ℤ, ◌+ℤ◌}
use Rattle.std.proofs.Math.Path.{refl, ap, ap₂, subst}
use Rattle.std.proofs.Common.{sym, ◌∙◌, add-zero, pow_pos}
use mathlib.Core.List.{List, [], ◌∷◌, ◌++◌, map, flat_map, append_assoc}
use Rattle.std.proofs.Math.Nat.{mod-lt}
use Rattle.std.proofs.Math.Numerals.{add-one}
use native.Mathlib.Omega.{arith}
use Rattle.std.proofs.Math.Dec.{lit<}
use Rattle.std.proofs.Math.ListN.{length, get_or}
use Rattle.std.proofs.Math.Pow.{pow_mono}
use Rattle.std.specs.Int.Signed.{mag}
use Rattle.numbers.specs.Ranges.{most_variables}
use Rattle.numbers.proofs.Laws.Bounds.{value_mag, weight_mag}
use Rattle.numbers.proofs.Laws.Machine.{mag_add}
use Rattle.numbers.proofs.Laws.Pieces.{shifted_one}
use Rattle.numbers.proofs.Laws.Powers.{part_room}
use Rattle.image.specs.Inner.Kinds.{kind_of}
use Rattle.operands.specs.Bytes.{unsigned_at, signed_at}
use Rattle.image.specs.Cells as cells
use Rattle.image.specs.Cells.{Card, total_bits}
use Rattle.image.specs.Commands.{word_command, cell_commands, card_commands, card_of}
use Rattle.image.specs.Inner.Evaluation.{Accepted, card_in, card_read, result_so_far, first_progress, group_at, first_word, word_place, next_place, word_ahead, cell_read, CellThere, CellAhead}
use Rattle.image.specs.Reader.{most_classes, due_size, command_at}
use Rattle.image.specs.Run.{Result, word_at, group_value, run_from, run_card}
use Rattle.image.specs.WellFormed.{no_word, KeepsCell, KeepsCellsBy, KeepsCells}
use Rattle.image.proofs.Laws.Bounds.{variables_most}
use Rattle.image.proofs.Laws.Images.{reading_standing, commands_of_card, card_keeps}
use Rattle.image.proofs.Laws.Standing.{Stands, Standing, standing_count}
use Rattle.image.specs.declared.Command.{Command}
use Rattle.image.specs.declared.Command.TheVariants.{Table, Cell, Word, End}
use Rattle.image.specs.declared.Progress.{Progress}

-- ---- words in place

-- The words of a cell lie one behind another, 7 bytes each.
word_stand : (image : List ℕ) (words : List cells.Word) (rest : List Command) (at : ℕ) → Standing image at (map word_command words ++ rest) → (j : ℕ) → j < length words → Stands image (at + 7 * j) (word_command (get_or words j no_word))
unfolding Standing word_command kind_of due_size
word_stand image [] rest at s j h = absurd (omega arith)
word_stand image (word ∷ words) rest at s zero h = subst (λ n. Stands image n (word_command word)) (sym (add-zero at)) s.0
word_stand image (word ∷ words) rest at s (suc j) h =
    subst (λ n. Stands image n (word_command (get_or words j no_word))) (let e : at + 7 + 7 * j ≡ at + 7 * suc j = omega arith in e) (word_stand image words rest (at + 7) s.1 j (omega arith))

-- What follows them lies behind them all.
after_words : (image : List ℕ) (words : List cells.Word) (rest : List Command) (at : ℕ) → Standing image at (map word_command words ++ rest) → Standing image (at + 7 * length words) rest
unfolding Standing word_command kind_of due_size
after_words image [] rest at s = subst (λ n. Standing image n rest) (sym (add-zero at)) s
after_words image (word ∷ words) rest at s =
    subst (λ n. Standing image n rest) (let e : at + 7 + 7 * length words ≡ at + 7 * suc (length words) = omega arith in e) (after_words image words rest (at + 7) s.1)

word_operands : (image : List ℕ) (at : ℕ) (word : cells.Word) → Stands image at (word_command word) → (unsigned_at image (at + 1) 2 ≡ word.class) × (signed_at image (at + 3) ≡ word.weight)
unfolding word_command kind_of command_at
word_operands image at word s =
    let e : Word (unsigned_at image (at + 1) 2) (signed_at image (at + 3)) ≡ Word word.class word.weight = s.operands in
    ((let f : unsigned_at image (at + 1) 2 ≡ word.class = cc in f), (let f : signed_at image (at + 3) ≡ word.weight = cc in f))

cell_operands : (image : List ℕ) (at : ℕ) (cell : cells.Cell) → Stands image at (Cell cell.group cell.incoming cell.outgoing cell.width) → (unsigned_at image (at + 1) 1 ≡ cell.group) × (unsigned_at image (at + 2) 2 ≡ cell.incoming)
unfolding kind_of command_at
cell_operands image at cell s =
    let e : Cell (unsigned_at image (at + 1) 1) (unsigned_at image (at + 2) 2) (unsigned_at image (at + 4) 2) (unsigned_at image (at + 6) 1) ≡ Cell cell.group cell.incoming cell.outgoing cell.width = s.operands in
    ((let f : unsigned_at image (at + 1) 1 ≡ cell.group = cc in f), (let f : unsigned_at image (at + 2) 2 ≡ cell.incoming = cc in f))

-- ---- the state of evaluation

-- The cells that are left, and that they lead to this result.
pub record Evaluating (image : List ℕ) (x : ℕ) (result : Result) (p : Progress) : Type 0 where
  pub below : List cells.Cell
  pub classes : ℕ
  pub bits : ℕ
  pub keeps : KeepsCells p.left classes below
  pub known : p.class < classes
  pub count : p.words + p.left ≤ most_variables
  pub small : mag p.value ≤ 8388608 + p.words * 16777216
  pub stands : Standing image p.at (flat_map cell_commands below ++ End bits ∷ [])
  pub leads : run_from p.left below x p.class (result_so_far p) ≡ result

-- The cell ahead, its word for X, and the rest.
module _ (image : List ℕ) (x : ℕ) (p : Progress) (classes bits : ℕ) (cell : cells.Cell) (below : List cells.Cell)
    (keeps : KeepsCell p.left classes cell) (known : p.class < classes)
    (stands : Standing image p.at (flat_map cell_commands (cell ∷ below) ++ End bits ∷ [])) where
  abbrev rest : List Command
  rest = flat_map cell_commands below ++ End bits ∷ []

  abbrev index : ℕ
  index = p.class * 2 ^ cell.group + group_value p.left cell.group x

  abbrev word : cells.Word
  word = get_or cell.words index no_word

  whole_cell : Stands image p.at (Cell cell.group cell.incoming cell.outgoing cell.width) × Standing image (p.at + 7) (map word_command cell.words ++ rest)
  unfolding Standing flat_map cell_commands kind_of due_size
  whole_cell = (stands.0, subst (Standing image (p.at + 7)) (append_assoc (map word_command cell.words) (flat_map cell_commands below) (End bits ∷ [])) stands.1)

  is_group : group_at image p.at ≡ cell.group
  unfolding group_at
  is_group = (cell_operands image p.at cell whole_cell.0).0

  is_next : next_place image p.at ≡ p.at + 7 + 7 * length cell.words
  unfolding next_place word_place first_word
  is_next = ap₂ (λ i g. p.at + 7 + 7 * (i * 2 ^ g + 0)) (cell_operands image p.at cell whole_cell.0).1 is_group ∙ (let n = keeps.whole in let e : p.at + 7 + 7 * (cell.incoming * 2 ^ cell.group + 0) ≡ p.at + 7 + 7 * length cell.words = omega arith in e)

  is_place : word_ahead image x p ≡ p.at + 7 + 7 * index
  unfolding word_ahead word_place first_word
  is_place = ap (λ g. p.at + 7 + 7 * (p.class * 2 ^ g + group_value p.left g x)) is_group

  index_inside : index < length cell.words
  unfolding group_value
  index_inside =
      let v = mod-lt (x / 2 ^ (p.left - cell.group)) (pow_pos cell.group) in
      let r = part_room cell.incoming cell.group p.class (let j = keeps.shape.joined in omega arith) in
      let n = keeps.whole in
      omega arith

  word_stands : Stands image (p.at + 7 + 7 * index) (word_command word)
  word_stands = word_stand image cell.words rest (p.at + 7) whole_cell.1 index index_inside

  is_class : unsigned_at image (word_ahead image x p + 1) 2 ≡ word.class
  is_class = ap (λ n. unsigned_at image (n + 1) 2) is_place ∙ (word_operands image (p.at + 7 + 7 * index) word word_stands).0

  is_weight_lem : signed_at image (word_ahead image x p + 3) ≡ word.weight
  is_weight_lem = ap (λ n. signed_at image (n + 3)) is_place ∙ (word_operands image (p.at + 7 + 7 * index) word word_stands).1

  rest_stands : Standing image (next_place image p.at) rest
  rest_stands = subst (λ n. Standing image n rest) (sym is_next) (after_words image cell.words rest (p.at + 7) whole_cell.1)

  word_room : word_ahead image x p + 7 ≤ length image
  unfolding word_command kind_of due_size
  word_room = let r = word_stands.room in let e = is_place in omega arith

  next_room : next_place image p.at ≤ length image
  next_room = let c = standing_count image (next_place image p.at) rest rest_stands in omega arith

-- The code's numbers stay small: the next command, and the shift by the group.
module _ (image : List ℕ) (left at : ℕ) (there : CellThere image left at) where
  pub command_room : at + 7 ≤ length image
  unfolding next_place word_place first_word
  command_room = let n = there.next in omega arith

  pub group_narrow : (group : ℕ) → group ≡ group_at image at → group ≤ 12
  unfolding most_variables
  group_narrow group e = let t = there.inside in let f = there.few in omega arith

-- ---- one cell after another

-- Where variables are left, a cell is.
no_cells {ℓ} : {X : Type ℓ} (left classes : ℕ) → KeepsCells left classes [] → 0 < left → X
unfolding KeepsCellsBy
no_cells left classes k h = absurd (omega arith)

small_sum : (value weight : ℤ) (words : ℕ) → mag value ≤ 8388608 + words * 16777216 → mag weight ≤ 16777215 → mag (value +ℤ weight) ≤ 8388608 + (words + 1) * 16777216
small_sum value weight words v w = let s = mag_add value weight in omega arith

module _ (image : List ℕ) (x : ℕ) (result : Result) (p : Progress) where
  abbrev Ahead : List cells.Cell → Type 0
  Ahead below = (classes bits : ℕ) → KeepsCells p.left classes below → p.class < classes → p.words + p.left ≤ most_variables → mag p.value ≤ 8388608 + p.words * 16777216
      → Standing image p.at (flat_map cell_commands below ++ End bits ∷ []) → run_from p.left below x p.class (result_so_far p) ≡ result → 0 < p.left
      → CellAhead image x p × Evaluating image x result (cell_read image x p)

  ahead : (below : List cells.Cell) → Ahead below
  unfolding KeepsCellsBy run_from result_so_far cell_read word_at most_variables no_word
  ahead [] classes bits keeps known count small stands leads some = no_cells p.left classes keeps some
  ahead (cell ∷ below) classes bits keeps known count small stands leads some =
      let k = keeps.0 in
      let word = get_or cell.words (p.class * 2 ^ cell.group + group_value p.left cell.group x) no_word in
      let kept = k.words (p.class * 2 ^ cell.group + group_value p.left cell.group x) (index_inside image x p classes bits cell below k known stands) in
      let group = is_group image x p classes bits cell below k known stands in
      let class = is_class image x p classes bits cell below k known stands in
      let weight = is_weight_lem image x p classes bits cell below k known stands in
      let inside_left = k.shape.inside in
      let first = k.shape.some in
      let summed : mag (p.value +ℤ signed_at image (word_ahead image x p + 3)) ≤ 8388608 + (p.words + 1) * 16777216 = rw weight (small_sum p.value word.weight p.words small (weight_mag word.weight kept.ranged)) in (
        record {
          there = record { few = omega arith; some = omega arith; inside = omega arith; next = next_room image x p classes bits cell below k known stands };
          word = word_room image x p classes bits cell below k known stands;
          small = omega arith;
          words = omega arith;
        },
        record {
          below = below;
          classes = cell.outgoing;
          bits = bits;
          keeps = rw group keeps.1;
          known = rw class kept.known;
          count = omega arith;
          small = summed;
          stands = rest_stands image x p classes bits cell below k known stands;
          leads = rw (group, class, weight, add-one p.words) leads;
        },
      )

  pub cell_ahead : Evaluating image x result p → 0 < p.left → CellAhead image x p
  cell_ahead e h = (ahead e.below e.classes e.bits e.keeps e.known e.count e.small e.stands e.leads h).0

  pub cell_passed : Evaluating image x result p → 0 < p.left → Evaluating image x result (cell_read image x p)
  cell_passed e h = (ahead e.below e.classes e.bits e.keeps e.known e.count e.small e.stands e.leads h).1

  -- Every cell takes a variable at least.
  pub cell_takes : CellAhead image x p → (cell_read image x p).left < p.left
  unfolding cell_read
  cell_takes a = let s = a.there.some in let t = a.there.inside in omega arith

  all_cells : (below : List cells.Cell) (classes : ℕ) → KeepsCells p.left classes below → p.left ≡ 0 → run_from p.left below x p.class (result_so_far p) ≡ result_so_far p
  unfolding run_from KeepsCellsBy
  all_cells [] classes k e = refl
  all_cells (cell ∷ below) classes k e = let s = k.0.shape.some in let t = k.0.shape.inside in absurd (omega arith)

  -- Where no variable is left, the result is reached.
  pub result_reached : Evaluating image x result p → p.left ≡ 0 → result_so_far p ≡ result
  result_reached e h = sym (all_cells e.below e.classes e.keeps h) ∙ e.leads

-- ---- the first cell

module _ (image : List ℕ) (a : Accepted image) where
  abbrev card : Card
  card = card_of a.commands

  pub is_card : card_read image ≡ card
  unfolding card_read card_in
  is_card = ap card_in a.read

  table_stands : Stands image 0 (Table card.n card.offset) × Standing image 6 (flat_map cell_commands card.cells ++ End (total_bits card.cells) ∷ [])
  unfolding Standing card_commands kind_of due_size
  table_stands = subst (Standing image 0) (commands_of_card image a.commands a.read) (reading_standing image a.commands a.read)

  table_operands : (unsigned_at image 1 1 ≡ card.n) × (signed_at image 2 ≡ card.offset)
  unfolding kind_of command_at
  table_operands =
      let e : Table (unsigned_at image 1 1) (signed_at image 2) ≡ Table card.n card.offset = table_stands.0.operands in
      ((let f : unsigned_at image 1 1 ≡ card.n = cc in f), (let f : signed_at image 2 ≡ card.offset = cc in f))

  -- The table command is there.
  pub first_room : 6 ≤ length image
  unfolding kind_of due_size
  first_room = table_stands.0.room

  pub variables_read : unsigned_at image 1 1 ≡ (card_read image).n
  variables_read = table_operands.0 ∙ ap (λ k. k.n) (sym is_card)

  variables_few : (card_read image).n ≤ most_variables
  variables_few = rw is_card (variables_most card.n (card_keeps image a.commands a.read).variables).1

  -- As many values as a cut has classes at most.
  pub values_few : 2 ^ (card_read image).n ≤ most_classes
  unfolding most_classes most_variables
  values_few = pow_mono variables_few

  pub variables_narrow : (n : ℕ) → n ≡ (card_read image).n → n < 64
  unfolding most_variables
  variables_narrow n e = let f = variables_few in omega arith

  -- The number of values, as a shift.
  pub variables_size : (n : ℕ) → n ≡ (card_read image).n → (1 * 2 ^ n) % 18446744073709551616 ≡ 2 ^ (card_read image).n
  variables_size n e = shifted_one n (variables_narrow n e) ∙ ap (λ n. 2 ^ n) e

  pub first_evaluating : (x : ℕ) → Evaluating image x (run_card (card_read image) x) (first_progress image)
  unfolding first_progress run_card result_so_far
  first_evaluating x =
      let w = card_keeps image a.commands a.read in
      let n = table_operands.0 in
      let o = table_operands.1 in
      record {
        below = card.cells;
        classes = 1;
        bits = total_bits card.cells;
        keeps = rw n w.cells;
        known = lit< tt;
        count = (let m = (variables_most card.n w.variables).1 in omega arith);
        small = rw o (let m = value_mag card.offset w.offset in omega arith);
        stands = table_stands.1;
        leads = rw (n, o, is_card);
      }
