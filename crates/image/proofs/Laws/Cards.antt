-- The commands that may stand from the start on are those of cards that keep the rules.
use Rattle.std.specs.Prelude.{ℕ, ◌≡◌, refl, true, length, ℤ, pos}
use Rattle.std.proofs.Math.Path.{sym, ap}
use Rattle.std.proofs.Common.{◌∙◌, subst, zero-add, arith, eq-eqb}
use Rattle.std.proofs.lemmas.Bool.{false≢true}
use mathlib.Core.List.{List, [], ◌∷◌, ◌++◌, map, flat_map, append_assoc, append-nil}
use Rattle.numbers.specs.Lists.{every}
use Rattle.numbers.specs.Ranges.{is_variables, is_value, eq_z}
use Rattle.numbers.specs.Extremes.{lowest, highest}
use Rattle.numbers.specs.Widths.{weight_width}
use Rattle.numbers.proofs.Laws.Bools.{both, and_both}
use Rattle.numbers.proofs.Laws.Widths.{weight_width_zero}
use Rattle.image.specs.Inner.Kinds.{kind_of, is_end}
use Rattle.image.specs.Cells as cells
use Rattle.image.specs.Cells.{Card, total_bits}
use Rattle.image.specs.Commands.{word_command, cell_commands, card_commands, collect, card_of}
use Rattle.image.specs.Reader as reader
use Rattle.image.specs.Reader.{due, keeps_rules, place_after, width_is_least, start}
use Rattle.image.specs.WellFormed.{weights, KeepsCells, WellFormed}
use Rattle.image.proofs.Laws.Bounds.{variables_most}
use Rattle.image.proofs.Laws.Coming.{Coming, Comes, coming, cells_allowed, allowed_comes}
use Rattle.image.proofs.Laws.Due.{due_table}
use Rattle.image.proofs.Laws.Standing.{May, Allowed, last, more}
use Rattle.image.specs.declared.Command.{Command}
use Rattle.image.specs.declared.Command.TheVariants.{Table, Cell, Word, End}
use Rattle.image.specs.declared.Place.{Place}

-- ---- the card of a card's commands

collect_words : (words : List cells.Word) (rest : List Command) → collect (map word_command words ++ rest) ≡ record { words = words ++ (collect rest).words; cells = (collect rest).cells }
unfolding collect word_command
collect_words [] rest = refl
collect_words (word ∷ words) rest = rw (collect_words words rest)

collect_cells : (below : List cells.Cell) (bits : ℕ) → collect (flat_map cell_commands below ++ End bits ∷ []) ≡ record { words = []; cells = below }
unfolding collect cell_commands flat_map
collect_cells [] bits = refl
collect_cells (cell ∷ below) bits =
    rw (append_assoc (map word_command cell.words) (flat_map cell_commands below) (End bits ∷ []), collect_words cell.words (flat_map cell_commands below ++ End bits ∷ []), collect_cells below bits, append-nil cell.words)

pub card_of_lem : (card : Card) → card_of (card_commands card) ≡ card
unfolding card_of card_commands
card_of_lem card = rw (collect_cells card.cells (total_bits card.cells))

-- ---- the first command

no_width : weight_width (pos 0 ∷ pos 0 ∷ []) ≡ 0
unfolding every eq_z
no_width = (weight_width_zero (pos 0 ∷ pos 0 ∷ [])).1 refl

pub start_width : width_is_least start ≡ true
unfolding width_is_least start
start_width = eq-eqb 0 (weight_width (pos 0 ∷ pos 0 ∷ [])) (sym no_width)

pub start_due : due start ≡ reader.table
unfolding start
start_due = due_table start refl

-- The place after the table command, with the cells to come.
module _ (n : ℕ) (offset : ℤ) where
  abbrev pub first : Place
  first = place_after start (Table n offset)

  pub first_coming : is_variables n ≡ true → (below : List cells.Cell) → KeepsCells n 1 below → Coming first [] below
  unfolding place_after weights lowest highest
  first_coming v below k =
      let some = (variables_most n v).0 in
      record { begun = (λ e. absurd (omega arith)); count = refl; keep = (λ j h. absurd (omega arith)); width = sym no_width; rest = k }

  first_commands : (below : List cells.Cell) → coming first [] below ≡ flat_map cell_commands below ++ End (total_bits below) ∷ []
  unfolding place_after coming
  first_commands below = ap (λ m. flat_map cell_commands below ++ End m ∷ []) (zero-add (total_bits below))

pub table_may : (n : ℕ) (offset : ℤ) → is_variables n ≡ true → is_value offset ≡ true → May start (Table n offset)
unfolding kind_of keeps_rules
table_may n offset v o = record { width = start_width; allowed = start_due; rules = and_both (is_variables n) (is_value offset) v o }

-- ---- both ways

pub card_allowed : (card : Card) → WellFormed card → Allowed start (card_commands card)
unfolding card_commands is_end
card_allowed card w =
    more (Table card.n card.offset) refl
    (table_may card.n card.offset w.variables w.offset)
    (subst (Allowed (first card.n card.offset)) (first_commands card.n card.offset card.cells)
    (cells_allowed card.cells (first card.n card.offset) (first_coming card.n card.offset w.variables card.cells w.cells)))

-- Commands that are those of a card which keeps the rules.
pub record CardRead (commands : List Command) : Type 0 where
  pub card : Card
  pub same : commands ≡ card_commands card
  pub keeps : WellFormed card

not_first {ℓ} : {X : Type ℓ} (c : Command) → (kind_of c ≡ reader.table → ⊥) → May start c → X
not_first c h m = absurd (h (sym m.allowed ∙ start_due))

no_words : {A : Type 0} (l : List A) → length l ≡ 0 → l ≡ []
no_words [] h = refl
no_words (a ∷ l) h = absurd (omega arith)

table_read : (n : ℕ) (offset : ℤ) (rest : List Command) → May start (Table n offset) → Comes (first n offset) rest → CardRead (Table n offset ∷ rest)
unfolding keeps_rules card_commands place_after
table_read n offset rest m comes =
    let rules = both (is_variables n) (is_value offset) m.rules in
    record {
      card = record { n = n; offset = offset; cells = comes.below };
      same = ap (λ l. Table n offset ∷ l) (comes.same ∙ ap (λ w. coming (first n offset) w comes.below) (no_words comes.words comes.keeps.count) ∙ first_commands n offset comes.below);
      keeps = record { variables = rules.0; offset = rules.1; cells = comes.keeps.rest };
    }

first_read : (c : Command) (rest : List Command) → May start c → Allowed (place_after start c) rest → CardRead (c ∷ rest)
unfolding kind_of place_after keeps_rules
first_read (Table n offset) rest m later =
    let some = (variables_most n (both (is_variables n) (is_value offset) m.rules).0).0 in
    table_read n offset rest m (allowed_comes (first n offset) rest (λ e. absurd (omega arith)) later)
first_read (Cell group incoming outgoing width) rest m later = not_first (Cell group incoming outgoing width) (λ e. let z : ◌≡◌ {A = ℕ} 0 1 = cc in omega arith) m
first_read (Word class weight) rest m later = not_first (Word class weight) (λ e. let z : ◌≡◌ {A = ℕ} 0 1 = cc in omega arith) m
first_read (End bits) rest m later = not_first (End bits) (λ e. let z : ◌≡◌ {A = ℕ} 0 1 = cc in omega arith) m

not_last {ℓ} : {X : Type ℓ} (c : Command) → is_end c ≡ true → May start c → X
unfolding is_end kind_of
not_last (Table n offset) e m = absurd (false≢true e)
not_last (Cell group incoming outgoing width) e m = absurd (false≢true e)
not_last (Word class weight) e m = absurd (false≢true e)
not_last (End bits) e m = not_first (End bits) (λ e. let z : ◌≡◌ {A = ℕ} 0 1 = cc in omega arith) m

card_read_lem : (p : Place) (commands : List Command) → p ≡ start → Allowed p commands → CardRead commands
card_read_lem p commands e (last c l m) = not_last c l (subst (λ q. May q c) e m)
card_read_lem p commands e (more c {rest} l m later) = first_read c rest (subst (λ q. May q c) e m) (subst (λ q. Allowed (place_after q c) rest) e later)

-- Commands that are allowed from the start on are those of the card that they describe, and it keeps the rules.
pub allowed_card : (commands : List Command) → Allowed start commands → (commands ≡ card_commands (card_of commands)) × WellFormed (card_of commands)
allowed_card commands allowed =
    let r = card_read_lem start commands refl allowed in
    let is_card : card_of commands ≡ r.card = ap card_of r.same ∙ card_of_lem r.card in
    (r.same ∙ ap card_commands (sym is_card), subst WellFormed (sym is_card) r.keeps)
