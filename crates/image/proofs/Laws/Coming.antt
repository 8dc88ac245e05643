-- The commands that may come at a place are those of words and cells that keep the rules.
use Prim.Native.Nat.{ℕ, zero, suc, ◌+◌, ◌-◌, ◌*◌, ◌%◌, ◌^◌, ◌≤◌, ◌<◌}
use Rattle.std.specs.Prelude.{◌≡◌, refl, true, false, eqb, get_or}
use Rattle.std.proofs.Math.Path.{sym, subst}
use Rattle.std.proofs.Common.{◌∙◌, ap, add_assoc, add-zero}
use Rattle.std.proofs.lemmas.Bool.{false≢true}
use mathlib.Core.List.{List, [], ◌∷◌, ◌++◌, map, flat_map, append_assoc}
use Rattle.std.proofs.Math.Nat.{sub-zero, dvd-mul_left, dvd-sub_iff_right, dvd_iff_mod-eq-zero}
use native.Mathlib.Omega.{arith}
use Rattle.std.proofs.Math.ListN.{length}
use borrow.Author.Tests.{eqb-true, eq-eqb, lt-ltb, le-ltb}
use Rattle.numbers.specs.Lists.{sum_of}
use Rattle.numbers.specs.Extremes.{lowest, highest}
use Rattle.numbers.specs.Widths.{weight_width}
use Rattle.numbers.proofs.Laws.Extremes.{width_by_extremes}
use Rattle.image.specs.Inner.Kinds.{kind_of, is_end}
use Rattle.image.specs.Cells as cells
use Rattle.image.specs.Cells.{bits_of, total_bits}
use Rattle.image.specs.Commands.{word_command, cell_commands}
use Rattle.image.specs.Reader.{keeps_rules, place_after, width_is_least}
use Rattle.image.specs.Reader as reader
use Rattle.image.specs.WellFormed.{no_word, weights, KeepsWord, KeepsCellsBy, KeepsCells}
use Rattle.image.proofs.Laws.Due.{Tells, told, due_word, due_cell, due_end}
use Rattle.image.proofs.Laws.Rules.{shape_test, shape_facts, word_test, word_facts}
use Rattle.image.proofs.Laws.Standing.{May, Allowed, last, more}
use Rattle.image.specs.declared.Command.{Command}
use Rattle.image.specs.declared.Command.TheVariants.{Table, Cell, Word, End}
use Rattle.image.specs.declared.Place.{Place}

-- Words of the present cell and cells below it that keep the rules from a place on.
pub record Coming (p : Place) (words : List cells.Word) (below : List cells.Cell) : Type 0 where
  pub begun : p.n ≡ 0 → ⊥
  pub count : length words ≡ p.words
  pub keep : (j : ℕ) → j < length words → KeepsWord p.classes ((p.words - j) % 2 ^ p.group) (get_or words j no_word)
  pub width : p.width ≡ weight_width (lowest p.least (weights words) ∷ highest p.greatest (weights words) ∷ [])
  pub rest : KeepsCells p.left p.classes below

-- Their commands.
unfoldable pub coming : Place → List cells.Word → List cells.Cell → List Command
coming p words below = map word_command words ++ (flat_map cell_commands below ++ End (p.bits + total_bits below) ∷ [])

-- ---- a word

module _ (p : Place) (word : cells.Word) (words : List cells.Word) (below : List cells.Cell) where
  pub word_may : Coming p (word ∷ words) below → May p (word_command word)
  unfolding word_command kind_of width_is_least
  word_may c =
      let n = c.count in
      let k = c.keep 0 (omega arith) in
      record {
        width = rw (lt-ltb 0 p.words (omega arith));
        allowed = due_word p c.begun (λ e. absurd (omega arith));
        rules = word_test p word.class word.weight (subst (λ v. KeepsWord p.classes (v % 2 ^ p.group) word) (sub-zero p.words) k);
      }

  pub word_coming : Coming p (word ∷ words) below → Coming (place_after p (word_command word)) words below
  unfolding place_after word_command weights lowest highest
  word_coming c =
      let n = c.count in
      record {
        begun = c.begun;
        count = omega arith;
        keep = (λ j h. subst (λ v. KeepsWord p.classes (v % 2 ^ p.group) (get_or words j no_word)) (let e : p.words - suc j ≡ p.words - 1 - j = omega arith in e) (c.keep (suc j) (omega arith)));
        width = c.width;
        rest = c.rest;
      }

  pub word_back : May p (word_command word) → Coming (place_after p (word_command word)) words below → Coming p (word ∷ words) below
  unfolding place_after word_command weights lowest highest kind_of Tells
  word_back m c =
      let some : 1 ≤ p.words = (told p reader.word m.allowed).1 in
      let n : length words ≡ p.words - 1 = c.count in
      record {
        begun = c.begun;
        count = omega arith;
        keep = each;
        width = c.width;
        rest = c.rest;
      }
    where
      each : (j : ℕ) → j < suc (length words) → KeepsWord p.classes ((p.words - j) % 2 ^ p.group) (get_or (word ∷ words) j no_word)
      each zero h = subst (λ v. KeepsWord p.classes (v % 2 ^ p.group) word) (sym (sub-zero p.words)) (word_facts p word.class word.weight m.rules)
      each (suc j) h = subst (λ v. KeepsWord p.classes (v % 2 ^ p.group) (get_or words j no_word)) (let e : p.words - 1 - j ≡ p.words - suc j = omega arith in e) (c.keep j (omega arith))

-- ---- a cell

-- Counted from the end of a cell or from its beginning, the places of group value 0 are the same.
ground_turn : (m size j : ℕ) → j ≤ m * size → (j % size ≡ 0 → (m * size - j) % size ≡ 0) × ((m * size - j) % size ≡ 0 → j % size ≡ 0)
ground_turn m size j h =
    let turn = dvd-sub_iff_right size h (dvd-mul_left size m) in (
      (λ e. (dvd_iff_mod-eq-zero size).0 (turn.1 ((dvd_iff_mod-eq-zero size).1 e))),
      (λ e. (dvd_iff_mod-eq-zero size).0 (turn.0 ((dvd_iff_mod-eq-zero size).1 e))),
    )

keeps_turned : (outgoing u v : ℕ) (word : cells.Word) → (v ≡ 0 → u ≡ 0) → KeepsWord outgoing u word → KeepsWord outgoing v word
keeps_turned outgoing u v word h k = record { known = k.known; ranged = k.ranged; grounded = (λ e. k.grounded (h e)) }

-- Where no word is left, the width is that of the extremes.
pub width_here : (p : Place) → p.words ≡ 0 → width_is_least p ≡ eqb p.width (weight_width (p.least ∷ p.greatest ∷ []))
unfolding width_is_least
width_here p e = rw (le-ltb 0 p.words (omega arith))

abbrev pub cell_command : cells.Cell → Command
cell_command cell = Cell cell.group cell.incoming cell.outgoing cell.width

module _ (p : Place) (cell : cells.Cell) (below : List cells.Cell) where
  pub cell_may : Coming p [] (cell ∷ below) → May p (cell_command cell)
  unfolding KeepsCellsBy kind_of weights lowest highest
  cell_may c =
      let shape = c.rest.0.shape in
      let some = shape.some in
      let inside = shape.inside in
      record {
        width = width_here p (sym c.count) ∙ eq-eqb p.width (weight_width (p.least ∷ p.greatest ∷ [])) c.width;
        allowed = due_cell p c.begun (sym c.count) (λ e. absurd (omega arith));
        rules = shape_test p cell.group cell.incoming cell.outgoing cell.width shape;
      }

  pub cell_coming : Coming p [] (cell ∷ below) → Coming (place_after p (cell_command cell)) cell.words below
  unfolding KeepsCellsBy place_after
  cell_coming c =
      let k = c.rest.0 in
      record {
        begun = c.begun;
        count = k.whole;
        keep = (λ j h. let n = k.whole in keeps_turned cell.outgoing (j % 2 ^ cell.group) ((cell.incoming * 2 ^ cell.group - j) % 2 ^ cell.group) (get_or cell.words j no_word) (ground_turn cell.incoming (2 ^ cell.group) j (omega arith)).1 (k.words j h));
        width = k.width ∙ sym (width_by_extremes (weights cell.words));
        rest = c.rest.1;
      }

  pub cell_back : May p (cell_command cell) → Coming (place_after p (cell_command cell)) cell.words below → Coming p [] (cell ∷ below)
  unfolding KeepsCellsBy place_after kind_of Tells weights lowest highest
  cell_back m c =
      let facts = told p reader.cell m.allowed in
      let shape = shape_facts p cell.group cell.incoming cell.outgoing cell.width m.rules in
      let n : length cell.words ≡ cell.incoming * 2 ^ cell.group = c.count in
      record {
        begun = facts.0;
        count = sym facts.1.0;
        keep = (λ j h. absurd (omega arith));
        width = eqb-true p.width (weight_width (p.least ∷ p.greatest ∷ [])) (sym (width_here p facts.1.0) ∙ m.width);
        rest = (
          record {
            shape = shape;
            whole = n;
            words = (λ j h. keeps_turned cell.outgoing ((cell.incoming * 2 ^ cell.group - j) % 2 ^ cell.group) (j % 2 ^ cell.group) (get_or cell.words j no_word) (ground_turn cell.incoming (2 ^ cell.group) j (omega arith)).0 (c.keep j h));
            width = c.width ∙ width_by_extremes (weights cell.words);
          },
          c.rest,
        );
      }

-- ---- the end

module _ (p : Place) where
  pub end_may : Coming p [] [] → May p (End (p.bits + total_bits []))
  unfolding KeepsCellsBy kind_of weights lowest highest keeps_rules total_bits sum_of
  end_may c =
      record {
        width = width_here p (sym c.count) ∙ eq-eqb p.width (weight_width (p.least ∷ p.greatest ∷ [])) c.width;
        allowed = due_end p c.begun (sym c.count) c.rest;
        rules = eq-eqb (p.bits + 0) p.bits (add-zero p.bits);
      }

  pub end_back : (bits : ℕ) → May p (End bits) → Coming p [] [] × (bits ≡ p.bits)
  unfolding KeepsCellsBy kind_of Tells weights lowest highest keeps_rules
  end_back bits m =
      let facts = told p reader.end m.allowed in (
        record {
          begun = facts.0;
          count = sym facts.1.0;
          keep = (λ j h. absurd (omega arith));
          width = eqb-true p.width (weight_width (p.least ∷ p.greatest ∷ [])) (sym (width_here p facts.1.0) ∙ m.width);
          rest = facts.1.1;
        },
        eqb-true bits p.bits m.rules,
      )

-- ---- the commands, one by one

word_first : (p : Place) (word : cells.Word) (words : List cells.Word) (below : List cells.Cell) → coming p (word ∷ words) below ≡ word_command word ∷ coming (place_after p (word_command word)) words below
unfolding coming place_after word_command
word_first p word words below = refl

cell_first : (p : Place) (cell : cells.Cell) (below : List cells.Cell) → coming p [] (cell ∷ below) ≡ cell_command cell ∷ coming (place_after p (cell_command cell)) cell.words below
unfolding coming place_after cell_commands flat_map total_bits bits_of sum_of
cell_first p cell below =
    ap (λ l. cell_command cell ∷ l)
    (append_assoc (map word_command cell.words) (flat_map cell_commands below) (End (p.bits + (bits_of cell + total_bits below)) ∷ [])
    ∙ ap (λ n. map word_command cell.words ++ (flat_map cell_commands below ++ End n ∷ [])) (sym (add_assoc p.bits (bits_of cell) (total_bits below))))

-- ---- from words and cells to commands that are allowed

abbrev Follow : List cells.Cell → Type 0
Follow below = (p : Place) → Coming p [] below → Allowed p (coming p [] below)

words_allowed : (below : List cells.Cell) → Follow below → (words : List cells.Word) (p : Place) → Coming p words below → Allowed p (coming p words below)
unfolding is_end word_command
words_allowed below follow [] p c = follow p c
words_allowed below follow (word ∷ words) p c =
    rw (word_first p word words below)
    (more (word_command word) refl (word_may p word words below c) (words_allowed below follow words (place_after p (word_command word)) (word_coming p word words below c)))

pub cells_allowed : (below : List cells.Cell) → Follow below
unfolding is_end coming flat_map
cells_allowed [] p c = last (End (p.bits + total_bits [])) refl (end_may p c)
cells_allowed (cell ∷ below) p c =
    rw (cell_first p cell below)
    (more (cell_command cell) refl (cell_may p cell below c) (words_allowed below (cells_allowed below) cell.words (place_after p (cell_command cell)) (cell_coming p cell below c)))

-- ---- from commands that are allowed to words and cells

-- Commands that are those of words and cells which keep the rules.
pub record Comes (p : Place) (commands : List Command) : Type 0 where
  pub words : List cells.Word
  pub below : List cells.Cell
  pub same : commands ≡ coming p words below
  pub keeps : Coming p words below

comes_last : (p : Place) (c : Command) → is_end c ≡ true → May p c → Comes p (c ∷ [])
unfolding is_end coming flat_map total_bits sum_of
comes_last p (Table n offset) e m = absurd (false≢true e)
comes_last p (Cell group incoming outgoing width) e m = absurd (false≢true e)
comes_last p (Word class weight) e m = absurd (false≢true e)
comes_last p (End bits) e m =
    let ended = end_back p bits m in
    record { words = []; below = []; same = ap (λ n. End n ∷ []) (ended.1 ∙ sym (add-zero p.bits)); keeps = ended.0 }

comes_more : (p : Place) → (p.n ≡ 0 → ⊥) → (c : Command) (rest : List Command) → is_end c ≡ false → May p c → Comes (place_after p c) rest → Comes p (c ∷ rest)
unfolding is_end kind_of Tells word_command
comes_more p begun (Table n offset) rest e m later = absurd (begun (told p reader.table m.allowed))
comes_more p begun (Cell group incoming outgoing width) rest e m later =
    let cell : cells.Cell = record { group = group; incoming = incoming; outgoing = outgoing; width = width; words = later.words } in
    record {
      words = [];
      below = cell ∷ later.below;
      same = ap (λ l. cell_command cell ∷ l) later.same ∙ sym (cell_first p cell later.below);
      keeps = cell_back p cell later.below m later.keeps;
    }
comes_more p begun (Word class weight) rest e m later =
    let word : cells.Word = record { class = class; weight = weight } in
    record {
      words = word ∷ later.words;
      below = later.below;
      same = ap (λ l. word_command word ∷ l) later.same ∙ sym (word_first p word later.words later.below);
      keeps = word_back p word later.words later.below m later.keeps;
    }
comes_more p begun (End bits) rest e m later = absurd (false≢true (sym e))

-- Once the table command is read, it stays read.
still_begun : (p : Place) (c : Command) → (p.n ≡ 0 → ⊥) → May p c → (place_after p c).n ≡ 0 → ⊥
unfolding place_after kind_of Tells
still_begun p (Table n offset) begun m = absurd (begun (told p reader.table m.allowed))
still_begun p (Cell group incoming outgoing width) begun m = begun
still_begun p (Word class weight) begun m = begun
still_begun p (End bits) begun m = begun

pub allowed_comes : (p : Place) (commands : List Command) → (p.n ≡ 0 → ⊥) → Allowed p commands → Comes p commands
allowed_comes p commands begun (last c e m) = comes_last p c e m
allowed_comes p commands begun (more c {rest} e m later) = comes_more p begun c rest e m (allowed_comes (place_after p c) rest (still_begun p c begun m) later)
