-- The words of a planned cell, written one behind the other.
use Rattle.std.specs.Prelude.{ℕ, ◌+◌, ◌*◌, ◌%◌, ◌^◌, ◌≤◌, ◌<◌, ◌≡◌, length, get_or, take, ℤ}
use Rattle.std.proofs.Common.{◌∙◌, add-one, arith, take-suc, length-take-le, pow_mono, sym, ap, List, [], ◌∷◌, ◌++◌, map, append-nil}
use mathlib.Core.List.{flat_map}
use Rattle.std.proofs.Math.Seq.{take-length}
use Rattle.numbers.specs.Lists.{overwritten}
use Rattle.numbers.proofs.Laws.Lists.{map_append}
use Rattle.numbers.proofs.Laws.Pieces.{shifted_one}
use Rattle.numbers.proofs.Laws.Rows.{overwritten_none}
use Rattle.numbers.proofs.Laws.Selections.{flat_map_append}
use Rattle.blocks.specs.Rows.{all_firsts}
use Rattle.diagram.specs.Accepted.{Accepted}
use Rattle.image.specs.Cells.{Word}
use Rattle.image.specs.Commands.{command_bytes, word_command}
use Rattle.image.specs.WellFormed.{no_word}
use Rattle.cascade.specs.Cascade.{words_of, cell_of}
use Rattle.cascade.specs.Inner.Words.{cell_word, WordReady}
use Rattle.cascade.proofs.Laws.Cells.{variables_most, cell_words, cell_width_most}
use Rattle.cascade.proofs.Laws.Lengths.{words_length, cell_words_most}
use Rattle.cascade.specs.declared.Cell.{Cell as PlanCell}
use Rattle.compiler.specs.Inner.Lengths.{SmallCell}
use Rattle.compiler.specs.Inner.WordWriting.{word_bytes, CellPlanned}
use Rattle.numbers.proofs.Laws.Written.{written_behind, length_kept}

-- ---- a planned cell

module _ {n h : ℕ} {table : List ℤ} {cell : PlanCell} (p : CellPlanned n h table cell) where
  open p use {ends, entering, wide}

  -- So many words it has.
  pub words_are : length (cell_of n table h cell.group).words ≡ cell.incoming * 2 ^ cell.group
  unfolding cell_of
  words_are = cell_words n table h cell.group ∙ ap (λ k. k * 2 ^ cell.group) (sym entering)

  module _ (a : Accepted n table) where
    -- Its group, its width and the number of its words are small.
    pub group_most : cell.group ≤ 12
    group_most = let e = ends in let m = variables_most n table a in omega arith

    pub width_most : cell.width ≤ 25
    width_most = rw wide (cell_width_most n table a h cell.group ends)

    pub words_most : cell.incoming * 2 ^ cell.group ≤ 4096
    words_most =
        let e = ends in
        let m = variables_most n table a in
        let w = words_are in
        let l = cell_words_most n table a h cell.group e in
        omega (arith, pow_mono {i = h + cell.group} {j = 12} (omega arith))

    -- The number of its words, as it is worked out.
    pub count_is : cell.incoming * (1 * 2 ^ cell.group % 18446744073709551616) ≡ cell.incoming * 2 ^ cell.group
    count_is = ap (λ k. cell.incoming * k) (shifted_one cell.group (let m = group_most in omega arith))

    pub small : SmallCell cell
    small = record { group = group_most; words = words_most }

    -- Each of its words can be read.
    pub word_ready : {first_row : List ℕ} → first_row ≡ all_firsts n table → (k : ℕ) → k < cell.incoming * 2 ^ cell.group → WordReady n h cell.group k table first_row
    unfolding cell_of
    word_ready placed k l = record { admitted = a; ends = ends; word = rw entering at l; placed = placed }

-- ---- the words so far

-- The bytes of words, with one more.
word_bytes_snoc : (words : List Word) (word : Word) → word_bytes (words ++ word ∷ []) ≡ word_bytes words ++ command_bytes (word_command word)
unfolding word_bytes flat_map
word_bytes_snoc words word =
    ap (flat_map command_bytes) (map_append word_command words (word ∷ []))
    ∙ flat_map_append command_bytes (map word_command words) (word_command word ∷ [])
    ∙ ap (λ l. flat_map command_bytes (map word_command words) ++ l) (append-nil (command_bytes (word_command word)))

-- The first k words of a cell from cut h that takes g variables stand behind its command.
pub record WordsWritten (n : ℕ) (table : List ℤ) (h g k : ℕ) (tail tail' : List ℕ) : Type 0 where
  pub inside : k ≤ length (cell_of n table h g).words
  pub written : tail' ≡ overwritten tail 7 (word_bytes (take k (cell_of n table h g).words))

module _ (n : ℕ) (table : List ℤ) (h g : ℕ) (tail : List ℕ) where
  pub no_words : WordsWritten n table h g 0 tail tail
  unfolding word_bytes flat_map
  no_words = record { inside = omega arith; written = sym (overwritten_none tail 7) }

  module _ {k : ℕ} {tail' : List ℕ} (w : WordsWritten n table h g k tail tail') (room : 7 + 7 * length (cell_of n table h g).words ≤ length tail) where
    -- They take 7 bytes each.
    so_far : length (word_bytes (take k (cell_of n table h g).words)) ≡ 7 * k
    unfolding word_bytes
    so_far = words_length (take k (cell_of n table h g).words) ∙ ap (λ m. 7 * m) (length-take-le k (cell_of n table h g).words w.inside)

    pub words_kept : length tail' ≡ length tail
    words_kept = let s = so_far in let i = w.inside in length_kept tail 7 (word_bytes (take k (cell_of n table h g).words)) w.written (omega arith)

    -- One more.
    pub next_word : {tail'' : List ℕ} → k < length (cell_of n table h g).words → tail'' ≡ overwritten tail' (7 + 7 * k) (command_bytes (word_command (cell_word n table h g k))) → WordsWritten n table h g (k + 1) tail tail''
    unfolding cell_word cell_of
    next_word l e = rw (add-one k) (record {
      inside = omega arith;
      written =
          let s = so_far in
          let i = w.inside in
          written_behind tail 7 (word_bytes (take k (words_of n table h g))) w.written (7 + 7 * k) (command_bytes (word_command (cell_word n table h g k))) e (omega arith) (omega arith)
          ∙ ap (overwritten tail 7) (sym (ap word_bytes (take-suc (words_of n table h g) k no_word l) ∙ word_bytes_snoc (take k (words_of n table h g)) (get_or (words_of n table h g) k no_word)));
    })

    -- All of them.
    pub all_words : k ≡ length (cell_of n table h g).words → tail' ≡ overwritten tail 7 (word_bytes (cell_of n table h g).words)
    all_words e = w.written ∙ ap (λ l. overwritten tail 7 (word_bytes l)) (ap (λ m. take m (cell_of n table h g).words) e ∙ take-length (cell_of n table h g).words)
