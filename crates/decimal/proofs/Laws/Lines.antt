-- The words of the first line stand in front of all others.
use Rattle.std.specs.Prelude.{ℕ, suc, ◌≤◌, ◌≡◌, Bool, true, false}
use Rattle.std.proofs.Math.Path.{refl, ap}
use Rattle.std.proofs.Common.{sym, ◌∙◌, ap₂, true≢false, arith, ne_eqb}
use Rattle.std.proofs.Math.Bool.{not}
use mathlib.Core.List.{List, [], ◌∷◌, ◌++◌, map}
use Rattle.std.proofs.lemmas.Bool.{not-true}
use Rattle.numbers.specs.Lists.{every, keep}
use Rattle.numbers.proofs.Laws.Bools.{yes_or_no, both, and_both}
use Rattle.numbers.proofs.Laws.Selections.{keep_passed, keep_failed}
use Rattle.lines.specs.Reading.{pieces}
use Rattle.decimal.specs.Words.{is_newline, is_blank, is_some, Word, line_words, lines_words, words}
use Rattle.decimal.specs.Conditions.{is_first, is_later, first_words, later_words}

-- ---- tests of every element

module _ {A : Type 0} (test : A → Bool) where
  every_append : (left right : List A) → every test left ≡ true → every test right ≡ true → every test (left ++ right) ≡ true
  unfolding every
  every_append [] right l r = r
  every_append (a ∷ left) right l r =
      let parts = both (test a) (every test left) l in
      and_both (test a) (every test (left ++ right)) parts.0 (every_append left right parts.1 r)

  -- What is kept passes.
  every_kept : (l : List A) → every test (keep test l) ≡ true
  unfolding every keep
  every_kept [] = refl
  every_kept (a ∷ l) =
      yes_or_no (test a)
      (λ e. rw (keep_passed test a l e) (and_both (test a) (every test (keep test l)) e (every_kept l)))
      (λ e. rw (keep_failed test a l e) (every_kept l))

  -- All are kept where all pass.
  keep_every : (l : List A) → every test l ≡ true → keep test l ≡ l
  unfolding every keep
  keep_every [] e = refl
  keep_every (a ∷ l) e = let parts = both (test a) (every test l) e in keep_passed test a l parts.0 ∙ ap (λ kept. a ∷ kept) (keep_every l parts.1)

  -- None is kept where all fail.
  keep_none_of : (l : List A) → every (λ a. not (test a)) l ≡ true → keep test l ≡ []
  unfolding every keep
  keep_none_of [] e = refl
  keep_none_of (a ∷ l) e = let parts = both (not (test a)) (every (λ a. not (test a)) l) e in keep_failed test a l (not-true (test a) parts.0) ∙ keep_none_of l parts.1

-- ---- the first line

-- A list of words in which those of the first line come first.
abbrev Ordered : List Word → Type 0
Ordered [] = Unit {0}
Ordered (word ∷ more) = (is_first word ≡ false → every is_later more ≡ true) × Ordered more

ordered_later : (later : List Word) → every is_later later ≡ true → Ordered later
unfolding every
ordered_later [] e = tt
ordered_later (word ∷ more) e = let parts = both (is_later word) (every is_later more) e in (λ _. parts.1, ordered_later more parts.1)

ordered_first : (bytes : List (List ℕ)) (later : List Word) → Ordered later → Ordered (map (λ piece. record { line = 1; bytes = piece }) bytes ++ later)
unfolding is_first
ordered_first [] later o = o
ordered_first (piece ∷ more) later o = (λ e. absurd (true≢false e), ordered_first more later o)

-- Lines after the first have none of its words.
later_lines : (number : ℕ) (lines : List (List ℕ)) → 2 ≤ number → every is_later (lines_words number lines) ≡ true
unfolding lines_words line_words every is_later is_first
later_lines number [] l = refl
later_lines number (line ∷ lines) l = every_append is_later (line_words number line) (lines_words (suc number) lines) (one_line (keep is_some (pieces is_blank line))) (later_lines (suc number) lines (omega arith))
  where
    one_line : (bytes : List (List ℕ)) → every is_later (map (λ piece. record { line = number; bytes = piece }) bytes) ≡ true
    one_line [] = refl
    one_line (piece ∷ more) = and_both (is_later (record { line = number; bytes = piece })) (every is_later (map (λ piece. record { line = number; bytes = piece }) more)) (below piece) (one_line more)
      where
        below : (piece : List ℕ) → is_later (record { line = number; bytes = piece }) ≡ true
        below piece = rw (ne_eqb number 1 (λ e. omega arith))

words_ordered : (text : List ℕ) → Ordered (words text)
unfolding words lines_words line_words
words_ordered text = by_lines (pieces is_newline text)
  where
    by_lines : (lines : List (List ℕ)) → Ordered (lines_words 1 lines)
    by_lines [] = tt
    by_lines (line ∷ lines) = ordered_first (keep is_some (pieces is_blank line)) (lines_words 2 lines) (ordered_later (lines_words 2 lines) (later_lines 2 lines (omega arith)))

ordered_parted : (list : List Word) → Ordered list → list ≡ keep is_first list ++ keep is_later list
unfolding keep every is_later
ordered_parted [] o = refl
ordered_parted (word ∷ more) o =
    yes_or_no (is_first word)
    (λ e. ap (λ rest. word ∷ rest) (ordered_parted more o.1) ∙ sym (ap₂ (λ first later. first ++ later) (keep_passed is_first word more e) (keep_failed is_later word more (later_not e))))
    (λ e. sym (ap₂ (λ first later. first ++ later) (keep_failed is_first word more e ∙ none (o.0 e)) (keep_passed is_later word more (later_is e) ∙ ap (λ rest. word ∷ rest) (keep_every is_later more (o.0 e)))))
  where
    later_not : is_first word ≡ true → is_later word ≡ false
    later_not e = ap not e

    later_is : is_first word ≡ false → is_later word ≡ true
    later_is e = ap not e

    none : every is_later more ≡ true → keep is_first more ≡ []
    none e = keep_none_of is_first more e

-- The words of the first line, and those below it.
pub words_parted : (text : List ℕ) → words text ≡ first_words text ++ later_words text
unfolding first_words later_words
words_parted text = ordered_parted (words text) (words_ordered text)

pub first_all : (text : List ℕ) → every is_first (first_words text) ≡ true
unfolding first_words
first_all text = every_kept is_first (words text)

pub later_all : (text : List ℕ) → every is_later (later_words text) ≡ true
unfolding later_words
later_all text = every_kept is_later (words text)
