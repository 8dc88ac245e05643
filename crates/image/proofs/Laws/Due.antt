-- Which command is due at a place.
use Rattle.std.specs.Prelude.{ℕ, ◌+◌, ◌≤◌, ◌≡◌, true, false, List, eqb, length}
use Rattle.std.proofs.Math.Path.{refl}
use Rattle.std.proofs.Common.{sym, subst, arith}
use Rattle.std.proofs.lemmas.Bool.{false≢true}
use borrow.Author.Tests.{eq-eqb, ne_eqb, eqb-true, eqb-false}
use Rattle.numbers.proofs.Laws.Bools.{yes_or_no}
use Rattle.image.specs.Inner.Kinds.{is_end}
use Rattle.image.specs.Reader.{Due, table, cell, word, end, due, ends_well}
use Rattle.image.specs.declared.Command.{Command}
use Rattle.image.specs.declared.Command.TheVariants.{Table, Cell, Word, End}
use Rattle.image.specs.declared.Place.{Place}

module _ (p : Place) where
  pub due_table : p.n ≡ 0 → due p ≡ table
  unfolding due
  due_table h = rw (eq-eqb p.n 0 h, due)

  pub due_word : (p.n ≡ 0 → ⊥) → (p.words ≡ 0 → ⊥) → due p ≡ word
  unfolding due
  due_word h w = rw (ne_eqb p.n 0 h, due, ne_eqb p.words 0 w)

  pub due_cell : (p.n ≡ 0 → ⊥) → p.words ≡ 0 → (p.left ≡ 0 → ⊥) → due p ≡ cell
  unfolding due
  due_cell h w l = rw (ne_eqb p.n 0 h, due, eq-eqb p.words 0 w, ne_eqb p.left 0 l)

  pub due_end : (p.n ≡ 0 → ⊥) → p.words ≡ 0 → p.left ≡ 0 → due p ≡ end
  unfolding due
  due_end h w l = rw (ne_eqb p.n 0 h, due, eq-eqb p.words 0 w, eq-eqb p.left 0 l)

-- Only after the last command is the end of the image judged.
module _ (image : List ℕ) (p : Place) where
  pub ends_well_last : (c : Command) → is_end c ≡ true → ends_well image p c ≡ eqb (length image) (p.at + 5)
  unfolding ends_well is_end
  ends_well_last (Table n offset) h = absurd (false≢true h)
  ends_well_last (Cell group incoming outgoing width) h = absurd (false≢true h)
  ends_well_last (Word class weight) h = absurd (false≢true h)
  ends_well_last (End bits) h = refl

  pub ends_well_before : (c : Command) → is_end c ≡ false → ends_well image p c ≡ true
  unfolding ends_well is_end
  ends_well_before (Table n offset) h = refl
  ends_well_before (Cell group incoming outgoing width) h = refl
  ends_well_before (Word class weight) h = refl
  ends_well_before (End bits) h = absurd (false≢true (sym h))

-- What each due command tells of its place.
unfoldable pub Tells : Due → Place → Type 0
Tells table p = p.n ≡ 0
Tells cell p = (p.n ≡ 0 → ⊥) × ((p.words ≡ 0) × (1 ≤ p.left))
Tells word p = (p.n ≡ 0 → ⊥) × (1 ≤ p.words)
Tells end p = (p.n ≡ 0 → ⊥) × ((p.words ≡ 0) × (p.left ≡ 0))

pub due_tells : (p : Place) → Tells (due p) p
unfolding Tells
due_tells p =
    yes_or_no (eqb p.n 0)
    (λ e. rw (due_table p (eqb-true p.n 0 e)) (eqb-true p.n 0 e))
    (λ e. let n = eqb-false p.n 0 e in
    yes_or_no (eqb p.words 0)
    (λ f. let w = eqb-true p.words 0 f in
    yes_or_no (eqb p.left 0)
    (λ g. let l = eqb-true p.left 0 g in rw (due_end p n w l) (n, (w, l)))
    (λ g. let l = eqb-false p.left 0 g in rw (due_cell p n w l) (n, (w, omega arith))))
    (λ f. let w = eqb-false p.words 0 f in rw (due_word p n w) (n, omega arith)))

pub told : (p : Place) (d : Due) → due p ≡ d → Tells d p
told p d e = subst (λ d. Tells d p) e (due_tells p)

pub words_due : (p : Place) → due p ≡ word → 1 ≤ p.words
unfolding Tells
words_due p e = (told p word e).1
