-- What Plan leaves in the rows that it works in.
use Rattle.std.specs.Prelude.{ℕ, ◌^◌, ◌≤◌, ◌≡◌, true, false, ◌&&◌, List, ◌++◌, length, take, drop, eqb, ℤ}
use Rattle.std.proofs.Common.{sym, ◌∙◌, arith, eqb-true, eq-eqb, length-append, length-take-le}
use Rattle.numbers.specs.Answers.{Answer, accepted, refused}
use Rattle.numbers.specs.Lists.{every}
use Rattle.numbers.specs.Ranges.{is_variables, is_value, is_limit}
use Rattle.numbers.proofs.Laws.Bools.{yes_or_no, both}
use Rattle.diagram.specs.Accepted.{Accepted}
use Rattle.diagram.specs.Inner.Checks.{table_checks}
use Rattle.diagram.proofs.Laws.Builds.{table_passes_lem}
use Rattle.planner.specs.Inner.Rows.{is_classed, RowsFilled, RowsLeft}

-- A row whose front was lent and came back as long has it still.
pub front_back : (k : ℕ) (row front : List ℕ) → k ≤ length row → length front ≡ length (take k row) → k ≤ length (front ++ drop k row)
front_back k row front inside back = let l = length-take-le k row inside in rw length-append (omega arith)

module _ (n : ℕ) (table : List ℤ) (limit : ℕ) {class_row first_row count_row : List ℕ} where
  -- All checks pass, and the rows are filled.
  pub rows_filled : {class_row' first_row' count_row' : List ℕ} → is_classed n table limit ≡ true → RowsFilled n table class_row first_row count_row class_row' first_row' count_row' → RowsLeft n table limit class_row first_row count_row class_row' first_row' count_row'
  rows_filled e f = record { numbered = rw e f.numbered; placed = rw e f.placed; counted = rw e f.counted }

  -- One does not, and they stay.
  pub rows_kept : is_classed n table limit ≡ false → RowsLeft n table limit class_row first_row count_row class_row first_row count_row
  rows_kept e = record { numbered = rw e; placed = rw e; counted = rw e }

-- An accepted table and an admitted limit pass all checks.
pub classed : (n : ℕ) (table : List ℤ) (limit : ℕ) → Accepted n table → is_classed n table limit ≡ is_limit limit
unfolding is_classed
classed n table limit a = rw (a.variables, eq-eqb (length table) (2 ^ n) a.size, a.values)

-- A table that its checks refuse does not.
pub unclassed : (n : ℕ) (table : List ℤ) (limit number : ℕ) → table_checks n table ≡ refused number → is_classed n table limit ≡ false
unfolding is_classed table_checks
unclassed n table limit number e = yes_or_no (is_classed n table limit) passes (λ f. f)
  where
    never : ◌≡◌ {A = Answer Unit} (refused number) (accepted tt) → ⊥
    never p = let z : ◌≡◌ {A = ℕ} 0 1 = cc in omega arith

    passes : is_classed n table limit ≡ true → is_classed n table limit ≡ false
    passes t =
        let whole = eqb (length table) (2 ^ n) in
        let a = both (is_variables n && whole && every is_value table) (is_limit limit) t in
        let b = both (is_variables n && whole) (every is_value table) a.0 in
        let c = both (is_variables n) whole b.0 in
        absurd (never (sym e ∙ table_passes_lem n table (accepted tt) (record { variables = c.0; size = eqb-true (length table) (2 ^ n) c.1; values = b.1 })))
