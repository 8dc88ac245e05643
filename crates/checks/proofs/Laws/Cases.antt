-- Cases of no operation, and the rows of a case.
use Rattle.std.specs.Prelude.{ℕ, suc, ◌+◌, ◌-◌, ◌<◌, ◌≡◌, false, List, length, get_or, take, drop, leb, ℤ}
use Rattle.std.proofs.Common.{sym, ◌∙◌, take_all, leb-true, leb-false, eq-eqb, ne_eqb}
use Rattle.std.proofs.Math.Path.{ap, ap₂}
use native.Mathlib.Omega.{arith}
use Rattle.std.proofs.Math.ListN.{length-drop, get_or-eq_default}
use Rattle.numbers.proofs.Laws.Bools.{yes_or_no}
use Rattle.cases.specs.Rows.{size_at}
use Rattle.cases.proofs.Laws.Tests.{passed, failed}
use Rattle.checks.specs.Cases.{operations_pass, rows_pass, case_passes}

-- A case of the operation with this number.
pub own_operation : (numbers first second third : List ℤ) {operation k : ℕ} → operation ≡ size_at numbers 0 → operation ≡ k → get_or (operations_pass numbers first second third) k false ≡ rows_pass numbers first second third
unfolding rows_pass
own_operation numbers first second third is told = ap (λ m. get_or (operations_pass numbers first second third) m false) (sym told ∙ is)

-- A number up to m that is not m is below it.
below : {k m : ℕ} → k < suc m → (k ≡ m → ⊥) → k < m
below l h = omega arith

-- No case of another operation passes.
pub other_operation : (numbers first second third : List ℤ) (operation : ℕ) → (operation ≡ 1 → ⊥) → (operation ≡ 2 → ⊥) → (operation ≡ 3 → ⊥) → (operation ≡ 4 → ⊥) → (operation ≡ 5 → ⊥) → (operation ≡ 6 → ⊥) → (operation ≡ 7 → ⊥) → (operation ≡ 8 → ⊥) → (operation ≡ 9 → ⊥) → (operation ≡ 10 → ⊥) → (operation ≡ 11 → ⊥) → get_or (operations_pass numbers first second third) operation false ≡ false
unfolding operations_pass
other_operation numbers first second third operation a b c d e f g h i j k =
    yes_or_no (leb 12 operation)
    (λ t. get_or-eq_default (operations_pass numbers first second third) false (leb-true 12 operation t))
    (λ t. let none = below (below (below (below (below (below (below (below (below (below (below (leb-false 12 operation t) k) j) i) h) g) f) e) d) c) b) a in ap (λ m. get_or (operations_pass numbers first second third) m false) (let z : operation ≡ 0 = omega (none, arith) in z))

-- The places behind the rows of a case, as they were worked out.
module _ (row : List ℤ) {a b c : ℕ} (first : a ≡ size_at row 9) (second : b ≡ size_at row 10) (third : c ≡ size_at row 11) where
  -- The row has not as many numbers as it says.
  pub other_length : (length row ≡ 12 + a + b + c → ⊥) → case_passes row ≡ false
  unfolding case_passes
  other_length h = failed _ (ne_eqb (length row) (12 + size_at row 9 + size_at row 10 + size_at row 11) (λ e. h (omega arith)))

  -- Its rows decide.
  pub rows_judged : length row ≡ 12 + a + b + c → case_passes row ≡ rows_pass row (take (12 + a - 12) (drop 12 row)) (take (12 + a + b - (12 + a)) (drop (12 + a) row)) (take (length row - (12 + a + b)) (drop (12 + a + b) row))
  unfolding case_passes
  rows_judged e =
      passed _ (eq-eqb (length row) (12 + size_at row 9 + size_at row 10 + size_at row 11) (omega arith))
      ∙ ap₂ (λ m k. rows_pass row (take m (drop 12 row)) (take k (drop (12 + m) row)) (drop (12 + m + k) row)) (sym first) (sym second)
      ∙ ap₂ (λ m k. rows_pass row (take m (drop 12 row)) (take k (drop (12 + a) row)) (drop (12 + a + b) row)) (let p : a ≡ 12 + a - 12 = omega arith in p) (let p : b ≡ 12 + a + b - (12 + a) = omega arith in p)
      ∙ ap (λ l. rows_pass row (take (12 + a - 12) (drop 12 row)) (take (12 + a + b - (12 + a)) (drop (12 + a) row)) l) (sym (take_all (length row - (12 + a + b)) (drop (12 + a + b) row) (let l = length-drop (12 + a + b) row in omega arith)))
