-- The length of an image, as the sum of its cells' lengths and cell by cell.
use Rattle.std.specs.Prelude.{ℕ, suc, ◌+◌, ◌*◌, ◌≤◌, ◌<◌, ◌≡◌, refl, List, [], ◌∷◌, map, length, get_or, take}
use Rattle.std.specs.List.{sum_by}
use Rattle.std.proofs.Common.{ap, ◌∙◌, add-one, take-suc, arith}
use Rattle.std.proofs.lemmas.List.Sums.{sum_by-cons}
use Rattle.numbers.specs.Lists.{sum_of}
use Rattle.numbers.proofs.Laws.Lists.{map_append}
use Rattle.numbers.proofs.Laws.Tallies.{sum_append}
use Rattle.cascade.specs.Plan.{no_cell}
use Rattle.cascade.specs.declared.Cell.{Cell}
use Rattle.compiler.specs.Inner.Lengths.{planned_bytes, planned_length, SmallCell, SmallCells}

-- The cells' bytes,
summed : (cells : List Cell) → sum_by planned_bytes cells ≡ sum_of (map planned_bytes cells)
unfolding sum_of
summed [] = refl
summed (cell ∷ cells) = sum_by-cons planned_bytes cell cells ∙ ap (λ rest. planned_bytes cell + rest) (summed cells)

-- and 11 around them.
pub measured : (cells : List Cell) → 11 + sum_by planned_bytes cells ≡ planned_length cells
unfolding planned_length
measured cells = let e = summed cells in omega arith

-- Small cells have few bytes each.
few_each : (cells : List Cell) → ((k : ℕ) → k < length cells → SmallCell (get_or cells k no_cell)) → sum_by planned_bytes cells ≤ 28679 * length cells
unfolding planned_bytes
few_each [] each = omega arith
few_each (cell ∷ cells) each =
    let here = (each 0 (omega arith)).words in
    let rest = few_each cells (λ k l. each (suc k) (omega arith)) in
    let sum = sum_by-cons planned_bytes cell cells in
    omega arith

pub few_bytes : {cells : List Cell} → SmallCells cells → sum_by planned_bytes cells ≤ 344148
few_bytes {cells} s = let e = few_each cells s.each in let f = s.few in omega arith

-- The bytes of the first k cells, and 11 around them.
pub record MeasuredTo (cells : List Cell) (k total : ℕ) : Type 0 where
  pub inside : k ≤ length cells
  pub measured : total ≡ planned_length (take k cells)
  pub small : total ≤ 11 + 28679 * k

module _ {cells : List Cell} (r : SmallCells cells) where
  pub none_measured : MeasuredTo cells 0 11
  unfolding planned_length sum_of
  none_measured = record { inside = omega arith; measured = refl; small = omega arith }

  pub one_measured : (k total : ℕ) → MeasuredTo cells k total → k < length cells → MeasuredTo cells (k + 1) (total + planned_bytes (get_or cells k no_cell))
  unfolding planned_length planned_bytes sum_of
  one_measured k total s l = record {
    inside = omega arith;
    measured = let m = s.measured in let e = ap (λ j. sum_of (map planned_bytes (take j cells))) (add-one k) ∙ ap (λ c. sum_of (map planned_bytes c)) (take-suc cells k no_cell l) ∙ ap sum_of (map_append planned_bytes (take k cells) (get_or cells k no_cell ∷ [])) ∙ sum_append (map planned_bytes (take k cells)) (planned_bytes (get_or cells k no_cell) ∷ []) in omega arith;
    small = let w = (r.each k l).words in let m = s.small in omega arith;
  }
