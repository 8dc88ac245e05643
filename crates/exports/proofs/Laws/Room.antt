-- What sizes that fit say of the table and its rows.
use Rattle.std.specs.Prelude.{ℕ, suc, ◌^◌, ◌<◌, ◌≡◌, Bool, true, ◌&&◌, List, [], ◌∷◌, length, get_or, leb, eqb, ℤ}
use Rattle.std.proofs.Common.{sym, ◌∙◌, arith, leb-true, eqb-true}
use Rattle.numbers.specs.Lists.{every}
use Rattle.numbers.specs.Ranges.{most_variables}
use Rattle.numbers.proofs.Laws.Bools.{both}
use Rattle.numbers.proofs.Laws.Lists.{every_at}
use Rattle.blocks.specs.Rows.{cut_place}
use Rattle.blocks.specs.Inner.Layout.{CutsRoom}
use Rattle.classes.specs.Inner.Searched.{SearchRoom}
use Rattle.exports.specs.Classing.{sizes_fit}

-- Sizes that fit are room for the classes of all cuts.
pub sizes_room : (n : ℕ) (table : List ℤ) (classes firsts counts tried uses use_counts : List ℕ) {fits : Bool} → fits ≡ sizes_fit n (length table) (length counts) (length classes ∷ length firsts ∷ length tried ∷ length uses ∷ length use_counts ∷ []) → fits ≡ true
    → (CutsRoom n table classes firsts × SearchRoom n tried uses use_counts) × (length counts ≡ suc n)
unfolding sizes_fit
sizes_room n table classes firsts counts tried uses use_counts told fits =
    let variables = leb n most_variables in
    let whole = eqb (length table) (2 ^ n) in
    let count_row = eqb (length counts) (suc n) in
    let rows = length classes ∷ length firsts ∷ length tried ∷ length uses ∷ length use_counts ∷ [] in
    let a = both (variables && whole && count_row) (every (eqb (cut_place (suc n))) rows) (sym told ∙ fits) in
    let b = both (variables && whole) count_row a.0 in
    let d = both variables whole b.0 in
    let row : (j : ℕ) → j < 5 → get_or rows j 0 ≡ cut_place (suc n) = λ j l. sym (eqb-true (cut_place (suc n)) (get_or rows j 0) (every_at (eqb (cut_place (suc n))) rows 0 a.1 j l)) in (
      (
        record {
          variables = leb-true n most_variables d.0;
          whole = eqb-true (length table) (2 ^ n) d.1;
          class_places = row 0 (omega arith);
          first_places = row 1 (omega arith);
        },
        record { tried_places = row 2 (omega arith); uses_places = row 3 (omega arith); use_count_places = row 4 (omega arith) },
      ),
      eqb-true (length counts) (suc n) b.1,
    )
