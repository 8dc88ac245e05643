-- The classes of all cuts through C: the rows are filled where their sizes are right, and are left alone elsewhere.
use Rattle.std.specs.Prelude.{ℕ, suc, ◌^◌, ◌≡◌, Bool, ◌&&◌, cond, List, [], ◌∷◌, length, leb, eqb, ℤ}
use Rattle.numbers.specs.Lists.{every}
use Rattle.numbers.specs.Ranges.{most_variables}
use Rattle.blocks.specs.Rows.{all_numbers, all_firsts, all_counts, cut_place, all_tries, all_uses, all_use_rows}

-- n at most 12, 2^n values, a place for each cut's count, and in each other row one for each block of each cut.
unfoldable pub sizes_fit : ℕ → ℕ → ℕ → List ℕ → Bool
sizes_fit n values cuts rows =
    leb n most_variables
    && eqb values (2 ^ n)
    && eqb cuts (suc n)
    && every (eqb (cut_place (suc n))) rows

-- What is answered and left in the rows, given by what they held before.
pub record Classed (n : ℕ) (table : List ℤ) (classes firsts counts tried uses use_counts : List ℕ) (done : Bool) (classes' firsts' counts' tried' uses' use_counts' : List ℕ) : Type 0 where
  pub answered : done ≡ sizes_fit n (length table) (length counts) (length classes ∷ length firsts ∷ length tried ∷ length uses ∷ length use_counts ∷ [])
  pub numbered : classes' ≡ cond done (all_numbers n table) classes
  pub placed : firsts' ≡ cond done (all_firsts n table) firsts
  pub counted : counts' ≡ cond done (all_counts n table) counts
  pub searched : tried' ≡ cond done (all_tries n table) tried
  pub used : uses' ≡ cond done (all_uses n table) uses
  pub use_counted : use_counts' ≡ cond done (all_use_rows n table) use_counts
