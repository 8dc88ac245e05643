-- `narrow_cells::furthest_cut` meets its contract.
use Rattle.std.proofs.Common.{rules, ◌≡◌, ◌∙◌, ◌<◌, ◌≤◌, arith}
use Rattle.std.specs.Prelude.{ℕ, Option, Some, None}
use Rattle.std.specs.Option.{MatchOption, unwrap_or}
use Rattle.std.proofs.lemmas.Iterator.{first_from_Range}
use borrow.Author.Tests.{tests}
use Rattle.reach.specs.Inner.Narrowest.{furthest}
use Rattle.reach.specs.Inner.NarrowCells.{narrowest_in}
use Rattle.reach.proofs.Laws.Narrowest.{furthest_is}
use Rattle.reach.proofs.narrow_cells.furthest_cut.Goals as goal

-- The first cut that is too wide, or the last.
first_wide : (address : ℕ → ℕ) (limit n : ℕ) (r : Option ℕ) → MatchOption r ((k : ℕ) → 0 ≤ k → k < n → address k ≤ limit) (λ i. (0 ≤ i) × (i < n) × (limit < address i) × ((k : ℕ) → 0 ≤ k → k < i → address k ≤ limit)) → unwrap_or r n ≡ furthest address limit n
first_wide address limit n None narrow = furthest_is address limit n n (omega arith) (λ k l. narrow k (omega arith) l) (λ l. absurd (omega arith))
first_wide address limit n (Some h) f = furthest_is address limit n h (let l = f.1 in omega arith) (λ k l. f.3 k (omega arith) l) (λ l. f.2)

pub returns : goal.returns
returns c =
    let address = narrowest_in c.args.cuts.now.counts.now in
    c.unwrap_or.ensures
    ∙ first_wide address c.args.limit c.args.cuts.now.n c.find.result
    (first_from_Range _ _ _ _ (λ k. c.args.limit < address k) (λ k. address k ≤ c.args.limit) c.find.ensures.ran (λ x q k. search (rules, tests)) (λ x q k. search (rules, tests)))
