-- The cuts, one by one.
use Rattle.std.specs.Prelude.{ℕ, suc, ◌+◌, ◌≤◌, ◌<◌, ◌≡◌, List, set}
use Rattle.std.proofs.Common.{sym, ◌∙◌, ap, ap₂, zero-add, arith}
use Rattle.numbers.specs.Lists.{numbers_from, padded}
use Rattle.numbers.proofs.Laws.Lists.{length_range, range_suc}
use Rattle.numbers.proofs.Laws.Padding.{set_padded}

-- The cuts listed so far, and one more.
pub list_next : (h : ℕ) → h < 13 → set (padded 13 0 (numbers_from 0 h)) h h ≡ padded 13 0 (numbers_from 0 (suc h))
list_next h small =
    let many = length_range 0 h in
    ap₂ (λ k a. set (padded 13 0 (numbers_from 0 h)) k a) (sym many) (sym (zero-add h))
    ∙ set_padded 0 13 (numbers_from 0 h) (0 + h) (rw many small)
    ∙ ap (padded 13 0) (sym (range_suc 0 h))

-- The last cut listed behind all before it.
pub list_last : (h last : ℕ) (cuts : List ℕ) → h ≤ last → last ≤ h → last ≤ 12 → cuts ≡ padded 13 0 (numbers_from 0 h) → set cuts h h ≡ padded 13 0 (numbers_from 0 (suc last))
list_last h last cuts up down small e = ap (λ row. set row h h) e ∙ list_next h (omega arith) ∙ ap (λ k. padded 13 0 (numbers_from 0 (suc k))) (let same : h ≡ last = omega arith in same)
