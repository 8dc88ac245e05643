-- `cuts::latest_class` meets its contract.
use Rattle.std.proofs.Common.{◌≡◌, ℕ, zero, suc, ◌-◌, ◌≤◌, refl, ◌∙◌, ap, arith, List, length, take, get_or, get_or-take, length-take-le}
use Rattle.std.proofs.lemmas.Option.{unwrap_or-slice_get}
use Rattle.std.specs.Option.{unwrap_or}
use Rattle.classes.specs.Inner.Noting.{latest_class}
use Rattle.classes.proofs.cuts.latest_class.Goals as goal

last_of_front : (row : List ℕ) (j : ℕ) → j ≤ length row → get_or (take j row) (length (take j row) - 1) 0 ≡ latest_class row j
unfolding latest_class
last_of_front row zero h = refl
last_of_front row (suc before) h =
    ap (λ k. get_or (take (suc before) row) k 0) (let l = length-take-le (suc before) row h in let e : length (take (suc before) row) - 1 ≡ before = omega arith in e)
    ∙ get_or-take (suc before) row before 0 (omega arith)

pub returns : goal.returns
returns c =
    let a = c.args in
    let front = take a.j a.classes.now in
    c.unwrap_or.ensures
    ∙ ap (λ o. unwrap_or o 0) (c.copied.ensures ∙ c.last.ensures.value)
    ∙ unwrap_or-slice_get front (length front - 1) 0
    ∙ last_of_front a.classes.now a.j c.requires
