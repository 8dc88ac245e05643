-- `fronts::holds` meets its contract.
use borrow.Author.Tests.{tests}
use Rattle.std.proofs.Common.{rules, ◌≡◌, ◌&&◌, sym, ap, ◌∙◌, nat_le, length, get_or}
use Rattle.std.proofs.lemmas.Iterator.{YieldsList-from_slice}
use Rattle.std.proofs.lemmas.Iterator.Search.{all_from_yields_List}
use Rattle.std.specs.List.{list_all}
use Rattle.cases.proofs.Laws.Rows.{agrees, placed, YieldsList-from_enumerate, all_agree}
use Rattle.cases.proofs.fronts.holds.Goals as goal
use Rattle.cases.proofs.fronts.holds.Goals.{then-all, else-all}

pub returns : goal.returns
unfolding agrees
returns g c = λ left right told.
    let a = c.args in
    let ran : c.all.result ≡ list_all (agrees left right a.lent a.front.now) (placed 0 a.row.now) =
    all_from_yields_List (agrees left right a.lent a.front.now) _ _ _ c.all.ensures.ran (YieldsList-from_enumerate a.row.now (YieldsList-from_slice a.row.now cc) cc)
    (λ x b q k. (search (rules, tests), (let t = told x.1.now (get_or a.front.now x.0 a.lent) b in search (rules, tests)))) in
    let rest = nat_le (length a.front.now) (length a.row.now) in
    elim c.if-all.branch [
      | then-all w ↦ w.result-is ∙ ap (λ b. b && rest) (sym w.if-all.true ∙ ran)
      | else-all w ↦ w.result-is ∙ w.if-all.false ∙ ap (λ b. b && rest) (sym w.if-all.false ∙ ran)
    ]
    ∙ all_agree left right a.lent a.row.now a.front.now
