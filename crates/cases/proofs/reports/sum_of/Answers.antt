-- `reports::sum_of` meets its contract: the product and the sum fit 64 bits.
use Rattle.std.proofs.Common.{rules, pos, ◌+ℤ◌, ◌*ℤ◌, ◌∙◌, ap₂, to_z-of_z, SFits, w32, w64, to_z, of_z}
use borrow.Author.Rules.{sfits_of}
use Rattle.cases.specs.ReportCases.{sum_of}
use Rattle.cases.proofs.Laws.ReportCases.{product_fits, sum_fits}
use Rattle.cases.proofs.reports.sum_of.Goals as goal

pub returns : goal.returns
unfolding sum_of
returns c =
    let h : SFits w32 c.number_at-high.result = sfits_of c.number_at-high.type_inv in
    let l : SFits w32 c.number_at-low.result = sfits_of c.number_at-low.type_inv in
    let product = product_fits h in
    let sum = sum_fits h l in
    ap₂ (λ y z. to_z w64 (of_z w64 (to_z w64 (of_z w64 (to_z w64 (of_z w64 y) *ℤ pos 1000000000)) +ℤ to_z w64 (of_z w64 z)))) (c.from.ensures ∙ to_z-of_z h) (c.from-2.ensures ∙ to_z-of_z l)
    ∙ search rules
    ∙ ap₂ (λ y z. y *ℤ pos 1000000000 +ℤ z) c.number_at-high.ensures c.number_at-low.ensures
