-- `sizes::sizes_fit` meets its contract: each size is tested in turn, then the rows.
use Rattle.std.specs.Prelude.{◌-◌, ◌^◌, ◌≡◌, suc, eqb, true, false}
use Rattle.std.proofs.Common.{rules, sym, ◌∙◌, ap, add-one, true≢false}
use Rattle.std.proofs.lemmas.Iterator.{YieldsList-from_slice}
use Rattle.std.proofs.lemmas.Iterator.Search.{all_from_yields_List}
use borrow.Author.Tests.{tests, lt-leb, le-leb, eq-eqb, ne_eqb}
use Rattle.numbers.specs.Lists.{every}
use Rattle.numbers.specs.Ranges.{most_variables}
use Rattle.numbers.proofs.Laws.Lists.{every_all}
use Rattle.blocks.specs.Rows.{cut_place}
use Rattle.exports.specs.Classing.{sizes_fit}
use Rattle.exports.proofs.sizes.sizes_fit.Goals as goal
use Rattle.exports.proofs.sizes.sizes_fit.Goals.{then-values-power, else-values-power}

pub returns-then-n-gt-MOST_VARIABLES : goal.returns-then-n-gt-MOST_VARIABLES
unfolding sizes_fit most_variables
returns-then-n-gt-MOST_VARIABLES c = simp (lt-leb _ _ c.if-n-gt-MOST_VARIABLES.true)

pub returns-then-cuts-n : goal.returns-then-cuts-n
unfolding sizes_fit most_variables cut_place
returns-then-cuts-n c =
    let n = c.args.n in
    let rows = c.args.rows.now in
    let test = eqb (cut_place (suc n)) in
    let places : c.power.result - 1 ≡ cut_place (suc n) = ap (λ p. p - 1) (c.power.ensures ∙ ap (λ k. 2 ^ k) (add-one n)) in
    let others : c.all.result ≡ every test rows = all_from_yields_List test _ _ _ c.all.ensures.ran (YieldsList-from_slice rows cc) (λ x b q k. rw (sym places) (search (rules, tests))) ∙ sym (every_all test rows) in
    elim c.if-values-power.branch [
      | then-values-power w ↦
          let counts : eqb c.args.cuts (suc n) ≡ true = ap (eqb c.args.cuts) (sym (add-one n)) ∙ sym w.value-is ∙ c.if-cuts-n.true in
          simp (le-leb _ _ c.if-n-gt-MOST_VARIABLES.false, eq-eqb _ _ (w.if-values-power.true ∙ c.power-2.ensures), counts, others)
      | else-values-power w ↦ absurd (true≢false (sym c.if-cuts-n.true ∙ w.value-is ∙ ne_eqb _ _ w.if-values-power.false))
    ]

pub returns-else-cuts-n : goal.returns-else-cuts-n
unfolding sizes_fit most_variables
returns-else-cuts-n c =
    let n = c.args.n in
    c.if-cuts-n.false ∙ elim c.if-values-power.branch [
      | then-values-power w ↦
          let counts : eqb c.args.cuts (suc n) ≡ false = ap (eqb c.args.cuts) (sym (add-one n)) ∙ sym w.value-is ∙ c.if-cuts-n.false in
          simp (le-leb _ _ c.if-n-gt-MOST_VARIABLES.false, eq-eqb _ _ (w.if-values-power.true ∙ c.power-2.ensures), counts)
      | else-values-power w ↦ simp (le-leb _ _ c.if-n-gt-MOST_VARIABLES.false, ne_eqb _ _ (λ e. w.if-values-power.false (e ∙ sym c.power-2.ensures)))
    ]
