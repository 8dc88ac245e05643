-- `edges::edges_fit` meets its contract, test by test.
use Rattle.std.proofs.Common.{◌≡◌, ◌-◌, Bool, true, false, ◌&&◌, sym, ◌∙◌, refl, ap, pos, w32, to_z-of_z}
use borrow.Author.Rules.{sfits_of}
use Rattle.numbers.specs.Ranges.{within, is_weight}
use Rattle.diagram.specs.Walk.{child_fits, variable_at, low_at, high_at, weight_at, edges_fit}
use Rattle.walker.proofs.edges.edges_fit.Goals as goal
use Rattle.walker.proofs.edges.edges_fit.Goals.{Joined-is_below, Joined-child_fits, then-is_below, else-is_below, then-child_fits, else-child_fits}

-- A test that says a, and one behind it that says b where the first passes.
passed : (a b : Bool) {test value : Bool} → test ≡ a → test ≡ true → value ≡ b → value ≡ a && b
passed a b e h k = k ∙ sym (ap (λ t. t && b) (sym e ∙ h))

failed : (a b : Bool) {test value : Bool} → test ≡ a → test ≡ false → value ≡ test → value ≡ a && b
failed a b e h k = k ∙ h ∙ sym (ap (λ t. t && b) (sym e ∙ h))

-- The variable and the lower child.
two : (c : Joined-is_below) → c.if-is_below.value ≡ (let a = c.args in within (pos 0) (pos (a.n - 1)) (variable_at a.records.now a.k) && child_fits a.records.now a.k (low_at a.records.now a.k))
unfolding variable_at low_at
two c =
    let a = c.args in
    let variable = c.is_below.ensures ∙ ap (within (pos 0) (pos (a.n - 1))) (to_z-of_z {w = w32} (sfits_of c.number_at.type_inv) ∙ c.number_at.ensures) in
    elim c.if-is_below.branch [
      | then-is_below w ↦ passed _ _ variable w.if-is_below.true (w.value-is ∙ w.child_fits.ensures ∙ ap (child_fits a.records.now a.k) (to_z-of_z {w = w32} (sfits_of w.number_at-then-is_below.type_inv) ∙ w.number_at-then-is_below.ensures))
      | else-is_below w ↦ failed _ _ variable w.if-is_below.false w.value-is
    ]

-- The upper child as well.
three : (c : Joined-child_fits) (front : Bool) → c.if-is_below.value ≡ front → c.if-child_fits.value ≡ (let a = c.args in front && child_fits a.records.now a.k (high_at a.records.now a.k))
unfolding high_at
three c front before =
    let a = c.args in
    elim c.if-child_fits.branch [
      | then-child_fits w ↦ passed _ _ before w.if-child_fits.true (w.value-is ∙ w.child_fits-then-child_fits.ensures ∙ ap (child_fits a.records.now a.k) (to_z-of_z {w = w32} (sfits_of w.number_at-then-child_fits.type_inv) ∙ w.number_at-then-child_fits.ensures))
      | else-child_fits w ↦ failed _ _ before w.if-child_fits.false w.value-is
    ]

pub returns-then-child_fits-2 : goal.returns-then-child_fits-2
unfolding edges_fit weight_at
returns-then-child_fits-2 c =
    let d = goal.at.returns-then-child_fits-2 c in
    passed _ _ (three d.Joined-child_fits _ (two d.Joined-is_below)) c.if-child_fits-2.true
    (c.is_weight.ensures ∙ ap is_weight (to_z-of_z {w = w32} (sfits_of c.number_at-then-child_fits-2.type_inv) ∙ c.number_at-then-child_fits-2.ensures))

pub returns-else-child_fits-2 : goal.returns-else-child_fits-2
unfolding edges_fit
returns-else-child_fits-2 c =
    let d = goal.at.returns-else-child_fits-2 c in
    failed _ _ (three d.Joined-child_fits _ (two d.Joined-is_below)) c.if-child_fits-2.false refl
