-- `node_ranges::range_follows` meets its contract: what `==` tells of two ranges is what the definition tests.
use Rattle.std.proofs.Common.{◌≡◌, ◌&&◌, ◌∙◌, ap₂, ℤ, int_eq}
use Rattle.std.proofs.lemmas.Bool.Decides.{same_from_decides, Decides-int_eq}
use Rattle.std.proofs.Math.Path.{ap}
use Rattle.numbers.specs.Ranges.{eq_z}
use Rattle.numbers.proofs.Laws.Integers.{eq_z_true, eq_z_refl}
use Rattle.diagram.specs.Inner.Edges.{range_follows}
use Rattle.diagram.specs.declared.Range.{Range}
use Rattle.diagram.proofs.Laws.NodeRanges.{range_record}
use Rattle.walker.proofs.node_ranges.range_follows.Goals as goal

-- `==` of two numbers is their test.
equal_test : (a b : ℤ) → int_eq a b ≡ eq_z a b
equal_test a b = same_from_decides (int_eq a b) (eq_z a b) (Decides-int_eq a b) (eq_z_true a b, λ e. ap (λ z. eq_z z b) e ∙ eq_z_refl b)

pub returns : goal.returns
unfolding range_follows
returns c =
    let told = c.range_at.result in
    let found = c.range_from.result in
    c.eq.ensures
    ∙ ap₂ (λ a b. a && b) (equal_test told.least found.least) (equal_test told.greatest found.greatest)
    ∙ ap₂ (λ (r s : Range). eq_z r.least s.least && eq_z r.greatest s.greatest) (c.range_at.ensures ∙ range_record c.args.records.now c.args.k c.requires.here.from_one) c.range_from.ensures
