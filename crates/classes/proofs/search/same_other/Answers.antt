-- `search::same_other` meets its contract: unlike last differences tell the blocks apart.
use Rattle.std.proofs.Common.{sym, ◌∙◌, ap, w64, of_z}
use borrow.Author.Tests.{ne_eqb}
use Rattle.blocks.proofs.Laws.Comparing.{unlike_last}
use Rattle.classes.proofs.search.same_other.Goals as goal

pub returns-else-last_difference : goal.returns-else-last_difference
returns-else-last_difference c =
    let a = c.args in
    ne_eqb _ _ c.if-last_difference.false
    ∙ sym (unlike_last a.left.now a.right.now (λ e. c.if-last_difference.false (ap (of_z w64) (c.last_difference.ensures ∙ e ∙ sym c.last_difference-2.ensures))))
