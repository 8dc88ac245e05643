-- `comparing::same_less` meets its contract.
use Rattle.std.proofs.Common.{rules, length, ◌-ℤ◌, ℤ, sym, ◌∙◌}
use Rattle.std.proofs.lemmas.Iterator.{YieldsList-from_slice, YieldsList-from_zip}
use Rattle.std.proofs.lemmas.Iterator.Search.{all_from_yields_List}
use borrow.Author.Tests.{tests, ne_eqb}
use Rattle.numbers.specs.Ranges.{eq_z}
use Rattle.numbers.proofs.Laws.Machine.{bits_equal}
use Rattle.blocks.specs.Inner.Layout.{less}
use Rattle.blocks.proofs.Laws.Comparing.{unlike_lengths, length_less, same_by_place, same_none}
use Rattle.blocks.proofs.comparing.same_less.Goals as goal

pub returns-then-is_empty : goal.returns-then-is_empty
returns-then-is_empty c =
    let a = c.args in
    c.is_empty-then-is_empty.ensures ∙ same_none a.constant a.left.now a.right.now (let e = sym c.is_empty.ensures ∙ c.if-is_empty.true in search (rules, tests))

pub returns-then-left-right : goal.returns-then-left-right
returns-then-left-right c =
    let a = c.args in
    all_from_yields_List (λ (p : ℤ × ℤ). eq_z (p.0 -ℤ p.1) a.constant) c.all.new.self _ _ c.all.ensures.ran (YieldsList-from_zip (YieldsList-from_slice a.left.now cc) (YieldsList-from_slice a.right.now cc)) (λ x b q k. (search (rules, tests), let f = c.ranges.constant in search (rules, bits_equal)))
    ∙ same_by_place a.constant a.left.now a.right.now c.if-left-right.true

pub returns-else-left-right : goal.returns-else-left-right
returns-else-left-right c =
    let a = c.args in
    let h = c.if-left-right.false in
    ne_eqb (length a.left.now) (length a.right.now) h ∙ sym (unlike_lengths (less a.constant a.left.now) a.right.now (λ e. h (sym (length_less a.constant a.left.now) ∙ e)))
