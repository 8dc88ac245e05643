-- `widths::rail_width` meets its contract: the length of the count less one.
use Prim.Native.Nat.{suc, ◌-◌}
use mathlib.Core.Path.{◌≡◌, refl, sym, ◌∙◌, ap}
use native.Mathlib.Omega.{arith}
use Rattle.numbers.specs.Lists.{least_from, least}
use Rattle.numbers.specs.Widths.{rail_width}
use Rattle.numbers.proofs.Laws.BitLength.{rail_width_bits}
use Rattle.numbers.proofs.widths.rail_width.Goals as goal

no_class : rail_width 0 ≡ 0
unfolding rail_width least least_from
no_class = refl

pub returns-then-count-eq0 : goal.returns-then-count-eq0
returns-then-count-eq0 c = sym (ap rail_width c.if-count-eq0.true ∙ no_class)

pub returns : goal.returns
returns c =
    let n = c.args.count in
    let some : suc (n - 1) ≡ n = omega arith in
    c.bit_length.ensures ∙ sym (rail_width_bits (n - 1)) ∙ ap rail_width some
