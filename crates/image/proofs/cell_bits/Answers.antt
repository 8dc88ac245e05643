-- `image::cell_bits` meets its contract.
use Prim.Native.Nat.{◌+◌, ◌*◌, ◌%◌, ◌^◌, ◌<◌}
use mathlib.Core.Path.{◌≡◌, ◌∙◌, ap, ap₂}
use native.Mathlib.Omega.{arith}
use mir.Facts.{Fits-of_lt}
use Rattle.numbers.specs.Ranges.{widest_address}
use Rattle.numbers.specs.Widths.{cell_bits}
use Rattle.numbers.proofs.Laws.Pieces.{shifted_one}
use Rattle.image.specs.Inner.Bounds.{most_bits}
use Rattle.image.specs.Reader.{most_classes}
use Rattle.image.proofs.Laws.Bounds.{rail_narrow, cell_bits_most}
use Rattle.image.proofs.cell_bits.Goals as goal
use Rattle.image.proofs.cell_bits.Goals.{After-rail_width, After-rail_width-2}

-- The address is narrower than a machine word.
narrow : (c : After-rail_width) → c.rail_width.result + c.args.group < 64
unfolding widest_address
narrow c = let e = c.rail_width.ensures in let h = c.requires.address in omega arith

product : (c : After-rail_width-2)
    → (1 * 2 ^ (c.rail_width.result + c.args.group)) % 18446744073709551616 * (c.rail_width-2.result + c.args.width)
    ≡ cell_bits c.args.incoming c.args.group c.args.outgoing c.args.width
unfolding cell_bits
product c =
    let a = c.args in
    ap₂ ◌*◌
    (shifted_one (c.rail_width.result + a.group) (narrow (goal.at.overflow_add-word c).After-rail_width) ∙ ap (λ w. 2 ^ (w + a.group)) c.rail_width.ensures)
    (ap (λ w. w + a.width) c.rail_width-2.ensures)

pub overflow_cast-incoming : goal.overflow_cast-incoming
unfolding most_classes
overflow_cast-incoming c = Fits-of_lt (let h = c.requires.entering in omega arith)

pub overflow_add-address : goal.overflow_add-address
overflow_add-address c = Fits-of_lt (let h = narrow c in omega arith)

pub overflow_cast-outgoing : goal.overflow_cast-outgoing
unfolding most_classes
overflow_cast-outgoing c = Fits-of_lt (let h = c.requires.leaving in omega arith)

pub overflow_add-word : goal.overflow_add-word
overflow_add-word c = Fits-of_lt (let h = rail_narrow c.args.outgoing c.requires.leaving in let e = c.rail_width-2.ensures in let w = c.requires.narrow in omega arith)

pub overflow_shl-result : goal.overflow_shl-result
overflow_shl-result c = narrow (goal.at.overflow_shl-result c).After-rail_width

pub overflow_mul-result : goal.overflow_mul-result
unfolding most_bits
overflow_mul-result c = rw (product c) (Fits-of_lt (let m = cell_bits_most c.args.incoming c.args.group c.args.outgoing c.args.width c.requires in omega arith))

pub returns : goal.returns
returns c = product c
