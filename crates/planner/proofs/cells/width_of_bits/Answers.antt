-- `cells::width_of_bits` meets its contract.
use Rattle.std.proofs.Common.{◌+◌, ◌-◌, ◌*◌, ◌/◌, ◌%◌, ◌^◌, ◌<◌, ◌≡◌, ◌∙◌, ap, ap₂, arith, pow_pos}
use mir.Facts.{Fits-of_lt}
use Rattle.numbers.specs.Widths.{rail_width}
use Rattle.numbers.proofs.Laws.Pieces.{shifted_one}
use Rattle.numbers.proofs.Laws.Widths.{rail_width_least}
use Rattle.planner.specs.Inner.Listed.{width_of_bits}
use Rattle.planner.proofs.cells.width_of_bits.Goals as goal
use Rattle.planner.proofs.cells.width_of_bits.Goals.{After-rail_width}

-- The address is narrower than a machine word.
narrow : (c : After-rail_width) → c.rail_width.result + c.args.group < 64
narrow c = let w = rail_width_least c.args.incoming 12 c.requires.entering in let e = c.rail_width.ensures in let g = c.requires.few in omega arith

addresses : (c : After-rail_width) → 1 * 2 ^ (c.rail_width.result + c.args.group) % 18446744073709551616 ≡ 2 ^ (rail_width c.args.incoming + c.args.group)
addresses c = shifted_one (c.rail_width.result + c.args.group) (narrow c) ∙ ap (λ w. 2 ^ (w + c.args.group)) c.rail_width.ensures

pub overflow_add-address : goal.overflow_add-address
overflow_add-address c = Fits-of_lt (let l = narrow c in omega arith)

pub overflow_shl-result : goal.overflow_shl-result
overflow_shl-result c = narrow c

pub nonzero_div-result : goal.nonzero_div-result
nonzero_div-result c = rw (addresses c) (pow_pos (rail_width c.args.incoming + c.args.group))

pub returns : goal.returns
unfolding width_of_bits
returns c = ap₂ (λ a rail. c.args.bits / a - rail) (addresses (goal.at.returns c).After-rail_width) c.rail_width-2.ensures
