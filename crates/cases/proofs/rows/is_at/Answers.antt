-- `rows::is_at` meets its contract: equal bits are equal numbers.
use Rattle.std.proofs.Common.{get_or, ap, ◌∙◌, to_z-of_z, w32}
use Rattle.numbers.specs.Ranges.{eq_z}
use Rattle.numbers.proofs.Laws.Machine.{bits_equal}
use Rattle.cases.proofs.rows.is_at.Goals as goal

pub returns : goal.returns
returns c =
    bits_equal w32 c.args.number c.number_at.result c.ranges.number (record { sfits = c.number_at.type_inv })
    ∙ ap (eq_z c.args.number) (c.number_at.ensures ∙ ap (get_or c.args.row.now c.args.at) (to_z-of_z c.ranges.past))
