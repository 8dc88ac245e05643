-- `operand_rules::cell_keeps` meets its contract.
use Rattle.std.proofs.Common.{◌≤◌, arith}
use Rattle.numbers.specs.Ranges.{most_variables}
use Rattle.numbers.proofs.Laws.Widths.{rail_width_least}
use Rattle.image.specs.Reader.{most_classes}
use Rattle.reader.proofs.operand_rules.cell_keeps.Goals as goal

pub overflow_add-result : goal.overflow_add-result
unfolding most_variables most_classes
overflow_add-result c =
    let few : c.args.incoming ≤ 4096 = grind arith in
    let narrow = rail_width_least c.args.incoming 12 few in
    grind (arith)
