-- `lengths::cell_length` meets its contract.
use Rattle.std.specs.Prelude.{◌+◌, ◌*◌}
use Rattle.std.proofs.Common.{ap}
use Rattle.compiler.specs.Inner.Lengths.{planned_bytes}
use Rattle.compiler.proofs.lengths.cell_length.Goals as goal

pub returns : goal.returns
unfolding planned_bytes
returns c = ap (λ w. 7 + 7 * w) c.word_count.ensures
