-- `fields::write_refusal` meets its contract.
use Rattle.std.proofs.Common.{arith}
use Rattle.lines.specs.Text.{ascii, line}
use Rattle.lines.proofs.fields.write_refusal.Goals as goal

pub write_count-requires : goal.write_count-requires
unfolding line ascii
write_count-requires c = let p = c.requires in record { count_bound = omega arith; count_in_bounds = omega arith }

pub returns : goal.returns
unfolding line ascii
returns c = c.write_count.ensures
