-- `fields::write_count` meets its contract: the count is written as it is.
use Rattle.std.proofs.Math.Facts.{to_z_pos}
use Rattle.std.specs.Int.{w32}
use Rattle.lines.proofs.fields.write_count.Goals as goal

pub write_line-requires : goal.write_line-requires
write_line-requires c = rw (to_z_pos w32 {n = c.args.count} c.requires.count_bound) c.requires.count_in_bounds

pub returns : goal.returns
returns c = rw (to_z_pos w32 {n = c.args.count} c.requires.count_bound) at c.write_line.ensures
