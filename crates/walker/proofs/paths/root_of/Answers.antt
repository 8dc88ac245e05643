-- `paths::root_of` meets its contract.
use Rattle.std.proofs.Common.{w32, ◌/◌, ap, length, to_z-of_z}
use Rattle.diagram.specs.Records.{record_size}
use Rattle.diagram.specs.Walk.{record_count}
use Rattle.diagram.specs.Inner.Edges.{root_of}
use Rattle.walker.proofs.paths.root_of.Goals as goal

pub returns : goal.returns
unfolding root_of record_count record_size
returns c = ap (λ z. record { value = z; node = length c.args.records.now / record_size }) (to_z-of_z {w = w32} c.ranges.offset)
