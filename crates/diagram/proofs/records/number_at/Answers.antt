-- `records::number_at` meets its contract: the numbers of record k are among those of the list.
use mir.Syntax.{w32}
use Prim.Native.Nat.{◌+◌, ◌-◌, ◌*◌, ◌<◌}
use native.Mathlib.Omega.{arith}
use lib.ListN.{length}
use mir.Facts.{to_z-of_z}
use borrow.Author.Rules.{scaled_Fits}
use Rattle.diagram.specs.Records.{record_size}
use Rattle.diagram.specs.Walk.{number_at}
use Rattle.diagram.proofs.Laws.Checks.{number_inside}
use Rattle.diagram.proofs.records.number_at.Goals as goal
use Rattle.diagram.proofs.records.number_at.Goals.{Start}

-- The place that is read.
inside : (c : Start) → 6 * (c.args.k - 1) + c.args.c < length c.args.records.now
unfolding record_size
inside c = number_inside c.args.records.now c.args.k c.args.c c.requires.0 c.requires.1

pub overflow_mul-result : goal.overflow_mul-result
overflow_mul-result c = let l = inside c in record { fits = omega arith }

pub overflow_add-result : goal.overflow_add-result
overflow_add-result c = let l = inside c in record { fits = omega arith }

pub offset_bounds-records-k : goal.offset_bounds-records-k
offset_bounds-records-k c = scaled_Fits (6 * (c.args.k - 1) + c.args.c) (length c.args.records.now) 4 (inside c) c.well_formed.0.1

pub bounds-records-k : goal.bounds-records-k
bounds-records-k c = inside c

pub returns : goal.returns
unfolding number_at record_size
returns c = to_z-of_z {w = w32} (record { sfits = c.result-1.given })
