use Rattle.std.proofs.Common.{◌-◌}
use Rattle.planner.proofs.Laws.Listed.{ListedTo}
use Rattle.planner.proofs.cells.list_cells.Given as goal

abbrev pub invariant-loop-h : goal.invariant-loop-h
invariant-loop-h l = ListedTo l.cuts l.use_counts l.choices l.h l.count l.sizes l.cells

abbrev pub decreases-loop-h : goal.decreases-loop-h
decreases-loop-h l = l.cuts.n - l.h
