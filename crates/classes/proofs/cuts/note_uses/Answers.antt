-- `cuts::note_uses` meets its contract.
use mathlib.Core.Path.{refl}
use native.Mathlib.Omega.{arith}
use lib.ListN.{length-set}
use Rattle.classes.specs.Inner.Noting.{uses_noted}
use Rattle.classes.proofs.cuts.note_uses.Goals as goal

pub bounds-use_counts-class : goal.bounds-use_counts-class
bounds-use_counts-class c = simp length-set (omega arith)

pub returns : goal.returns
unfolding uses_noted
returns c = refl
