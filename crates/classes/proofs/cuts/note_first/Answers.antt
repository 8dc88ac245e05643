-- `cuts::note_first` meets its contract.
use mathlib.Core.Path.{refl}
use native.Mathlib.Omega.{arith}
use lib.ListN.{length-set}
use borrow.Author.Tests.{eq-eqb, ne_eqb}
use Rattle.classes.specs.Inner.Noting.{count_noted, firsts_noted}
use Rattle.classes.proofs.cuts.note_first.Goals as goal

pub bounds-firsts-count : goal.bounds-firsts-count
bounds-firsts-count c = simp length-set (omega arith)

pub returns-then-class-count : goal.returns-then-class-count
unfolding count_noted firsts_noted
returns-then-class-count c = rw (eq-eqb c.args.class c.args.count c.if-class-count.true) (refl, refl)

pub returns : goal.returns
unfolding count_noted firsts_noted
returns c = rw (ne_eqb c.args.class c.args.count c.if-class-count.false) (refl, refl)
