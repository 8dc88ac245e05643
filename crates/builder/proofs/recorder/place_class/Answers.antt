-- `recorder::place_class` meets its contract.
use Rattle.std.specs.Prelude.{ℕ, suc, ◌+◌, ◌-◌, ◌*◌, ◌<◌, ◌≡◌, Bool, true, false, not, List, length, set, ℤ}
use Rattle.std.proofs.Common.{sym, ◌∙◌, ap, subst, add-one, SFits, to_z-of_z}
use mathlib.Core.Bool.{not-not}
use Rattle.std.specs.Int.{w32}
use borrow.Author.Rules.{rules}
use Rattle.numbers.specs.Lists.{overwritten}
use Rattle.blocks.specs.Rows.{cut_place}
use Rattle.blocks.specs.Inner.Layout.{class_at}
use Rattle.diagram.specs.Records.{branches, record_of, record_numbers, record_size}
use Rattle.diagram.specs.Inner.Building.{fork_of, range_of}
use Rattle.diagram.specs.declared.Fork.{Fork}
use Rattle.diagram.specs.declared.Range.{Range}
use Rattle.diagram.specs.declared.cuts.Cuts.{Cuts}
use Rattle.diagram.proofs.Laws.Forks.{cut_fits, class_row_place, fork_record, fork_small, fork_weight_fits}
use Rattle.builder.proofs.recorder.place_class.Goals as goal
use Rattle.builder.proofs.recorder.place_class.Goals.{After-fork_at-fork, Start}

-- The class's place in the row of nodes.
row_place : (c : Start) → (c.args.h < 64) × (cut_place c.args.h + c.args.c < length c.args.row.now)
row_place c = let k = c.args.cuts.now in let f = c.requires.forking in ((cut_fits k.admitted k.classed f).0, class_row_place k.admitted k.classed f)

pub set_in_cut-requires : goal.set_in_cut-requires
set_in_cut-requires c = row_place (goal.at.set_in_cut-requires c).Start

-- A test's answer, from that of its contrary.
flipped : (b answer : Bool) → not b ≡ answer → b ≡ not answer
flipped b answer e = sym (not-not b) ∙ ap not e

-- Class c of cut h, and its fork.
module _ (c : After-fork_at-fork) where
  abbrev cuts : Cuts
  cuts = c.args.cuts.now

  abbrev half : ℕ
  half = cuts.n - suc c.args.h

  abbrev here : List ℤ
  here = class_at cuts.n cuts.table.now c.args.h c.args.c

  branching : branches half here ≡ c.fork_at-fork.result.branching
  unfolding fork_of
  branching = sym (ap (λ f. f.branching) c.fork_at-fork.ensures)

  branched : not c.fork_at-fork.result.branching ≡ false → branches half here ≡ true
  branched e = branching ∙ flipped _ false e

  -- Its numbers fit.
  small : (cuts.n - (c.args.h + 1) < 4096) × ((c.fork_at-fork.result.low < 4096) × (c.fork_at-fork.result.high < 4096))
  unfolding fork_of
  small =
      let s = fork_small cuts.admitted cuts.classed c.requires.forking in
      let e = sym c.fork_at-fork.ensures in
      (rw (add-one c.args.h) s.0, (subst (λ (f : Fork). f.low < 4096) e s.1.0, subst (λ (f : Fork). f.high < 4096) e s.1.1))

  weight_small : SFits w32 c.fork_at-fork.result.weight
  unfolding fork_of
  weight_small = subst (λ (g : Fork). SFits w32 g.weight) (sym c.fork_at-fork.ensures) (fork_weight_fits cuts.admitted cuts.classed c.requires.forking)

  -- Its record, with its range.
  is_record : (r : Range) → r ≡ range_of here → SFits w32 r.least → SFits w32 r.greatest
      → let f = c.fork_at-fork.result in
      record { variable = cuts.n - (c.args.h + 1); low = f.low; high = f.high; weight = f.weight; least = r.least; greatest = r.greatest } ≡ record_of cuts.n cuts.table.now half here
  is_record r e least greatest =
      let f = c.fork_at-fork.result in
      let law = fork_record cuts.n cuts.table.now half here f r c.fork_at-fork.ensures e weight_small least greatest in
      ap (λ i. record { variable = cuts.n - i; low = f.low; high = f.high; weight = f.weight; least = r.least; greatest = r.greatest }) (add-one c.args.h)
      ∙ (rw (to_z-of_z {w = w32} weight_small, to_z-of_z {w = w32} (record { sfits = least.sfits }), to_z-of_z {w = w32} (record { sfits = greatest.sfits })) at law)

pub returns-then-not-fork : goal.returns-then-not-fork
unfolding fork_of
returns-then-not-fork c =
    let d = (goal.at.returns-then-not-fork c).After-fork_at-fork in
    let passes : branches (half d) (here d) ≡ false = branching d ∙ flipped _ true c.if-not-fork.true in
    record {
      counted = rw passes;
      noted = rw passes (c.set_in_cut.ensures ∙ ap (λ f. set c.args.row.now (cut_place c.args.h + c.args.c) f.low) d.fork_at-fork.ensures);
      recorded = rw passes;
    }

pub write_record-requires : goal.write_record-requires
write_record-requires c =
    let d = (goal.at.write_record-requires c).After-fork_at-fork in
    record { record_size_in_bounds = c.requires.record_room.room (branched d c.if-not-fork.false); variable_bound = small d }

pub set_in_cut-requires-2 : goal.set_in_cut-requires-2
set_in_cut-requires-2 c = row_place (goal.at.set_in_cut-requires-2 c).Start

pub returns : goal.returns
returns c =
    let d = (goal.at.returns c).After-fork_at-fork in
    let b = branched d c.if-not-fork.false in
    let e = is_record d c.class_range-range.result c.class_range-range.ensures (search rules) (search rules) in
    record {
      counted = rw b;
      noted = rw b c.set_in_cut-2.ensures;
      recorded = rw b (c.write_record.ensures ∙ ap (λ r. overwritten c.args.nodes.now (record_size * c.args.made) (record_numbers r)) e);
    }
