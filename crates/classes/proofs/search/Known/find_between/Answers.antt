-- `search::Known::find_between` meets its contract. The loop's invariant: what is found from the start on is found from this class on.
use Rattle.std.proofs.Common.{◌<◌, ◌∙◌, sym, ap, arith, le-ltb, lt-ltb}
use Rattle.std.specs.Bool.{then_some}
use Rattle.blocks.specs.Blocks.{differences}
use Rattle.classes.specs.Inner.Searching.{part_differences, found_between}
use Rattle.classes.proofs.Laws.Searching.{found_nothing, found_here, found_later}
use Rattle.classes.proofs.search.Known.find_between.Goals as goal
use Rattle.classes.proofs.search.Known.find_between.Goals.{then-class-to, else-class-to+then-same_other}

pub loop-class-preserved : goal.loop-class-preserved
loop-class-preserved c =
    let s = c.args.self.now in
    let l : c.loop-class.class < c.args.to = omega arith in
    (omega arith, c.loop-class.invariant.1 ∙ found_later s.table.now s.size s.firsts.now _ c.loop-class.class c.args.to l c.requires.1 (rw (← c.first_block.ensures) (sym c.same_other.ensures ∙ c.if-same_other.false)))

-- The class number that the loop yields: nothing is found where it is the end.
pub returns : goal.returns
returns c =
    let a = c.args in
    let s = a.self.now in
    let d = differences a.values.now in
    let known = part_differences s.table.now s.size s.firsts.now in
    let class = c.loop-class.class in
    c.then_some.ensures ∙ elim c.if-class-to.branch [
      | then-class-to w ↦ rw w.found-is (ap (λ b. then_some b a.to) (le-ltb a.to a.to (omega arith)) ∙ sym (c.loop-class.invariant.1 ∙ ap (λ k. found_between known k a.to d) w.if-class-to.true ∙ found_nothing s.table.now s.size s.firsts.now d a.to))
      | else-class-to+then-same_other w ↦
          let l : class < a.to = omega arith in
          rw w.found-is (ap (λ b. then_some b class) (lt-ltb class a.to l) ∙ sym (c.loop-class.invariant.1 ∙ found_here s.table.now s.size s.firsts.now d class a.to l c.requires.1 (rw (← w.first_block.ensures) (sym w.same_other.ensures ∙ w.if-same_other.true))))
    ]
