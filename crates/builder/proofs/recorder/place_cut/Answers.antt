-- `recorder::place_cut` meets its contract. The loop's invariant: the classes before c are placed.
use Rattle.std.specs.Prelude.{◌<◌}
use Rattle.std.proofs.Common.{arith}
use Rattle.blocks.specs.Classes.{class_count}
use Rattle.diagram.proofs.Laws.CutRecords.{cut_start, cut_forking, cut_record_room, cut_next, cut_done}
use Rattle.builder.proofs.recorder.place_cut.Goals as goal
use Rattle.builder.proofs.recorder.place_cut.Goals.{In-loop-c}

pub loop-c-init : goal.loop-c-init
loop-c-init c = cut_start c.args.cuts.now.admitted c.requires

-- In a turn the class is one of the cut's.
below : (i : In-loop-c) → i.loop-c.c < class_count i.args.cuts.now.n i.args.cuts.now.table.now i.args.h
below i = let l = i.loop-c-test.true in let e = i.class_count-c-end.ensures in omega arith

pub place_class-made-requires : goal.place_class-made-requires
place_class-made-requires c =
    let i = (goal.at.place_class-made-requires c).In-loop-c in
    let a = i.args.cuts.now.admitted in
    let r = i.requires in
    record { forking = cut_forking a r i.loop-c.invariant (below i); record_room = cut_record_room a r i.loop-c.invariant (below i) }

pub loop-c-preserved : goal.loop-c-preserved
loop-c-preserved c =
    let i = (goal.at.loop-c-preserved c).In-loop-c in
    cut_next i.args.cuts.now.admitted i.requires i.loop-c.invariant (below i) c.place_class-made.ensures

pub returns : goal.returns
returns c = cut_done c.args.cuts.now.admitted c.requires c.loop-c.invariant (let l = c.loop-c-test.false in let e = c.class_count-c-end.ensures in omega arith)
