-- `class_cuts::panstrait_classes` meets its contract: sizes that fit are what the classing of all cuts requires.
use Rattle.exports.proofs.Laws.Room.{sizes_room}
use Rattle.exports.proofs.class_cuts.panstrait_classes.Goals as goal

pub class_cuts-requires-clause-cuts_room : goal.class_cuts-requires-clause-cuts_room
class_cuts-requires-clause-cuts_room c =
    let a = c.args in
    (sizes_room a.n a.table.now a.classes.now a.firsts.now a.counts.now a.tried.now a.uses.now a.use_counts.now c.sizes_fit.ensures c.if-not-sizes_fit.false).0

pub class_cuts-requires-clause-counts_len : goal.class_cuts-requires-clause-counts_len
class_cuts-requires-clause-counts_len c =
    let a = c.args in
    (sizes_room a.n a.table.now a.classes.now a.firsts.now a.counts.now a.tried.now a.uses.now a.use_counts.now c.sizes_fit.ensures c.if-not-sizes_fit.false).1
