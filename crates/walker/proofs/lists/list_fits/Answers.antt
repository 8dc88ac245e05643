-- `lists::list_fits` meets its contract.
use Rattle.std.proofs.Common.{◌≡◌, sym, ◌∙◌, ap, ◌%◌, ◌&&◌, length, leb, eqb, eq-eqb, ne_eqb}
use Rattle.diagram.specs.Build.{node_room}
use Rattle.diagram.specs.Records.{record_size}
use Rattle.diagram.specs.Walk.{list_fits}
use Rattle.diagram.proofs.Laws.Checks.{variables_range}
use Rattle.walker.proofs.lists.list_fits.Goals as goal
use Rattle.walker.proofs.lists.list_fits.Goals.{Joined-records-eq0, then-records-eq0, else-records-eq0}

pub node_room-requires : goal.node_room-requires
node_room-requires c = (variables_range c.args.n c.requires).1

-- Whole records, and no more than there is room for.
sized : (c : Joined-records-eq0) → c.if-records-eq0.value ≡ (let a = c.args in eqb (length a.records.now % record_size) 0 && leb (length a.records.now) (node_room a.n))
unfolding record_size
sized c =
    let list = c.args.records.now in
    elim c.if-records-eq0.branch [
      | then-records-eq0 w ↦ rw (eq-eqb (length list % 6) 0 w.if-records-eq0.true) (w.value-is ∙ ap (leb (length list)) w.node_room.ensures)
      | else-records-eq0 w ↦ rw (ne_eqb (length list % 6) 0 w.if-records-eq0.false) (w.value-is ∙ ne_eqb (length list % 6) 0 w.if-records-eq0.false)
    ]

pub returns-then-records-node_room : goal.returns-then-records-node_room
unfolding list_fits
returns-then-records-node_room c = rw (sym (sized (goal.at.returns-then-records-node_room c).Joined-records-eq0) ∙ c.if-records-node_room.true) c.records_fit.ensures

pub returns-else-records-node_room : goal.returns-else-records-node_room
unfolding list_fits
returns-else-records-node_room c = rw (sym (sized (goal.at.returns-else-records-node_room c).Joined-records-eq0) ∙ c.if-records-node_room.false) c.if-records-node_room.false
