-- `tables::write_table` meets its contract: Build's records and Plan's cells give the text.
use Rattle.std.proofs.Common.{ℕ, suc, ◌+◌, ◌-◌, ◌≤◌, ◌≡◌, ◌∙◌, refl, ap, List, ◌++◌, length, length-append, ℤ, pos, to_z, of_z, w32, to_z-of_z, arith, rules, replicate}
use lib.ListN.{length-replicate}
use Rattle.std.specs.Prelude.{Result, Ok, Err}
use Rattle.std.specs.Result.{IsOk}
use Rattle.numbers.specs.declared.Refusal.{Refusal}
use Rattle.diagram.specs.Build.{Builds, node_room}
use Rattle.diagram.specs.declared.Built.{Built}
use Rattle.diagram.specs.Records.{records, offset}
use Rattle.cascade.proofs.Laws.Cells.{variables_most}
use Rattle.cascade.specs.Inner.Planned.{groups}
use Rattle.cascade.specs.declared.Cell.{Cell}
use Rattle.cascade.specs.declared.Grouping.{Grouping}
use Rattle.listing.specs.Listing.{most_listed, table_text}
use Rattle.listing.specs.Inner.NodeLines.{diagram_text, RecordsThere}
use Rattle.listing.specs.Inner.CellLines.{cascade_text}
use Rattle.listing.specs.Inner.Listed.{TextReady}
use Rattle.listing.specs.Program.{text_room}
use Rattle.lines.specs.Inner.Writing.{Writes}
use Rattle.listing.proofs.Laws.Lengths.{table_text_length}
use Rattle.listing.proofs.Laws.Texts.{most_nodes, never_refused, summary_is, records_left, records_there, front_small, front_text, bits_small, whole_text}
use Rattle.lines.proofs.Laws.Writing.{writes_behind, same_room}
use Rattle.listing.proofs.tables.write_table.Goals as goal
use Rattle.listing.proofs.tables.write_table.Goals.{After-write_diagram-next, After-unwrap-built}

abbrev zeros : List ℤ
zeros = replicate 12282 (pos 0)

-- What Build leaves and answers for a table that is ready.
module _ (n : ℕ) (table : List ℤ) (cells : List Cell) (g : Grouping) (text : List ℕ) (ready : TextReady n table cells g.cells g.bits text) (answer : Result Built Refusal) (left : List ℤ) (builds : Builds n table zeros answer left) where
  room : node_room n ≤ length zeros
  room = rw (length-replicate 12282 (pos 0)) (most_nodes n ready.few)

  -- Build does not refuse.
  answered : (result : Result Built Refusal) → answer ≡ result → IsOk result
  answered (Ok found) e = refl
  answered (Err refusal) e = absurd (never_refused n table zeros left answer ready.admitted room builds refusal e)

  -- Build answers the node count and the offset, and leaves the records in front of its buffer.
  summary : (found : Built) → answer ≡ Ok found → (found.nodes ≡ suc (length (records n table))) × (found.offset ≡ offset table)
  summary = summary_is n table zeros left answer ready.admitted room builds

  there : RecordsThere left (length (records n table))
  there = records_there n table zeros left answer ready.admitted room builds

  -- The lines of the diagram and those of the cascade are the whole text.
  whole : table_text n table (groups cells g.cells) ≡ diagram_text n (offset table) left (length (records n table)) ++ cascade_text cells g.cells g.bits
  whole = whole_text ready.admitted ready.planned left _ (records_left n table zeros left answer ready.admitted room builds)

  -- It fits the buffer.
  fits : length (diagram_text n (offset table) left (length (records n table))) + length (cascade_text cells g.cells g.bits) ≤ length text
  unfolding text_room most_listed
  fits =
      let r = ready.room in
      let l = table_text_length n table ready.admitted ready.few (groups cells g.cells) ready.planned.grouping in
      let e = ap length whole ∙ length-append (diagram_text n (offset table) left (length (records n table))) (cascade_text cells g.cells g.bits) in
      omega arith

module _ (c : After-unwrap-built) where
  told : (c.unwrap-built.result.nodes ≡ suc (length (records c.args.n c.args.table.now))) × (c.unwrap-built.result.offset ≡ offset c.args.table.now)
  told = let a = c.args in summary a.n a.table.now a.planned.now a.grouping a.text.now c.requires c.build.result c.build.new.nodes c.build.ensures _ c.unwrap-built.ensures

  count_is : c.unwrap-built.result.nodes - 1 ≡ length (records c.args.n c.args.table.now)
  count_is = let e = told.0 in omega arith

  offset_is : to_z w32 (of_z w32 c.unwrap-built.result.offset) ≡ offset c.args.table.now
  offset_is = to_z-of_z {w = w32} {z = c.unwrap-built.result.offset} (record { sfits = search rules }) ∙ told.1

-- The lines of the diagram are written.
lines : (c : After-write_diagram-next) → to_z w32 (of_z w32 c.unwrap-built.result.offset) ≡ offset c.args.table.now → c.unwrap-built.result.nodes - 1 ≡ length (records c.args.n c.args.table.now) → Writes c.args.text.now 0 (diagram_text c.args.n (offset c.args.table.now) c.build.new.nodes (length (records c.args.n c.args.table.now))) c.write_diagram-next.result c.write_diagram-next.new.text
lines c offset_is count_is = rw (offset_is, count_is) at c.write_diagram-next.ensures

pub unwrap-built-requires : goal.unwrap-built-requires
unwrap-built-requires c = let a = c.args in answered a.n a.table.now a.planned.now a.grouping a.text.now c.requires c.build.result c.build.new.nodes c.build.ensures c.build.result refl

pub overflow_sub-built : goal.overflow_sub-built
overflow_sub-built c = let e = (told (goal.at.overflow_sub-built c).After-unwrap-built).0 in omega arith

pub write_diagram-next-requires : goal.write_diagram-next-requires
write_diagram-next-requires c =
    let a = c.args in
    let d = (goal.at.write_diagram-next-requires c).After-unwrap-built in
    let t = there a.n a.table.now a.planned.now a.grouping a.text.now c.requires c.build.result c.build.new.nodes c.build.ensures in
    let f = fits a.n a.table.now a.planned.now a.grouping a.text.now c.requires c.build.result c.build.new.nodes c.build.ensures in
    let few = t.few in
    let most = variables_most a.n a.table.now c.requires.admitted in
    let one = count_is d in
    rw (offset_is d, one) (record { n_bound = (omega arith, t); count_in_bounds = omega arith })

pub write_cascade-requires : goal.write_cascade-requires
write_cascade-requires c =
    let a = c.args in
    let d = (goal.at.write_cascade-requires c).After-unwrap-built in
    let e = lines (goal.at.write_cascade-requires c).After-write_diagram-next (offset_is d) (count_is d) in
    let b = e.behind in
    let f = fits a.n a.table.now a.planned.now a.grouping a.text.now c.requires c.build.result c.build.new.nodes c.build.ensures in
    let same = same_room e (omega arith) in
    let text = front_text c.requires.admitted c.requires.planned in
    record { bits_bound = (bits_small c.requires.admitted c.requires.planned, front_small c.requires.admitted c.requires.planned); bits_in_bounds = rw text (omega arith) }

pub returns : goal.returns
returns c =
    let a = c.args in
    let d = (goal.at.returns c).After-unwrap-built in
    let e = lines (goal.at.returns c).After-write_diagram-next (offset_is d) (count_is d) in
    let f = fits a.n a.table.now a.planned.now a.grouping a.text.now c.requires c.build.result c.build.new.nodes c.build.ensures in
    let text = front_text c.requires.admitted c.requires.planned in
    rw (whole a.n a.table.now a.planned.now a.grouping a.text.now c.requires c.build.result c.build.new.nodes c.build.ensures) (writes_behind e (omega arith) (rw text at c.write_cascade.ensures))
