-- `node_lines::write_diagram` meets its contract: the three parts, one behind the other.
use Rattle.std.proofs.Common.{ℕ, ◌+◌, ◌≡◌, List, [], ◌∷◌, ◌++◌, arith, length, length-append, pos, w32, to_z-of_z}
use Rattle.std.proofs.lemmas.Int.{to_z_pos}
use Rattle.lines.specs.Text.{ascii, line}
use Rattle.listing.specs.Inner.NodeLines.{record_lines, diagram_text}
use Rattle.lines.specs.Inner.Writing.{Writes}
use Rattle.lines.proofs.Laws.Writing.{writes_behind, same_room}
use Rattle.listing.proofs.node_lines.write_diagram.Goals as goal
use Rattle.listing.proofs.node_lines.write_diagram.Goals.{After-write_line-first, After-write_nodes-next, Start}

module _ (c : Start) where
  abbrev head : List ℕ
  head = line "table" (pos c.args.n ∷ c.args.offset ∷ [])

  abbrev lines : List ℕ
  lines = record_lines c.args.nodes.now c.args.count

  abbrev last : List ℕ
  last = line "nodes" (pos (c.args.count + 1) ∷ [])

  -- The bytes of the parts.
  front : length (head ++ lines) ≡ length head + length lines
  front = length-append head lines

  whole : length (diagram_text c.args.n c.args.offset c.args.nodes.now c.args.count) ≡ length (head ++ lines) + length last
  unfolding diagram_text
  whole = length-append (head ++ lines) last

-- The first line is written.
module _ (c : After-write_line-first) where
  first_line : Writes c.args.text.now 0 (line "table" (pos c.args.n ∷ c.args.offset ∷ [])) c.write_line-first.result c.write_line-first.new.text
  unfolding line ascii
  first_line = rw (to_z_pos w32 _ c.requires.n_bound.0, to_z-of_z c.ranges.offset) at c.write_line-first.ensures

-- The node lines are written behind it.
module _ (c : After-write_nodes-next) where
  abbrev Opened : Type 0
  Opened = Writes c.args.text.now 0 (line "table" (pos c.args.n ∷ c.args.offset ∷ [])) c.write_line-first.result c.write_line-first.new.text

  node_lines : Opened → length (diagram_text c.args.n c.args.offset c.args.nodes.now c.args.count) ≡ length (line "table" (pos c.args.n ∷ c.args.offset ∷ []) ++ record_lines c.args.nodes.now c.args.count) + length (line "nodes" (pos (c.args.count + 1) ∷ [])) → Writes c.args.text.now 0 (line "table" (pos c.args.n ∷ c.args.offset ∷ []) ++ record_lines c.args.nodes.now c.args.count) c.write_nodes-next.result c.write_nodes-next.new.text
  node_lines opened w =
      let f = length-append (line "table" (pos c.args.n ∷ c.args.offset ∷ [])) (record_lines c.args.nodes.now c.args.count) in
      let p = c.requires.count_in_bounds in
      writes_behind opened (omega arith) c.write_nodes-next.ensures

pub write_line-first-requires : goal.write_line-first-requires
unfolding line ascii
write_line-first-requires c =
    let s = (goal.at.write_line-first-requires c).Start in
    let f = front s in
    let w = whole s in
    let p = s.requires.count_in_bounds in
    rw (to_z_pos w32 _ s.requires.n_bound.0, to_z-of_z s.ranges.offset) (omega arith)

pub write_nodes-next-requires : goal.write_nodes-next-requires
write_nodes-next-requires c =
    let s = (goal.at.write_nodes-next-requires c).Start in
    let e = first_line (goal.at.write_nodes-next-requires c).After-write_line-first in
    let b = e.behind in
    let f = front s in
    let w = whole s in
    let p = s.requires.count_in_bounds in
    let k = same_room e (omega arith) in
    record { records_there = s.requires.n_bound.1; count_in_bounds = omega arith }

pub write_count-requires : goal.write_count-requires
unfolding line ascii
write_count-requires c =
    let d = (goal.at.write_count-requires c).After-write_nodes-next in
    let s = (goal.at.write_count-requires c).Start in
    let w = whole s in
    let e = node_lines d (first_line (goal.at.write_count-requires c).After-write_line-first) w in
    let b = e.behind in
    let p = s.requires.count_in_bounds in
    let k = same_room e (omega arith) in
    record { count_bound = s.requires.n_bound.1.few; count_in_bounds = omega arith }

pub returns : goal.returns
unfolding line ascii diagram_text
returns c =
    let d = (goal.at.returns c).After-write_nodes-next in
    let s = (goal.at.returns c).Start in
    let w = whole s in
    let p = s.requires.count_in_bounds in
    writes_behind (node_lines d (first_line (goal.at.returns c).After-write_line-first) w) (omega arith) c.write_count.ensures
