-- The text of a table, from what Build's buffer and Plan's arrays hold.
use Rattle.std.specs.Prelude.{ℕ, zero, suc, ◌+◌, ◌-◌, ◌*◌, ◌^◌, ◌≤◌, ◌<◌, ◌≡◌, refl, get_or, take, drop, ℤ, Result, Ok, Err}
use Rattle.std.proofs.Math.Path.{sym, ap, ap₂}
use Rattle.std.proofs.Common.{◌∙◌, subst, add-one, get_or-take, length-take-le, take_all, List, [], ◌∷◌, ◌++◌, append_assoc, arith}
use mathlib.Core.List.{flat_map}
use Rattle.std.proofs.Math.ListN.{length, length-append}
use Rattle.std.proofs.Math.Pow.{pow_mono}
use Rattle.std.proofs.Math.IntN.{pos}
use Rattle.numbers.specs.Lists.{numbers_from, every, sum_of}
use Rattle.numbers.specs.Ranges.{widest_address}
use Rattle.numbers.specs.Answers.{Answer, accepted, refused}
use Rattle.numbers.specs.Refusals.{number, answer_of}
use Rattle.numbers.specs.declared.Refusal.{Refusal}
use Rattle.numbers.proofs.Laws.Answers.{not_refused}
use Rattle.diagram.specs.Accepted.{Accepted, written}
use Rattle.diagram.specs.Records.{Record, records, record_numbers, record_size, offset, node_count}
use Rattle.diagram.specs.Build.{node_room, Summary, summary_of, built, Builds}
use Rattle.diagram.proofs.Laws.Builds.{build_answered, build_left}
use Rattle.diagram.proofs.Laws.Numbering.{written_length, records_room}
use Rattle.diagram.specs.declared.Built.{Built}
use Rattle.diagram.specs.Walk.{record_count}
use Rattle.image.specs.Cells.{total_bits}
use Rattle.image.specs.Reader.{most_classes}
use Rattle.cascade.specs.Cascade.{cell_of, cells_from}
use Rattle.cascade.specs.Groupings.{cost}
use Rattle.cascade.specs.Plan.{plan_cell, plan_cells, no_cell, Plans}
use Rattle.cascade.specs.declared.Grouping.{Grouping}
use Rattle.cascade.specs.declared.Planned.{Planned}
use Rattle.cascade.specs.declared.Cell.{Cell as PlanCell}
use Rattle.cascade.proofs.Laws.Cards.{grouping_sum}
use Rattle.cascade.proofs.Laws.Cells.{variables_most, cell_address, cell_incoming, cell_outgoing, cell_width_most, cell_bits_most}
use Rattle.cascade.proofs.Laws.Lengths.{cost_most}
use Rattle.cascade.specs.Inner.Planned.{PlannedAs}
use Rattle.cascade.proofs.Laws.Planned.{few, places, front, groups_are, plan_chosen, plan_accepts}
use Rattle.listing.specs.Listing.{most_listed, node_line, node_lines, cell_line, table_text}
use Rattle.lines.specs.Text.{ascii, line}
use Rattle.listing.specs.Inner.Listed.{TextReady}
use Rattle.listing.specs.Program.{text_room}
use Rattle.listing.proofs.Laws.Lengths.{line_length_lem, count_field}
use Rattle.listing.proofs.Laws.Shown.{shown_here}
use Rattle.listing.specs.Inner.NodeLines.{record_line, record_lines, diagram_text, RecordsThere}
use Rattle.listing.specs.Inner.CellLines.{plan_line, plan_lines, cascade_text, CellSmall, CellsSmall}

-- ---- node lines

-- The records from place m on stand in a buffer: their lines are those of the buffer's records.
node_lines_from : (rs : List Record) (list rest : List ℤ) (m : ℕ) → drop (record_size * m) list ≡ flat_map record_numbers rs ++ rest → node_lines (suc m) rs ≡ flat_map (record_line list) (numbers_from (suc m) (length rs))
unfolding node_lines node_line flat_map numbers_from record_line
node_lines_from [] list rest m e = refl
node_lines_from (r ∷ rs) list rest m e =
    let here = shown_here r rs list rest m e in
    ap₂ (λ shown more. line "node" (pos (suc m) ∷ shown) ++ more) here.0 (node_lines_from rs list rest (suc m) here.1)

-- What Build writes for a table, in front of a buffer: the node lines are those of its records.
module _ (n : ℕ) (table nodes rest : List ℤ) (e : nodes ≡ written n table ++ rest) where
  pub diagram_text_lem : diagram_text n (offset table) nodes (length (records n table)) ≡ line "table" (pos n ∷ offset table ∷ []) ++ node_lines 1 (records n table) ++ line "nodes" (pos (node_count n table) ∷ [])
  unfolding diagram_text record_lines node_count record_size
  diagram_text_lem =
      ap₂ (λ lines count. line "table" (pos n ∷ offset table ∷ []) ++ lines ++ line "nodes" (pos count ∷ []))
      (sym (node_lines_from (records n table) nodes rest 0 e))
      (add-one (length (records n table)))

-- A node buffer of 12,282 numbers has room for every table that is listed.
pub most_nodes : (n : ℕ) → n ≤ most_listed → node_room n ≤ 12282
unfolding node_room record_size most_listed
most_nodes n few = let most = pow_mono {i = n} {j = 11} few in omega arith

-- What Build answers and leaves for an accepted table, where its buffer has room.
module _ (n : ℕ) (table buffer nodes : List ℤ) (answer : Result Built Refusal) (a : Accepted n table) (room : node_room n ≤ length buffer) (b : Builds n table buffer answer nodes) where
  accepts : built answer ≡ accepted (summary_of n table)
  accepts = b.answered ∙ build_answered n table (length buffer) a room

  -- It does not refuse.
  pub never_refused : (r : Refusal) → answer ≡ Err r → ⊥
  unfolding built answer_of
  never_refused r e = not_refused (summary_of n table) (number r) (sym accepts ∙ ap built e)

  -- It answers the node count and the offset.
  pub summary_is : (found : Built) → answer ≡ Ok found → (found.nodes ≡ suc (length (records n table))) × (found.offset ≡ offset table)
  unfolding built answer_of node_count
  summary_is found e =
      let same : accepted (record { nodes = found.nodes; table_offset = found.offset }) ≡ accepted (summary_of n table) = sym (ap built e) ∙ accepts in (
        ap (λ (s : Answer Summary). elim s [ accepted s ↦ s.nodes | refused k ↦ 0 ]) same,
        ap (λ (s : Answer Summary). elim s [ accepted s ↦ s.table_offset | refused k ↦ pos 0 ]) same,
      )

  -- The records stand in front of the buffer.
  pub records_left : nodes ≡ written n table ++ drop (record_size * (node_count n table - 1)) buffer
  records_left = b.left ∙ build_left n table buffer (summary_of n table) (build_answered n table (length buffer) a room)

  -- They are as many as the answer says, and few.
  pub records_there : RecordsThere nodes (length (records n table))
  unfolding record_count record_size
  records_there =
      let count = written_length n table in
      let all = ap length records_left ∙ length-append (written n table) (drop (record_size * (node_count n table - 1)) buffer) in
      let few = records_room n table in
      let most = pow_mono {i = n} {j = 12} (variables_most n table a) in
      record { inside = omega arith; few = omega arith }

-- ---- cell lines

-- A cell's line is that of Plan's cell.
plan_lines_are : (n : ℕ) (table : List ℤ) (h : ℕ) (sizes : List ℕ) → flat_map plan_line (plan_cells n table h sizes) ≡ flat_map cell_line (cells_from n table h sizes)
unfolding flat_map plan_line plan_cell plan_cells cell_line cells_from
plan_lines_are n table h [] = refl
plan_lines_are n table h (g ∷ sizes) = ap (λ more. cell_line (cell_of n table h g) ++ more) (plan_lines_are n table (h + g) sizes)

-- The numbers of each cell are small.
small_from : (n : ℕ) (table : List ℤ) → Accepted n table → (h : ℕ) (sizes : List ℕ) → h + sum_of sizes ≡ n → (k : ℕ) → k < length sizes → CellSmall (get_or (plan_cells n table h sizes) k no_cell)
unfolding plan_cells sum_of plan_cell most_classes widest_address
small_from n table a h [] e k l = absurd (omega arith)
small_from n table a h (g ∷ sizes) e zero l =
    let ends : h + g ≤ n = omega arith in
    record {
      group = let r = cell_address n table a h g ends in omega arith;
      incoming = let i = (cell_incoming n table a h g ends).1 in omega arith;
      outgoing = let o = (cell_outgoing n table a h g ends).1 in omega arith;
      width = let w = cell_width_most n table a h g ends in omega arith;
      bits = let b = cell_bits_most n table a h g ends in omega arith;
    }
small_from n table a h (g ∷ sizes) e (suc k) l = small_from n table a (h + g) sizes (omega arith) k (omega arith)

module _ {n : ℕ} {table : List ℤ} {sizes : List ℕ} {cells : List PlanCell} {count bits : ℕ} (a : Accepted n table) (p : PlannedAs n table sizes cells count bits) where
  -- The planned cells can be written.
  pub planned_small : CellsSmall cells count
  planned_small =
      record {
        few = few a p;
        inside = let f = few a p in let e = places a p in omega arith;
        small = λ k l. subst (λ (cell : PlanCell). CellSmall cell) (sym (ap (λ c. get_or c k no_cell) (front a p)) ∙ get_or-take count cells k no_cell l) (small_from n table a 0 sizes (omega (arith, grouping_sum n sizes p.grouping)) k (let c = p.counted in omega arith));
      }

  -- So can they alone, and their text is the same.
  pub front_small : CellsSmall (take count cells) (length (take count cells))
  front_small =
      let small = planned_small in
      let l = length-take-le count cells small.inside in
      record {
        few = let f = small.few in omega arith;
        inside = omega arith;
        small = λ k inside. subst (λ (cell : PlanCell). CellSmall cell) (sym (get_or-take count cells k no_cell (omega arith))) (small.small k (omega arith));
      }

  pub front_text : cascade_text (take count cells) (length (take count cells)) bits ≡ cascade_text cells count bits
  unfolding cascade_text plan_lines
  front_text = ap (λ row. flat_map plan_line row ++ line "bits" (pos bits ∷ [])) (take_all (length (take count cells)) (take count cells) (omega arith))

  -- So can their bits.
  pub bits_small : bits < 2 ^ 31
  bits_small = let t = p.total in let m = cost_most n table a sizes p.grouping in omega arith

  -- Their text is that of the grouping's cells.
  pub cascade_text_lem : cascade_text cells count bits ≡ flat_map cell_line (cells_from n table 0 sizes) ++ line "bits" (pos (total_bits (cells_from n table 0 sizes)) ∷ [])
  unfolding cascade_text plan_lines cost
  cascade_text_lem = ap₂ (λ lines total. lines ++ line "bits" (pos total ∷ [])) (ap (flat_map plan_line) (front a p) ∙ plan_lines_are n table 0 sizes) p.total

  -- ---- the whole text

  pub whole_text : (nodes rest : List ℤ) → nodes ≡ written n table ++ rest → table_text n table sizes ≡ diagram_text n (offset table) nodes (length (records n table)) ++ cascade_text cells count bits
  unfolding table_text
  whole_text nodes rest e =
      append_assoc
      (line "table" (pos n ∷ offset table ∷ []) ++ node_lines 1 (records n table) ++ line "nodes" (pos (node_count n table) ∷ []))
      (flat_map cell_line (cells_from n table 0 sizes))
      (line "bits" (pos (total_bits (cells_from n table 0 sizes)) ∷ []))
      ∙ ap₂ (λ diagram cascade. diagram ++ cascade) (sym (diagram_text_lem n table nodes rest e)) (sym cascade_text_lem)

-- ---- from Plan's promise

-- A verdict with a grouping: where the table is listed, its text can be written into a buffer that holds every text.
pub text_ready : (n : ℕ) (table : List ℤ) (limit : ℕ) (p : Planned) (g : Grouping) (text : List ℕ) → n ≤ most_listed → Plans n table limit p → p.verdict ≡ Ok g → text_room ≤ length text → TextReady n table p.cells g.cells g.bits text
text_ready n table limit p g text few plans e room =
    let chosen = plan_chosen n table limit p plans g e in
    let admitted = plan_accepts n table limit p plans g e in
    record {
      few = few;
      admitted = admitted;
      planned = subst (λ (sizes : List ℕ). PlannedAs n table sizes p.cells g.cells g.bits) (sym (groups_are admitted chosen.planned)) chosen.planned;
      room = room;
    }

-- A refusal of one byte fits such a buffer.
pub refusal_fits : (k : ℕ) (text : List ℕ) → k < 256 → text_room ≤ length text → length (line "refused" (pos k ∷ [])) ≤ length text
unfolding text_room every ascii
refusal_fits k text small room = let l = line_length_lem "refused" (pos k ∷ []) (rw (count_field k (omega arith))) in omega arith
