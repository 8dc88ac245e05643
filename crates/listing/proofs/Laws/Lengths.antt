-- How long the text is at most: every field is within ±16,777,215, so that with its space it takes at most 10 bytes.
use Rattle.std.specs.Prelude.{ℕ, suc, ◌+◌, ◌*◌, ◌≤◌, ◌<◌, ◌≡◌, Bool, true, length, get_or, drop, ℤ, negsuc}
use Rattle.std.proofs.Math.Path.{refl}
use Rattle.std.proofs.Common.{sym, ◌∙◌, ap, pow_mono, List, [], ◌∷◌, ◌++◌, append-nil, arith}
use mathlib.Core.List.{flat_map}
use Prim.Native.String.{String}
use Rattle.std.proofs.Math.ListN.{length-append}
use Rattle.std.proofs.Math.IntN.{pos}
use Rattle.numbers.specs.Answers.{Answer, accepted, refused}
use Rattle.numbers.specs.Lists.{every, sum_of}
use Rattle.numbers.specs.Ranges.{widest_address, within, is_value, is_weight}
use Rattle.numbers.proofs.Laws.Bools.{both, and_both}
use Rattle.numbers.proofs.Laws.Bounds.{weight_mag, weight_of_size, difference_weight}
use Rattle.numbers.proofs.Laws.Integers.{sub_zero}
use Rattle.diagram.specs.Accepted.{Accepted, written}
use Rattle.diagram.specs.Records.{node, Record, records, record_numbers, record_size, offset, node_count}
use Rattle.diagram.proofs.Laws.Alike.{BlockLike}
use Rattle.diagram.proofs.Laws.Fits.{block_weight}
use Rattle.diagram.proofs.Laws.Nodes.{node_below}
use Rattle.diagram.proofs.Laws.Numbering.{records_count, below_more, records_room, StandsFor}
use Rattle.diagram.proofs.Laws.RecordBlocks.{RecordBlock, block_of, record_block, height_within, lower_like, upper_like}
use Rattle.image.specs.Cells.{Cell, bits_of, total_bits}
use Rattle.image.specs.Reader.{most_classes}
use Rattle.cascade.specs.Cascade.{cell_of, cells_from, card_for}
use Rattle.cascade.specs.Groupings.{cost, is_grouping}
use Rattle.cascade.proofs.Laws.Admitting.{plan_admits}
use Rattle.cascade.proofs.Laws.Cards.{grouping_sum}
use Rattle.cascade.proofs.Laws.Cells.{variables_most, offset_in_range, cell_address, cell_incoming, cell_outgoing, cell_width_most, cell_bits_most}
use Rattle.cascade.proofs.Laws.Chosen.{chosen_best}
use Rattle.cascade.proofs.Laws.Groupings.{grouping_length}
use Rattle.cascade.proofs.Laws.Lengths.{cost_fits}
use Rattle.listing.specs.Listing.{shown_numbers, node_line, node_lines, cell_line, table_text, table_of, listed, answer_text, listing}
use Rattle.lines.specs.Text.{ascii, decimal, fields, line}
use Rattle.lines.proofs.Laws.Decimals.{decimal_negative, decimal_length}
use Rattle.listing.proofs.Laws.Listed.{listed_range, listed_accepted, listed_refused}
use Rattle.listing.proofs.Laws.Shown.{shown_at, shown_here}

-- ---- a line

-- A number within ±16,777,215 takes at most 9 bytes.
number_length : (z : ℤ) → is_weight z ≡ true → length (decimal z) ≤ 9
number_length (pos number) small =
    let size = weight_mag (pos number) small in
    let digits = decimal_length 7 number (omega arith) in
    omega arith
number_length (negsuc number) small =
    let size = weight_mag (negsuc number) small in
    let digits = decimal_length 7 (suc number) (omega arith) in
    rw decimal_negative (omega arith)

fields_length : (numbers : List ℤ) → every is_weight numbers ≡ true → length (fields numbers) ≤ 10 * length numbers + 1
unfolding fields every
fields_length [] small = omega arith
fields_length (z ∷ more) small =
    let parts = both (is_weight z) (every is_weight more) small in
    let here = number_length z parts.0 in
    let rest = fields_length more parts.1 in
    let all = length-append (decimal z) (fields more) in
    omega arith

-- A line takes its word, at most 10 bytes a field, and the newline.
pub line_length_lem : (word : String) (numbers : List ℤ) → every is_weight numbers ≡ true → length (line word numbers) ≤ length (ascii word) + 10 * length numbers + 1
unfolding line
line_length_lem word numbers small =
    let rest = fields_length numbers small in
    let all = length-append (ascii word) (fields numbers) in
    omega arith

-- A line of one count takes its word, the digits, a space and the newline.
one_field_length : (word : String) (count : ℕ) → length (line word (pos count ∷ [])) ≡ length (ascii word) + length (decimal (pos count)) + 2
unfolding line fields
one_field_length word count =
    let digits = length-append (decimal (pos count)) (10 ∷ []) in
    let all = length-append (ascii word) (32 ∷ decimal (pos count) ++ 10 ∷ []) in
    omega arith

-- A value is small enough.
value_weight : (z : ℤ) → is_value z ≡ true → is_weight z ≡ true
unfolding is_value within
value_weight z inside = ap is_weight (sym (sub_zero z)) ∙ difference_weight z (pos 0) inside refl

-- A count that is small enough is a field.
pub count_field : (count : ℕ) → count ≤ 16777215 → is_weight (pos count) ≡ true
count_field count small = weight_of_size (pos count) small

-- ---- node lines

-- A record whose line shows small numbers.
abbrev shows_small : Record → Bool
shows_small r = every is_weight (shown_numbers r)

-- Node lines take at most 55 bytes each.
node_lines_length : (rs : List Record) (k : ℕ) → every shows_small rs ≡ true → k + length rs ≤ 16777215 → length (node_lines k rs) ≤ 55 * length rs
unfolding node_lines node_line shown_numbers every ascii
node_lines_length [] k small few = omega arith
node_lines_length (r ∷ rs) k small few =
    let parts = both (shows_small r) (every shows_small rs) small in
    let here = line_length_lem "node" (pos k ∷ shown_numbers r) (and_both (is_weight (pos k)) (shows_small r) (count_field k (omega arith)) parts.0) in
    let rest = node_lines_length rs (suc k) parts.1 (omega arith) in
    let all = length-append (node_line k r) (node_lines (suc k) rs) in
    omega arith

module _ (n : ℕ) (table : List ℤ) (a : Accepted n table) where
  -- What Build's buffer shows of each record is small.
  shown_small : (m : ℕ) → 0 < m → m ≤ length (records n table) → every is_weight (shown_at (written n table) m) ≡ true
  unfolding every
  shown_small m some last =
      rw (s.variable, s.low, s.high, s.weight)
      (rw (height, child _ (lower_like n table a.size r), child _ (upper_like n table a.size r), block_weight n table a.size a.values i r.place r.lower r.inside))
    where
      r : RecordBlock n table m
      r = record_block n table a.size m some last

      i : ℕ
      i = r.height

      s : StandsFor n table m i (block_of r)
      s = r.stands

      few : n ≤ 12
      few = variables_most n table a

      height : is_weight (pos i) ≡ true
      height = count_field i (let l = r.lower in omega (arith, few))

      child : (values : List ℤ) → BlockLike n table i values → is_weight (pos (node n table i values)) ≡ true
      child values like =
          let lower = height_within n table a.size r in
          let earlier = node_below n table a.size i values lower like in
          let all = below_more n table i n lower in
          let room = records_room n table in
          let most = pow_mono {i = n} {j = 12} few in
          count_field (node n table i values) (omega (arith, records_count n table))

  -- So is what the lines of the records show, from place m on.
  records_small : (rs : List Record) (m : ℕ) → drop (record_size * m) (written n table) ≡ flat_map record_numbers rs ++ [] → m + length rs ≡ length (records n table) → every shows_small rs ≡ true
  unfolding every
  records_small [] m e count = refl
  records_small (r ∷ rs) m e count =
      let here = shown_here r rs (written n table) [] m e in
      and_both (shows_small r) (every shows_small rs)
      (ap (every is_weight) here.0 ∙ shown_small (suc m) (omega arith) (omega arith))
      (records_small rs (suc m) here.1 (omega arith))

  -- ---- cell lines

  -- A cell line takes at most 55 bytes.
  cell_line_length : (h g : ℕ) → h + g ≤ n → length (cell_line (cell_of n table h g)) ≤ 55
  unfolding cell_line ascii every most_classes widest_address
  cell_line_length h g ends =
      line_length_lem "cell" (pos cell.group ∷ pos cell.incoming ∷ pos cell.outgoing ∷ pos cell.width ∷ pos (bits_of cell) ∷ []) small
    where
      cell : Cell
      cell = cell_of n table h g

      small : every is_weight (pos cell.group ∷ pos cell.incoming ∷ pos cell.outgoing ∷ pos cell.width ∷ pos (bits_of cell) ∷ []) ≡ true
      small =
          let group = cell_address n table a h g ends in
          let incoming = (cell_incoming n table a h g ends).1 in
          let outgoing = (cell_outgoing n table a h g ends).1 in
          let width = cell_width_most n table a h g ends in
          let bits = cell_bits_most n table a h g ends in
          rw (count_field cell.group (omega arith), count_field cell.incoming (omega arith), count_field cell.outgoing (omega arith), count_field cell.width (omega arith), count_field (bits_of cell) (omega arith))

  -- So the lines of cells do.
  cell_lines_length : (sizes : List ℕ) (h : ℕ) → h + sum_of sizes ≡ n → length (flat_map cell_line (cells_from n table h sizes)) ≤ 55 * length sizes
  unfolding flat_map cells_from sum_of
  cell_lines_length [] h e = omega arith
  cell_lines_length (g ∷ sizes) h e =
      let here = cell_line_length h g (omega arith) in
      let rest = cell_lines_length sizes (h + g) (omega arith) in
      let all = length-append (cell_line (cell_of n table h g)) (flat_map cell_line (cells_from n table (h + g) sizes)) in
      omega arith

  -- ---- the whole text

  -- The text of a grouping of at most 11 variables: 2,047 node lines and 11 cell lines of 55 bytes, and three lines of 26, 16 and 16.
  pub table_text_length : n ≤ 11 → (sizes : List ℕ) → is_grouping n sizes ≡ true → length (table_text n table sizes) ≤ 113248
  unfolding table_text every ascii node_count offset card_for cost record_size
  table_text_length few sizes grouping =
      let all = length-append (head ++ nodes ++ count ++ flat_map cell_line cells) bits in
      let lines = length-append (head ++ nodes ++ count) (flat_map cell_line cells) in
      let counted = length-append (head ++ nodes) count in
      let front = length-append head nodes in
      omega (arith, head_length, nodes_length, count_length, cells_length, bits_length)
    where
      cells : List Cell
      cells = cells_from n table 0 sizes

      head : List ℕ
      head = line "table" (pos n ∷ offset table ∷ [])

      nodes : List ℕ
      nodes = node_lines 1 (records n table)

      count : List ℕ
      count = line "nodes" (pos (node_count n table) ∷ [])

      bits : List ℕ
      bits = line "bits" (pos (total_bits cells) ∷ [])

      few_records : length (records n table) ≤ 2047
      few_records =
          let room = records_room n table in
          let most = pow_mono {i = n} {j = 11} few in
          omega arith

      offset_small : is_weight (offset table) ≡ true
      offset_small = value_weight (offset table) (offset_in_range n table a sizes)

      head_length : length head ≤ 26
      head_length = line_length_lem "table" (pos n ∷ offset table ∷ []) (rw (count_field n (omega arith), offset_small))

      nodes_length : length nodes ≤ 112585
      nodes_length =
          let r = few_records in
          let l = node_lines_length (records n table) 1 (records_small (records n table) 0 (sym (append-nil (written n table))) (omega arith)) (omega arith) in
          omega arith

      count_length : length count ≤ 16
      count_length = line_length_lem "nodes" (pos (node_count n table) ∷ []) (rw (count_field (node_count n table) (let r = few_records in omega arith)))

      cells_length : length (flat_map cell_line cells) ≤ 605
      cells_length =
          let c = grouping_length n sizes grouping in
          let l = cell_lines_length sizes 0 (omega (arith, grouping_sum n sizes grouping)) in
          omega arith

      bits_length : length bits ≤ 16
      bits_length =
          let digits = decimal_length 9 (total_bits cells) (let c = cost_fits n table a sizes grouping in omega arith) in
          omega (arith, one_field_length "bits" (total_bits cells))

-- Every text has at most 113,248 bytes.
pub listing_length_lem : (input : List ℕ) → length (listing input) ≤ 113248
unfolding listing answer_text ascii
listing_length_lem input = either (listed input) refl
  where
    either : (answer : Answer (List ℕ)) → listed input ≡ answer → length (answer_text (get_or input 0 0) (table_of input) answer) ≤ 113248
    either (accepted sizes) e =
        let checked = listed_accepted input sizes e in
        let admitted = plan_admits (get_or input 0 0) (table_of input) (get_or input 1 0) sizes checked.1.1 in
        table_text_length (get_or input 0 0) (table_of input) admitted.0 (listed_range (get_or input 0 0) checked.0).1 sizes (chosen_best (get_or input 0 0) (table_of input) (get_or input 1 0) sizes admitted.1.1).grouping
    either (refused k) e =
        let digits = decimal_length 0 k (let nine = listed_refused input k e in omega arith) in
        omega (arith, one_field_length "refused" k)
