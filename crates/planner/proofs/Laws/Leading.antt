-- The cells that the choices lead to are those of the chosen grouping.
use Rattle.std.specs.Prelude.{ℕ, suc, ◌+◌, ◌-◌, ◌/◌, ◌^◌, ◌≤◌, ◌<◌, ◌≡◌, List, map, length, get_or, ℤ, Option, None}
use Rattle.std.proofs.Common.{◌∙◌, zero-add, pow_pos, arith}
use Rattle.std.proofs.Math.Path.{ap, ap₂}
use Rattle.std.proofs.Math.Nat.{mul-div_cancel_left, add-sub_cancel_left}
use Rattle.std.proofs.lemmas.List.{length-map}
use Rattle.numbers.specs.Lists.{numbers_from}
use Rattle.numbers.specs.Ranges.{most_variables}
use Rattle.numbers.specs.Widths.{rail_width, cell_bits}
use Rattle.numbers.proofs.Laws.Padding.{padded_entry}
use Rattle.numbers.proofs.Laws.Lists.{length_range, get_d_range, get_d_map}
use Rattle.blocks.specs.Classes.{class_count}
use Rattle.blocks.specs.Rows.{cut_place, all_use_rows}
use Rattle.blocks.proofs.Laws.Classes.{class_count_le}
use Rattle.blocks.proofs.Laws.Cuts.{cut_within}
use Rattle.blocks.proofs.Laws.Places.{length_counts, count_at}
use Rattle.blocks.specs.Uses.{commonest, commonest_at}
use Rattle.blocks.specs.Inner.Layout.{in_cut}
use Rattle.blocks.proofs.Laws.UseRows.{length_all_use_rows, use_counts_stand}
use Rattle.image.specs.Cells.{bits_of}
use Rattle.image.specs.Reader.{most_classes}
use Rattle.cascade.specs.Cascade.{cell_of}
use Rattle.cascade.specs.Plan.{plan_cell}
use Rattle.cascade.specs.Inner.Choices.{costing, cell_price, cell_fits, cost_of, size_of, table_choice, choice_array}
use Rattle.cascade.specs.declared.Choice.{Choice}
use Rattle.cascade.proofs.Laws.Cells.{variables_most, class_count_most}
use Rattle.cascade.proofs.Laws.Cheapest.{Leads, choice_leads}
use Rattle.diagram.specs.declared.cuts.Cuts.{Cuts}
use Rattle.planner.specs.Inner.Listed.{size_at, bits_at, width_of_bits, BitsReady, common_at, chosen_cell, CellChosen}

-- The choice at a cut stands at its place in the array.
pub array_at : (n limit : ℕ) (table : List ℤ) (h : ℕ) → h ≤ n → get_or (choice_array n table limit) h None ≡ table_choice n table limit h
unfolding choice_array
array_at n limit table h inside =
    padded_entry None (suc most_variables) (map (table_choice n table limit) (numbers_from 0 (suc n))) h (rw (length-map, length_range) (omega arith))
    ∙ get_d_map (table_choice n table limit) (numbers_from 0 (suc n)) h 0 None (rw length_range (omega arith))
    ∙ ap (table_choice n table limit) (get_d_range 0 (suc n) h 0 (omega arith) ∙ zero-add h)

-- The bits of one word less the rail.
width_back : (incoming group outgoing width : ℕ) → cell_bits incoming group outgoing width / 2 ^ (rail_width incoming + group) ≡ rail_width outgoing + width
unfolding cell_bits
width_back incoming group outgoing width = mul-div_cancel_left (rail_width outgoing + width) (pow_pos (rail_width incoming + group))

module _ (cuts : Cuts) {h : ℕ} {use_count_row : List ℕ} {choices : List (Option Choice)} (r : CellChosen cuts.n h cuts.table.now use_count_row choices) where
  open cuts use {n, admitted, classed}
  open r use {known, cut, cost, size, some}

  abbrev pub table : List ℤ
  table = cuts.table.now

  abbrev count_row : List ℕ
  count_row = cuts.counts.now

  abbrev limit : ℕ
  limit = known.limit

  few : n ≤ 12
  few = variables_most n table admitted

  pub leads : Leads (cell_price n table) (cell_fits n table limit) n h cost size
  leads = choice_leads (cell_price n table) (cell_fits n table limit) n h cost size cut some

  -- The choices at both ends of the cell.
  here : get_or choices h None ≡ costing cost size
  here = ap (λ l. get_or l h None) known.chosen ∙ array_at n limit table h (let c = cut in omega arith) ∙ some

  pub size_is : size_at choices h ≡ size
  unfolding size_at size_of
  size_is = ap size_of here

  there : get_or choices (h + size_at choices h) None ≡ costing leads.rest leads.next
  there = ap₂ (λ l k. get_or l (h + k) None) known.chosen size_is ∙ array_at n limit table (h + size) leads.inside ∙ leads.below

  -- What the cell costs.
  pub cost_there : cost_of (get_or choices (h + size_at choices h) None) ≤ cost_of (get_or choices h None)
  unfolding cost_of
  cost_there = rw (there, here) (let t = leads.together in omega arith)

  bits_is : bits_at choices h ≡ cell_price n table h size
  unfolding bits_at cost_of
  bits_is = ap₂ (λ a b. cost_of a - cost_of b) here there ∙ (let t = leads.together in let e : cost - leads.rest ≡ cell_price n table h size = omega arith in e)

  -- The places that are read.
  pub places : (h < 12) × ((h + size_at choices h ≤ 12) × ((h < length count_row) × (h + size_at choices h < length count_row)))
  places =
      let f = few in
      let c = cut in
      let i = leads.inside in
      let s = size_is in
      let l : length count_row ≡ suc n = ap length classed.counted ∙ length_counts n table in
      (omega arith, (omega arith, (omega arith, omega arith)))

  pub moves : (1 ≤ size_at choices h) × (h + size_at choices h ≤ n)
  moves = rw size_is (leads.some, leads.inside)

  -- The class counts of both cuts stand in their row.
  pub entering : get_or count_row h 0 ≡ class_count n table h
  entering = ap (λ row. get_or row h 0) classed.counted ∙ count_at n table h (let c = cut in omega arith)

  pub leaving_at : get_or count_row (h + size_at choices h) 0 ≡ class_count n table (h + size_at choices h)
  leaving_at = ap (λ row. get_or row (h + size_at choices h) 0) classed.counted ∙ count_at n table (h + size_at choices h) moves.1

  leaving : get_or count_row (h + size_at choices h) 0 ≡ class_count n table (h + size)
  leaving = leaving_at ∙ ap (λ k. class_count n table (h + k)) size_is

  word_bits : bits_at choices h / 2 ^ (rail_width (get_or count_row h 0) + size_at choices h) ≡ rail_width (class_count n table (h + size)) + (cell_of n table h size).width
  unfolding cell_price bits_of cell_of
  word_bits = rw (bits_is, entering, size_is) (width_back (class_count n table h) size (class_count n table (h + size)) (cell_of n table h size).width)

  pub bits_ready : BitsReady (get_or count_row h 0) (size_at choices h) (get_or count_row (h + size_at choices h) 0) (bits_at choices h)
  unfolding most_classes
  bits_ready = record {
    entering = rw entering (class_count_most n table admitted h (let c = cut in omega arith));
    few = let f = few in let m = moves.1 in omega arith;
    leaving = rw leaving (class_count_most n table admitted (h + size) leads.inside);
    whole = rw leaving (let w = word_bits in omega arith);
  }

  -- The same by the cuts' class counts.
  pub counted_bits : BitsReady (class_count n table h) (size_at choices h) (class_count n table (h + size_at choices h)) (bits_at choices h)
  counted_bits = rw (entering, leaving_at) at bits_ready

  width_is : width_of_bits (get_or count_row h 0) (size_at choices h) (get_or count_row (h + size_at choices h) 0) (bits_at choices h) ≡ (cell_of n table h size).width
  unfolding width_of_bits
  width_is = ap₂ (λ word rail. word - rail) word_bits (ap rail_width leaving) ∙ add-sub_cancel_left (rail_width (class_count n table (h + size))) (cell_of n table h size).width

  -- The use counts of a cut's classes stand in their row.
  pub uses_inside : (cut : ℕ) → cut ≤ n → (cut < 64) × (cut_place cut + get_or count_row cut 0 ≤ length use_count_row)
  uses_inside cut above =
      let f = few in
      let l : length use_count_row ≡ cut_place (suc n) = ap length known.used ∙ length_all_use_rows n table in
      (omega arith, rw (ap (λ row. get_or row cut 0) classed.counted ∙ count_at n table cut above) (let c = class_count_le n table cut above in let w = cut_within n cut above in omega arith))

  -- So do those of the next cut's classes.
  pub next_uses : cut_place (h + size_at choices h) + class_count n table (h + size_at choices h) ≤ length use_count_row
  next_uses = rw leaving_at at (uses_inside (h + size_at choices h) moves.1).1

  common_is : common_at count_row use_count_row choices h ≡ commonest_at n table (h + size)
  unfolding common_at commonest_at
  common_is =
      ap₂ (λ row count. commonest (in_cut row (h + size_at choices h) count)) known.used leaving
      ∙ ap (λ k. commonest (in_cut (all_use_rows n table) (h + k) (class_count n table (h + size)))) size_is
      ∙ ap commonest (use_counts_stand n table (h + size) leads.inside)

  -- The cell is that of the table.
  pub cell_is : chosen_cell count_row use_count_row choices h ≡ plan_cell (cell_of n table h size) (commonest_at n table (h + size))
  unfolding chosen_cell plan_cell cell_of cell_price
  cell_is t = record {
    group = size_is t;
    incoming = entering t;
    outgoing = leaving t;
    width = width_is t;
    bits = bits_is t;
    common = (common_is t).class;
    uses = (common_is t).uses;
  }
