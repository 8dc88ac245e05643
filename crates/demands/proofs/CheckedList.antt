-- The paper's checked values P1 to P10: one list of data, under one theorem that computes through the definitions.
use Rattle.std.specs.Prelude.{ℕ, ◌-◌, ◌*◌, ◌≡◌, refl, length, replicate, ℤ, pos, neg_ℤ}
use Prim.Native.String.{String}
use mathlib.Core.List.{List, [], ◌∷◌, ◌++◌, map, flat_map}
use Rattle.numbers.specs.Answers.{Answer, accepted, refused, map_answer, and_then}
use Rattle.numbers.specs.Lists.{numbers_from, every, keep, tally, sum_of, least_from, least, padded}
use Rattle.numbers.specs.Ranges.{most_variables, widest_address, is_variables, is_limit, within, is_value, eq_z}
use Rattle.numbers.specs.Widths.{rail_width, holds, holds_unsigned, enough, least_width, none_negative, weight_width, cell_bits}
use Rattle.blocks.specs.Blocks.{block, blocks, first, lower_half, upper_half, differences}
use Rattle.blocks.specs.Classes.{same, number_in, learn, learn_all, distinct, classes, class_count, class_of, rail_at}
use Rattle.blocks.specs.Uses.{use_count, classes_at, use_counts, most_uses, commonest, commonest_at}
use Rattle.diagram.specs.Records.{branches, kinds, records_below, node, record_of, records_at, records, record_numbers, record_size, offset, node_count}
use Rattle.diagram.specs.Build.{of_table, node_room, build, build_answer}
use Rattle.diagram.specs.Bound.{step_at, is_jump, jumps, rising_kinds, node_bound}
use Rattle.operands.specs.Bytes.{big_endian, signed_bytes, number, unsigned_at, signed_at}
use Rattle.image.specs.Cells.{bits_of, total_bits}
use Rattle.image.specs.Commands.{command_bytes, word_command, cell_commands, card_commands, image_of}
use Rattle.cascade.specs.Cascade.{word_of, words_of, cell_of, cells_from, card_for}
use Rattle.cascade.specs.Groupings.{descending, closing, groupings_within, groupings, address_width, fits_from, fits, cost, cheapest, first_cheapest, chosen}
use Rattle.cascade.specs.Plan.{plan, plan_cell, plan_cells, no_cell, entries, size_array, cell_array, totals, plan_answer}
use Rattle.cascade.specs.declared.Cell.{Cell as PlanCell}
use Rattle.cascade.specs.Compile.{ImageSummary, image_for, compile, image_summary, compile_answer, compile_cells, compile_buffer}
use Rattle.lines.specs.Text.{ascii, decimal_digits, decimal, fields, line}
use Rattle.listing.specs.Listing.{most_listed, is_listed, image_room, table_of, listed, shown_numbers, node_line, node_lines, cell_line, table_text, answer_text, listing}

-- What a case asks.
data Question : Type 0 where
  -- The listing of n, A and the values.
  text_of : ℕ → ℕ → List ℤ → Question
  -- Plan's sizes, cells, number of cells and total bits for n, A and the values.
  plan_of : ℕ → ℕ → List ℤ → Question
  -- What Compile answers and leaves in a buffer of so many bytes for n, A and the values: length, node count, number
  -- of cells and bits, the cells, and the buffer.
  image_in : ℕ → ℕ → List ℤ → ℕ → Question
  -- Build's and Compile's node counts for n, A and the values.
  nodes_of : ℕ → ℕ → List ℤ → Question
  -- k and the node bound for n, the values, p and l.
  bound_of : ℕ → List ℤ → ℕ → ℕ → Question

-- A cell as numbers.
cell_numbers : PlanCell → List ℕ
cell_numbers cell =
    cell.group ∷ cell.incoming ∷ cell.outgoing ∷ cell.width ∷ cell.bits ∷ cell.common ∷ cell.uses ∷ []

-- A buffer of so many bytes, each 99.
filled : ℕ → List ℕ
filled room = replicate room 99

-- A case's answer by the definitions, as numbers.
answer : Question → Answer (List ℤ)
answer (text_of n limit table) = accepted (map pos (listing (n ∷ limit ∷ flat_map signed_bytes table)))
answer (plan_of n limit table) =
    map_answer
    (λ t. map pos
    (size_array (plan n table limit)
    ++ flat_map cell_numbers (cell_array n table (plan n table limit))
    ++ t.cells ∷ t.bits ∷ []))
    (plan_answer n table limit)
answer (image_in n limit table room) =
    map_answer
    (λ r. map pos
    (r.image_length ∷ r.nodes ∷ r.planned.cells ∷ r.planned.bits
    ∷ flat_map cell_numbers (compile_cells n table limit room)
    ++ compile_buffer n table limit (filled room)))
    (compile_answer n table limit room)
answer (nodes_of n limit table) =
    and_then (build_answer n table (node_room n))
    (λ s. map_answer (λ r. map pos (s.nodes ∷ r.nodes ∷ [])) (compile_answer n table limit 65536))
answer (bound_of n table p l) = accepted (pos (jumps n table p) ∷ node_bound n table p l ∷ [])

record Case : Type 0 where
  question : Question
  expected : Answer (List ℤ)

asks : Question → Answer (List ℤ) → Case
asks question expected = record { question = question; expected = expected }

numbers : List ℕ → Answer (List ℤ)
numbers l = accepted (map pos l)

text : String → Answer (List ℤ)
text s = numbers (ascii s)

-- The entries of an array of 12 places, each of so many numbers: those past the last hold 0.
array : ℕ → List ℕ → List ℕ
array width list = list ++ replicate (12 * width - length list) 0

-- A plan of these sizes and cells, with so many bits in all.
plans : List ℕ → List PlanCell → ℕ → Answer (List ℤ)
plans sizes cells bits = numbers (array 1 sizes ++ array 7 (flat_map cell_numbers cells) ++ length cells ∷ bits ∷ [])

-- An image of so many bytes and a diagram of so many nodes, with these cells and bits, and what the buffer then holds.
compiles : ImageSummary → List PlanCell → List ℕ → Answer (List ℤ)
compiles summary cells buffer =
    numbers
    (summary.image_length ∷ summary.nodes ∷ summary.planned.cells ∷ summary.planned.bits
    ∷ array 7 (flat_map cell_numbers cells)
    ++ buffer)

-- The one cell of a table of two values, by its weight width and its bits: both values have the class at its end.
one_cell : ℕ → ℕ → PlanCell
one_cell width bits = record { group = 1; incoming = 1; outgoing = 1; width = width; bits = bits; common = 0; uses = 2 }

-- What Compile answers for P4.
small_summary : ImageSummary
small_summary = record { image_length = 32; nodes = 2; planned = record { cells = 1; bits = 4 } }

-- The table of P1, P2, P3 and P10.
figure : List ℤ
figure = map pos (0 ∷ 0 ∷ 0 ∷ 0 ∷ 1 ∷ 1 ∷ 2 ∷ 3 ∷ 4 ∷ 4 ∷ 5 ∷ 6 ∷ 7 ∷ 7 ∷ 7 ∷ 7 ∷ [])

-- The image of P4.
small_image : List ℕ
small_image =
    0x56 ∷ 0x01 ∷ 0x00 ∷ 0x00 ∷ 0x00 ∷ 0x05 ∷ 0x43 ∷ 0x01 ∷ 0x00 ∷ 0x01 ∷ 0x00 ∷ 0x01 ∷ 0x02
    ∷ 0x57 ∷ 0x00 ∷ 0x00 ∷ 0x00 ∷ 0x00 ∷ 0x00 ∷ 0x00 ∷ 0x57 ∷ 0x00 ∷ 0x00 ∷ 0x00 ∷ 0x00 ∷ 0x00 ∷ 0x03
    ∷ 0x45 ∷ 0x00 ∷ 0x00 ∷ 0x00 ∷ 0x04 ∷ []

-- The cells of P2, from the top down.
figure_cells : List PlanCell
figure_cells =
    record { group = 2; incoming = 1; outgoing = 2; width = 3; bits = 16; common = 0; uses = 2 }
    ∷ record { group = 1; incoming = 2; outgoing = 2; width = 1; bits = 8; common = 0; uses = 6 }
    ∷ record { group = 1; incoming = 2; outgoing = 1; width = 1; bits = 4; common = 0; uses = 16 }
    ∷ []

-- The cell of P9: no weight, no rail, no bits.
level_cell : PlanCell
level_cell = record { group = 2; incoming = 1; outgoing = 1; width = 0; bits = 0; common = 0; uses = 4 }

-- The table of P9.
level : List ℤ
level = map pos (7 ∷ 7 ∷ 7 ∷ 7 ∷ [])

cases : List Case
cases =
    -- P1
    asks (text_of 4 4 figure)
    (text
    "table 4 0\nnode 1 0 0 0 1\nnode 2 1 0 1 1\nnode 3 2 0 2 1\nnode 4 2 2 0 3\nnode 5 3 3 4 4\nnodes 6\ncell 2 1 2 3 16\ncell 1 2 2 1 8\ncell 1 2 1 1 4\nbits 28\n")
    -- P2
    ∷ asks (plan_of 4 2 figure) (plans (2 ∷ 1 ∷ 1 ∷ []) figure_cells 28)
    -- P3
    ∷ asks (plan_of 4 1 figure) (refused 9)
    -- P4, with both buffer lengths, and a longer one
    ∷ asks (image_in 1 1 (pos 5 ∷ pos 8 ∷ []) 31) (refused 10)
    ∷ asks (image_in 1 1 (pos 5 ∷ pos 8 ∷ []) 32) (compiles small_summary (one_cell 2 4 ∷ []) small_image)
    ∷ asks (image_in 1 1 (pos 5 ∷ pos 8 ∷ []) 34) (compiles small_summary (one_cell 2 4 ∷ []) (small_image ++ 99 ∷ 99 ∷ []))
    -- P5 to P8
    ∷ asks (plan_of 1 1 (pos 3 ∷ pos 2 ∷ [])) (plans (1 ∷ []) (one_cell 1 2 ∷ []) 2)
    ∷ asks (plan_of 1 1 (pos 2 ∷ pos 3 ∷ [])) (plans (1 ∷ []) (one_cell 1 2 ∷ []) 2)
    ∷ asks (plan_of 1 1 (pos 4 ∷ pos 2 ∷ [])) (plans (1 ∷ []) (one_cell 2 4 ∷ []) 4)
    ∷ asks (plan_of 1 1 (neg_ℤ (pos 8388608) ∷ pos 8388607 ∷ [])) (plans (1 ∷ []) (one_cell 24 48 ∷ []) 48)
    -- P9
    ∷ asks (plan_of 2 2 level) (plans (2 ∷ []) (level_cell ∷ []) 0)
    ∷ asks (nodes_of 2 2 level) (numbers (1 ∷ 1 ∷ []))
    -- P10
    ∷ asks (bound_of 4 figure 1 1) (numbers (0 ∷ 9 ∷ []))
    ∷ []

-- Every case's answer is the paper's.
checked_values : map (λ c. answer c.question) cases ≡ map (λ c. c.expected) cases
unfolding cases asks answer numbers text figure figure_cells level level_cell small_image small_summary cell_numbers filled array plans compiles one_cell numbers_from every keep tally sum_of least_from least most_variables widest_address is_variables is_limit within is_value eq_z rail_width holds holds_unsigned enough least_width none_negative weight_width cell_bits block blocks first lower_half upper_half differences same number_in learn learn_all distinct classes class_count class_of rail_at use_count classes_at use_counts most_uses commonest commonest_at branches kinds records_below node record_of records_at records record_numbers record_size offset node_count of_table node_room build build_answer step_at is_jump jumps rising_kinds node_bound big_endian signed_bytes number unsigned_at signed_at bits_of total_bits command_bytes word_command cell_commands card_commands image_of word_of words_of cell_of cells_from card_for descending closing groupings_within groupings address_width fits_from fits cost cheapest first_cheapest chosen plan plan_cell plan_cells no_cell entries size_array cell_array totals plan_answer image_for compile image_summary compile_answer compile_cells compile_buffer padded ascii decimal_digits decimal fields line most_listed is_listed image_room table_of listed shown_numbers node_line node_lines cell_line table_text answer_text listing flat_map
checked_values = refl
