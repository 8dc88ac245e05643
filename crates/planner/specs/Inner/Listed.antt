-- The cells that the choices lead to, read off the choices and the rows of class counts and use counts.
use Rattle.std.specs.Prelude.{ℕ, zero, suc, ◌+◌, ◌-◌, ◌/◌, ◌^◌, ◌≤◌, ◌<◌, ◌≡◌, true, false, List, [], ◌∷◌, map, length, get_or, ltb, ℤ, Option, None, Ok}
use Rattle.numbers.specs.Lists.{padded}
use Rattle.numbers.specs.Ranges.{most_variables}
use Rattle.numbers.specs.Widths.{rail_width}
use Rattle.blocks.specs.Rows.{all_use_rows}
use Rattle.blocks.specs.Uses.{commonest}
use Rattle.blocks.specs.Inner.Layout.{in_cut}
use Rattle.blocks.specs.declared.Common.{Common}
use Rattle.cascade.specs.Plan.{no_cell}
use Rattle.cascade.specs.Inner.Choices.{costing, cost_of, size_of, table_choice, choice_array}
use Rattle.cascade.specs.declared.Cell.{Cell}
use Rattle.cascade.specs.declared.Choice.{Choice}
use Rattle.cascade.specs.declared.Planned.{Planned}

-- The size that the choice at cut h takes, and what its cell costs.
unfoldable pub size_at : List (Option Choice) → ℕ → ℕ
size_at choices h = size_of (get_or choices h None)

unfoldable pub bits_at : List (Option Choice) → ℕ → ℕ
bits_at choices h = cost_of (get_or choices h None) - cost_of (get_or choices (h + size_at choices h) None)

-- The weight width of a cell with so many bits: each of its words has a class and a weight, so it is the bits of one word less the rail.
unfoldable pub width_of_bits : ℕ → ℕ → ℕ → ℕ → ℕ
width_of_bits incoming group outgoing bits = bits / 2 ^ (rail_width incoming + group) - rail_width outgoing

-- Counts, a group and bits of which it can be worked out.
pub record BitsReady (incoming group outgoing bits : ℕ) : Type 0 where
  pub entering : incoming ≤ 4096
  pub few : group ≤ 12
  pub leaving : outgoing ≤ 4096
  pub whole : rail_width outgoing ≤ bits / 2 ^ (rail_width incoming + group)

-- The commonest class of the cut where that cell ends.
unfoldable pub common_at : List ℕ → List ℕ → List (Option Choice) → ℕ → Common
common_at count_row use_count_row choices h = commonest (in_cut use_count_row (h + size_at choices h) (get_or count_row (h + size_at choices h) 0))

-- The cell that the choice at cut h takes.
unfoldable pub chosen_cell : List ℕ → List ℕ → List (Option Choice) → ℕ → Cell
chosen_cell count_row use_count_row choices h = record {
  group = size_at choices h;
  incoming = get_or count_row h 0;
  outgoing = get_or count_row (h + size_at choices h) 0;
  width = width_of_bits (get_or count_row h 0) (size_at choices h) (get_or count_row (h + size_at choices h) 0) (bits_at choices h);
  bits = bits_at choices h;
  common = (common_at count_row use_count_row choices h).class;
  uses = (common_at count_row use_count_row choices h).uses;
}

-- The cells from cut h down to the bottom cut n, in at most so many.
unfoldable pub chosen_cells : List ℕ → List ℕ → List (Option Choice) → ℕ → ℕ → ℕ → List Cell
chosen_cells count_row use_count_row choices n zero h = []
chosen_cells count_row use_count_row choices n (suc most) h = elim (ltb h n) [ true ↦ chosen_cell count_row use_count_row choices h ∷ chosen_cells count_row use_count_row choices n most (h + size_at choices h) | false ↦ [] ]

-- The choices of a table within some limit, and its use counts.
pub record ChoicesKnown (n : ℕ) (table : List ℤ) (use_count_row : List ℕ) (choices : List (Option Choice)) : Type 0 where
  pub limit : ℕ
  pub used : use_count_row ≡ all_use_rows n table
  pub chosen : choices ≡ choice_array n table limit

-- A cut above the bottom one, from which some list of sizes fits.
pub record CellChosen (n h : ℕ) (table : List ℤ) (use_count_row : List ℕ) (choices : List (Option Choice)) : Type 0 where
  pub known : ChoicesKnown n table use_count_row choices
  pub cut : h < n
  pub cost : ℕ
  pub size : ℕ
  pub some : table_choice n table known.limit h ≡ costing cost size

-- Some list of sizes fits from the top cut on.
pub record ListChosen (n : ℕ) (table : List ℤ) (use_count_row : List ℕ) (choices : List (Option Choice)) : Type 0 where
  pub known : ChoicesKnown n table use_count_row choices
  pub cost : ℕ
  pub size : ℕ
  pub some : table_choice n table known.limit 0 ≡ costing cost size

-- Plan's answer for chosen cells with so many bits in all.
unfoldable pub listed_plan : List Cell → ℕ → Planned
listed_plan cells bits = record {
  verdict = Ok (record { cells = length cells; bits = bits });
  sizes = padded most_variables 0 (map (λ cell. cell.group) cells);
  cells = padded most_variables no_cell cells;
}
