-- What is answered and written is Compile's answer.
use Rattle.std.specs.Prelude.{ℕ, ◌≤◌, ◌<◌, ◌≡◌, List, length, ℤ, Result, Ok, Err}
use Rattle.std.proofs.Common.{◌∙◌, le-leb}
use borrow.Author.Tests.{lt-leb}
use Rattle.numbers.specs.Answers.{accepted, refused}
use Rattle.numbers.specs.Lists.{padded, overwritten}
use Rattle.numbers.specs.Ranges.{most_variables}
use Rattle.numbers.specs.Refusals.{answer_of, number}
use Rattle.numbers.specs.declared.Refusal.{Refusal}
use Rattle.numbers.specs.declared.Refusal.TheVariants as refusals
use Rattle.numbers.proofs.Laws.Rows.{overwritten_front}
use Rattle.diagram.specs.Records.{node_count}
use Rattle.cascade.specs.Compile.{image_for, compile, image_summary, compile_answer, compile_cells, compile_buffer, outcome, compiled_cells, Compiles}
use Rattle.cascade.specs.Groupings.{cost}
use Rattle.cascade.specs.Plan.{plan, entries, cell_array, totals}
use Rattle.cascade.specs.declared.Cell.{Cell}
use Rattle.cascade.specs.declared.Compiled.{Compiled}
use Rattle.cascade.specs.Inner.Planned.{PlannedAs}
use Rattle.compiler.specs.Inner.Placing.{image_placed, Places}

-- ---- no grouping

-- Plan's refusal is handed on, and every byte stays.
pub handed_on : (n : ℕ) (table : List ℤ) (limit : ℕ) (buffer : List ℕ) (r : Refusal) → plan n table limit ≡ refused (number r) → Compiles n table limit buffer (Err r) buffer
unfolding compile compile_answer compile_cells compile_buffer cell_array entries outcome compiled_cells answer_of padded most_variables
handed_on n table limit buffer r e = record { answered = rw e; priced = rw e; left = rw e }

-- ---- the grouping's image

module _ (n : ℕ) (table : List ℤ) (sizes buffer : List ℕ) where
  -- What is placed for the chosen grouping is compiled.
  pub placed_compiles : (limit : ℕ) (r : Result Compiled Refusal) (buffer' : List ℕ) → plan n table limit ≡ accepted sizes → Places n table sizes buffer r buffer' → Compiles n table limit buffer r buffer'
  unfolding compile compile_answer compile_cells compile_buffer image_placed
  placed_compiles limit r buffer' e p = record { answered = rw e p.answered; priced = rw e p.priced; left = rw e p.left }

  -- A buffer that is too short is 10, and every byte stays.
  pub places_short : length buffer < length (image_for n table sizes) → Places n table sizes buffer (Err refusals.ImageRoom) buffer
  unfolding image_placed cell_array entries outcome compiled_cells answer_of number padded most_variables
  places_short l = let e = lt-leb (length (image_for n table sizes)) (length buffer) l in record { answered = rw e; priced = rw e; left = rw e }

  -- Else the image stands in front.
  pub places_image : (cells : List Cell) (count bits image_length nodes : ℕ) (buffer' : List ℕ) → PlannedAs n table sizes cells count bits → length (image_for n table sizes) ≤ length buffer → image_length ≡ length (image_for n table sizes) → nodes ≡ node_count n table → buffer' ≡ overwritten buffer 0 (image_for n table sizes) → Places n table sizes buffer (Ok (record { length = image_length; nodes = nodes; count = count; bits = bits; cells = cells })) buffer'
  unfolding image_placed cell_array entries outcome compiled_cells answer_of image_summary totals cost
  places_image cells count bits image_length nodes buffer' p room is_length is_nodes written =
      let e = le-leb (length (image_for n table sizes)) (length buffer) room in
      record {
        answered = rw e (λ t. accepted (record { image_length = is_length t; nodes = is_nodes t; planned = record { cells = p.counted t; bits = p.total t } }));
        priced = rw e p.listed;
        left = rw e (written ∙ overwritten_front buffer (image_for n table sizes));
      }
