-- The card of a grouping keeps every rule of the image reader.
use Rattle.std.specs.Prelude.{ℕ, ◌+◌, ◌-◌, ◌≤◌, ◌≡◌, refl, true, leb, eqb, ℤ}
use Rattle.std.proofs.Common.{◌∙◌, zero-add}
use Rattle.std.proofs.Math.Path.{subst, subst₂}
use mathlib.Core.List.{List, [], ◌∷◌}
use native.Mathlib.Omega.{arith}
use borrow.Author.Tests.{leb-true, eqb-true}
use Rattle.numbers.specs.Lists.{every, sum_of}
use Rattle.numbers.proofs.Laws.Bools.{both}
use Rattle.blocks.specs.Classes.{class_count}
use Rattle.blocks.proofs.Laws.Classes.{one_class_at_top}
use Rattle.diagram.specs.Accepted.{Accepted}
use Rattle.image.specs.WellFormed.{no_word, weights, KeepsCell, KeepsCellsBy, KeepsCells, WellFormed}
use Rattle.cascade.specs.Cascade.{cell_of, cells_from, card_for}
use Rattle.cascade.specs.Groupings.{is_grouping}
use Rattle.cascade.proofs.Laws.Cells.{cell_words, cell_width, cell_outgoing, cell_address, cell_class_below, cell_weight_range, cell_weight_zero, bottom_outgoing, offset_in_range}

module _ (n : ℕ) (table : List ℤ) (accepted : Accepted n table) where
  -- One cell.
  keeps_cell : (h g : ℕ) → 1 ≤ g → h + g ≤ n → KeepsCell (n - h) (class_count n table h) (cell_of n table h g)
  unfolding cell_of weights
  keeps_cell h g some ends = record {
    shape = record {
      some = some;
      inside = omega arith;
      joined = refl;
      leaving = (cell_outgoing n table accepted h g ends).0;
      most = (cell_outgoing n table accepted h g ends).1;
      last = λ e. bottom_outgoing n table accepted h g (omega arith);
      address = cell_address n table accepted h g ends;
    };
    whole = cell_words n table h g;
    words = λ j l. record {
      known = cell_class_below n table accepted h g ends j no_word l;
      ranged = cell_weight_range n table accepted h g ends j no_word l;
      grounded = cell_weight_zero n table accepted h g ends j no_word l;
    };
    width = cell_width n table h g;
  }

  -- The cells from cut h down.
  keeps_cells : (h : ℕ) (sizes : List ℕ) → every (leb 1) sizes ≡ true → h + sum_of sizes ≡ n → KeepsCells (n - h) (class_count n table h) (cells_from n table h sizes)
  unfolding KeepsCellsBy cells_from every sum_of cell_of
  keeps_cells h [] some ends = omega arith
  keeps_cells h (g ∷ sizes) some ends =
      let parts = both (leb 1 g) (every (leb 1) sizes) some in (
        keeps_cell h g (leb-true 1 g parts.0) (omega arith),
        subst (λ left. KeepsCells left (class_count n table (h + g)) (cells_from n table (h + g) sizes))
            (let e : n - (h + g) ≡ n - h - g = omega arith in e)
            (keeps_cells (h + g) sizes parts.1 (omega arith)),
      )

  -- The whole card.
  pub card_well_formed : (sizes : List ℕ) → is_grouping n sizes ≡ true → WellFormed (card_for n table sizes)
  unfolding is_grouping card_for
  card_well_formed sizes grouping =
      let parts = both (every (leb 1) sizes) (eqb (sum_of sizes) n) grouping in
      record {
        variables = accepted.variables;
        offset = offset_in_range n table accepted sizes;
        cells =
            subst₂ (λ left classes. KeepsCells left classes (cells_from n table 0 sizes)) (let e : n - 0 ≡ n = omega arith in e) (one_class_at_top n table)
            (keeps_cells 0 sizes parts.0 (zero-add (sum_of sizes) ∙ eqb-true (sum_of sizes) n parts.1));
      }
