-- Plan's planned cells and its arrays, and from its promise to the cells.
use Rattle.std.specs.Prelude.{ℕ, zero, suc, ◌+◌, ◌-◌, ◌≤◌, ◌<◌, ◌≡◌, List, [], ◌∷◌, ◌++◌, map, get_or, take, drop, replicate, ℤ, Ok, Err}
use Rattle.std.proofs.Math.Path.{refl, sym, ap}
use Rattle.std.proofs.Common.{◌∙◌, ap₂, add-zero, add_assoc, arith, take-append-drop, take-suc}
use Rattle.std.proofs.Math.ListN.{length}
use Rattle.std.proofs.lemmas.List.{length-map}
use Rattle.numbers.specs.Answers.{Answer, accepted, refused, map_answer}
use Rattle.numbers.specs.Refusals.{number, answer_of}
use Rattle.numbers.specs.declared.Refusal.{Refusal}
use Rattle.numbers.specs.Lists.{padded, sum_of}
use Rattle.numbers.specs.Ranges.{most_variables}
use Rattle.numbers.proofs.Laws.Padding.{length_padded, take_padded}
use Rattle.numbers.proofs.Laws.Tallies.{sum_append}
use Rattle.blocks.specs.Uses.{commonest_at}
use Rattle.diagram.specs.Accepted.{Accepted}
use Rattle.cascade.specs.Cascade.{cell_of}
use Rattle.cascade.specs.Groupings.{cost}
use Rattle.cascade.specs.Plan.{plan, plan_cell, plan_cells, no_cell, entries, size_array, cell_array, Totals, totals, plan_answer, judgement, Plans}
use Rattle.cascade.specs.Inner.Planned.{groups, PlannedAs, Chosen}
use Rattle.cascade.specs.declared.Cell.{Cell}
use Rattle.cascade.specs.declared.Grouping.{Grouping}
use Rattle.cascade.specs.declared.Planned.{Planned}
use Rattle.cascade.proofs.Laws.Admitting.{never_both, plan_admits}
use Rattle.cascade.proofs.Laws.Cells.{variables_most}
use Rattle.cascade.proofs.Laws.Chosen.{chosen_best}
use Rattle.cascade.proofs.Laws.Groupings.{grouping_length}

-- ---- where a cell begins and ends

module _ (sizes : List ℕ) (k : ℕ) (below : k < length sizes) where
  -- The sizes up to cell k,
  pub sum_next : sum_of (take (suc k) sizes) ≡ sum_of (take k sizes) + get_or sizes k 0
  unfolding sum_of
  sum_next = ap sum_of (take-suc sizes k 0 below) ∙ sum_append (take k sizes) (get_or sizes k 0 ∷ []) ∙ ap (λ m. sum_of (take k sizes) + m) (add-zero (get_or sizes k 0))

  -- which are part of all.
  pub sum_within : sum_of (take k sizes) + get_or sizes k 0 ≤ sum_of sizes
  sum_within = let e = ap sum_of (sym (take-append-drop (suc k) sizes)) ∙ sum_append (take (suc k) sizes) (drop (suc k) sizes) in let s = sum_next in omega arith

-- ---- planned cells

-- The sizes of a list of cells,
pub groups_back : (n : ℕ) (table : List ℤ) (h : ℕ) (sizes : List ℕ) → map (λ cell. cell.group) (plan_cells n table h sizes) ≡ sizes
unfolding plan_cell plan_cells cell_of
groups_back n table h [] = refl
groups_back n table h (g ∷ sizes) = ap (λ rest. g ∷ rest) (groups_back n table (h + g) sizes)

-- their number,
pub planned_count : (n : ℕ) (table : List ℤ) (h : ℕ) (sizes : List ℕ) → length (plan_cells n table h sizes) ≡ length sizes
planned_count n table h sizes = sym (length-map (plan_cells n table h sizes) (λ cell. cell.group)) ∙ ap length (groups_back n table h sizes)

-- and each of them: that of its cut and its size, with the commonest class where it ends.
pub planned_at : (n : ℕ) (table : List ℤ) (h : ℕ) (sizes : List ℕ) (k : ℕ) → k < length sizes → (d : Cell) → let cut = h + sum_of (take k sizes) in get_or (plan_cells n table h sizes) k d ≡ plan_cell (cell_of n table cut (get_or sizes k 0)) (commonest_at n table (cut + get_or sizes k 0))
unfolding plan_cells sum_of
planned_at n table h [] k below d = absurd (omega arith)
planned_at n table h (g ∷ sizes) zero below d = ap (λ cut. plan_cell (cell_of n table cut g) (commonest_at n table (cut + g))) (sym (add-zero h))
planned_at n table h (g ∷ sizes) (suc k) below d =
    planned_at n table (h + g) sizes k (omega arith) d
    ∙ ap (λ cut. plan_cell (cell_of n table cut (get_or sizes k 0)) (commonest_at n table (cut + get_or sizes k 0))) (add_assoc h g (sum_of (take k sizes)))

module _ {n : ℕ} {table : List ℤ} {sizes : List ℕ} {cells : List Cell} {count bits : ℕ} (a : Accepted n table) (p : PlannedAs n table sizes cells count bits) where
  -- There are at most as many as variables, in an array of 12.
  pub few : count ≤ 12
  few = let g = grouping_length n sizes p.grouping in let m = variables_most n table a in let c = p.counted in omega arith

  pub places : length cells ≡ 12
  unfolding most_variables
  places = ap length p.listed ∙ length_padded no_cell 12 (plan_cells n table 0 sizes) (let c = planned_count n table 0 sizes in let f = few in let d = p.counted in omega arith)

  -- The first cells are the grouping's.
  pub front : take count cells ≡ plan_cells n table 0 sizes
  front =
      ap₂ take (p.counted ∙ sym (planned_count n table 0 sizes)) p.listed
      ∙ take_padded no_cell most_variables (plan_cells n table 0 sizes)

  pub groups_are : groups cells count ≡ sizes
  unfolding groups
  groups_are = ap (map (λ cell. cell.group)) front ∙ groups_back n table 0 sizes

-- ---- Plan's arrays

-- A refusal has arrays of 0.
pub arrays_refused : (n : ℕ) (table : List ℤ) (k : ℕ) → (size_array (refused k) ≡ replicate 12 0) × (cell_array n table (refused k) ≡ replicate 12 no_cell)
unfolding size_array cell_array entries padded most_variables
arrays_refused n table k = (refl, refl)

pub no_cell_lem : no_cell ≡ record { group = 0; incoming = 0; outgoing = 0; width = 0; bits = 0; common = 0; uses = 0 }
unfolding no_cell
no_cell_lem = refl

-- A grouping has its sizes and cells there, and 0 behind them.
pub arrays_accepted : (n : ℕ) (table : List ℤ) (sizes : List ℕ) → (size_array (accepted sizes) ≡ sizes ++ replicate (12 - length sizes) 0) × (cell_array n table (accepted sizes) ≡ plan_cells n table 0 sizes ++ replicate (12 - length (plan_cells n table 0 sizes)) no_cell)
unfolding size_array cell_array entries padded most_variables
arrays_accepted n table sizes = (refl, refl)

-- ---- from Plan's promise

module _ (n : ℕ) (table : List ℤ) (limit : ℕ) (p : Planned) (plans : Plans n table limit p) where
  -- Plan's refusal is the number of its verdict's.
  pub plan_refused : (r : Refusal) → p.verdict ≡ Err r → plan n table limit ≡ refused (number r)
  unfolding judgement plan_answer answer_of
  plan_refused r e = unmapped (plan n table limit) (sym (sym (ap judgement e) ∙ plans.judged))
    where
      unmapped : (answer : Answer (List ℕ)) → map_answer (totals n table) answer ≡ refused (number r) → answer ≡ refused (number r)
      unmapped (accepted sizes) f = cc
      unmapped (refused j) f = cc

  module _ (g : Grouping) (grouped : p.verdict ≡ Ok g) where
    -- A verdict with a grouping: its cells are those of Plan's sizes.
    pub plan_chosen : Chosen n table limit p.cells g.cells g.bits
    unfolding judgement plan_answer totals cell_array entries cost answer_of
    plan_chosen = either (plan n table limit) refl
      where
        either : (answer : Answer (List ℕ)) → plan n table limit ≡ answer → Chosen n table limit p.cells g.cells g.bits
        either (accepted sizes) f =
            let same : accepted (record { cells = g.cells; bits = g.bits }) ≡ accepted (totals n table sizes) = sym (ap judgement grouped) ∙ plans.judged ∙ ap (map_answer (totals n table)) f in
            record {
              sizes = sizes;
              chosen = f;
              planned = record {
                grouping = (chosen_best n table limit sizes (plan_admits n table limit sizes f).1.1).grouping;
                listed = plans.priced ∙ ap (cell_array n table) f;
                counted = ap (λ (a : Answer Totals). elim a [ accepted t ↦ t.cells | refused k ↦ 0 ]) same;
                total = ap (λ (a : Answer Totals). elim a [ accepted t ↦ t.bits | refused k ↦ 0 ]) same;
              };
            }
        either (refused k) f = absurd (never_both (record { cells = g.cells; bits = g.bits }) k (sym (sym (ap judgement grouped) ∙ plans.judged ∙ ap (map_answer (totals n table)) f)))

    pub plan_accepts : Accepted n table
    plan_accepts = (plan_admits n table limit plan_chosen.sizes plan_chosen.chosen).0

    pub planned_groups : plan n table limit ≡ accepted (groups p.cells g.cells)
    planned_groups = plan_chosen.chosen ∙ ap accepted (sym (groups_are plan_accepts plan_chosen.planned))
