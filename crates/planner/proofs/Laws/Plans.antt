-- What the choices and the checks give is Plan's answer.
use Rattle.std.specs.Prelude.{◌≡◌, true, false, List, ◌∷◌, map, ltb, ℤ, Option, None}
use Rattle.std.proofs.Math.Path.{refl, sym, ap, ap₂}
use Rattle.std.proofs.Common.{◌∙◌, ℕ, zero, suc, ◌+◌, ◌^◌, ◌<◌, ltb-true, ltb-false, eq-eqb}
use Rattle.std.proofs.Math.ListN.{length}
use Rattle.std.proofs.lemmas.List.{length-map}
use Rattle.numbers.specs.Answers.{accepted, refused, unless, map_answer, and_then}
use Rattle.numbers.specs.Refusals.{number, answer_of}
use Rattle.numbers.specs.declared.Refusal.{Refusal}
use Rattle.numbers.specs.Lists.{padded}
use Rattle.numbers.specs.Ranges.{is_limit, most_variables}
use Rattle.numbers.proofs.Laws.Bools.{yes_or_no}
use Rattle.diagram.specs.Accepted.{Accepted}
use Rattle.diagram.specs.Build.{of_table}
use Rattle.diagram.specs.declared.cuts.Cuts.{Cuts}
use Rattle.diagram.specs.Inner.Checks.{table_checks}
use Rattle.diagram.proofs.Laws.Builds.{after_checks}
use Rattle.image.specs.Cells.{total_bits}
use Rattle.cascade.specs.Cascade.{cells_from}
use Rattle.cascade.specs.Groupings.{chosen, cost}
use Rattle.cascade.specs.Plan.{plan, plan_cells, no_cell, entries, size_array, cell_array, totals, plan_answer, judgement, Plans}
use Rattle.cascade.proofs.Laws.Compiled.{plan_chooses}
use Rattle.cascade.specs.Inner.Choices.{costing, size_of, sizes_from, answered, table_choice}
use Rattle.cascade.specs.declared.Choice.{Choice}
use Rattle.cascade.proofs.Laws.Cheapest.{sizes_step, sizes_end}
use Rattle.cascade.proofs.Laws.Chosen.{chosen_by_choices, choice_top_cost}
use Rattle.cascade.proofs.Laws.Planned.{groups_back}
use Rattle.planner.specs.Inner.Listed.{chosen_cells, ChoicesKnown, CellChosen, ListChosen, listed_plan}
use Rattle.planner.specs.Inner.Rows.{refused_plan}
use Rattle.planner.proofs.Laws.Leading.{leads, size_is, cell_is}
use Rattle.planner.proofs.Laws.Listed.{cells_step, cells_end}

-- ---- refusals

module _ (n : ℕ) (table : List ℤ) (limit : ℕ) where
  -- A refusal of Plan.
  pub refused_plans : (refusal : Refusal) → plan n table limit ≡ refused (number refusal) → Plans n table limit (refused_plan refusal)
  unfolding refused_plan judgement answer_of plan_answer size_array cell_array entries
  refused_plans refusal e = record { judged = rw e; listed = rw e; priced = rw e }

  -- The checks on the table refuse.
  pub plan_unfit : (number : ℕ) → table_checks n table ≡ refused number → plan n table limit ≡ refused number
  unfolding plan
  plan_unfit number e = after_checks n table _ ∙ ap (λ a. and_then a (λ t. unless (is_limit limit) 8 (chosen n table limit))) e

  module _ (a : Accepted n table) where
    -- The limit is refused.
    pub plan_limited : is_limit limit ≡ false → plan n table limit ≡ refused 8
    unfolding plan of_table
    plan_limited l = rw (a.variables, eq-eqb (length table) (2 ^ n) a.size, a.values, l)

    -- No list of sizes fits from the top cut on.
    pub plan_none : is_limit limit ≡ true → table_choice n table limit 0 ≡ None → plan n table limit ≡ refused 9
    unfolding answered
    plan_none l e = plan_chooses n table a limit l ∙ chosen_by_choices n table limit ∙ ap (λ choice. answered choice (sizes_from (table_choice n table limit) n n 0)) e

-- ---- the chosen cells

module _ (cuts : Cuts) where
  open cuts use {n, admitted}

  abbrev table : List ℤ
  table = cuts.table.now

  abbrev count_row : List ℕ
  count_row = cuts.counts.now

  module _ {use_count_row : List ℕ} {choices : List (Option Choice)} (k : ChoicesKnown n table use_count_row choices) where
    abbrev at : ℕ → Option Choice
    at = table_choice n table k.limit

    -- From a cut on, the cells that the choices lead to are those of the sizes that they lead to.
    cells_are : (most h : ℕ) → (h < n → (cost : ℕ) × ((size : ℕ) × (at h ≡ costing cost size))) → chosen_cells count_row use_count_row choices n most h ≡ plan_cells n table h (sizes_from at n most h)
    unfolding chosen_cells sizes_from plan_cells size_of
    cells_are zero h ahead = refl
    cells_are (suc most) h ahead =
        yes_or_no (ltb h n)
        (λ l.
        let below = ltb-true h n l in
        let here = ahead below in
        let c : CellChosen n h table use_count_row choices = record { known = k; cut = below; cost = here.0; size = here.1.0; some = here.1.1 } in
        cells_step count_row use_count_row choices n most h below
        ∙ ap₂ (λ cell rest. cell ∷ rest) (cell_is cuts c)
        (ap (λ g. chosen_cells count_row use_count_row choices n most (h + g)) (size_is cuts c)
        ∙ cells_are most (h + here.1.0) (λ m. ((leads cuts c).rest, ((leads cuts c).next, (leads cuts c).below))))
        ∙ sym (ap (plan_cells n table h) (sizes_step at n most h below ∙ ap (λ g. g ∷ sizes_from at n most (h + g)) (ap size_of here.1.1))))
        (λ l. let past = ltb-false h n l in cells_end count_row use_count_row choices n (suc most) h past ∙ sym (ap (plan_cells n table h) (sizes_end at n (suc most) h past)))

  module _ {use_count_row : List ℕ} {choices : List (Option Choice)} (r : ListChosen n table use_count_row choices) where
    abbrev whole : List ℕ
    whole = sizes_from (table_choice n table r.known.limit) n n 0

    planned : is_limit r.known.limit ≡ true → plan n table r.known.limit ≡ accepted whole
    unfolding answered
    planned l = plan_chooses n table admitted r.known.limit l ∙ chosen_by_choices n table r.known.limit ∙ ap (λ choice. answered choice whole) r.some

    cells : chosen_cells count_row use_count_row choices n n 0 ≡ plan_cells n table 0 whole
    cells = cells_are r.known n 0 (λ m. (r.cost, (r.size, r.some)))

    sizes : map (λ cell. cell.group) (chosen_cells count_row use_count_row choices n n 0) ≡ whole
    sizes = ap (map (λ cell. cell.group)) cells ∙ groups_back n table 0 whole

    total : total_bits (cells_from n table 0 whole) ≡ r.cost
    unfolding cost
    total = choice_top_cost n table r.known.limit r.cost r.size r.some

    -- Some list fits: Plan answers the sizes and the cells that the choices lead to, with the cost of the top choice.
    pub listed_plans : is_limit r.known.limit ≡ true → Plans n table r.known.limit (listed_plan (chosen_cells count_row use_count_row choices n n 0) r.cost)
    unfolding listed_plan judgement answer_of plan_answer size_array cell_array entries totals
    listed_plans l = record {
      judged = ap₂ (λ k bits. accepted (record { cells = k; bits = bits })) (sym (length-map (chosen_cells count_row use_count_row choices n n 0) (λ cell. cell.group)) ∙ ap length sizes) (sym total) ∙ sym (ap (map_answer (totals n table)) (planned l));
      listed = ap (padded most_variables 0) sizes ∙ sym (ap size_array (planned l));
      priced = ap (padded most_variables no_cell) cells ∙ sym (ap (cell_array n table) (planned l));
    }
