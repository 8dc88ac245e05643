-- The choice at a cut, size by size, and the choices at all cuts, from the bottom cut up.
use Rattle.std.specs.Prelude.{◌≡◌, refl, true, false, length, set, replicate, ltb, ℤ, Option, Some, None}
use Rattle.std.proofs.Math.Path.{sym, ap}
use Rattle.std.proofs.Common.{◌∙◌, zero-add, length-set, get_or-set_same, get_or-set_other, ℕ, zero, suc, ◌+◌, ◌-◌, ◌*◌, ◌^◌, ◌≤◌, ◌<◌, List, map, arith, ltb-true, ltb-false}
use Rattle.std.proofs.Math.ListN.{get_or, get_or-eq_default}
use Rattle.std.proofs.lemmas.List.{length-map, get_or-replicate}
use Rattle.std.proofs.Math.Seq.{ext_get_or}
use Rattle.numbers.specs.Lists.{numbers_from, padded}
use Rattle.numbers.specs.Ranges.{most_variables}
use Rattle.numbers.proofs.Laws.Bools.{yes_or_no}
use Rattle.numbers.proofs.Laws.Lists.{length_range, get_d_range, get_d_map}
use Rattle.numbers.proofs.Laws.Padding.{padded_entry, padded_free, length_padded}
use Rattle.diagram.specs.Accepted.{Accepted}
use Rattle.cascade.specs.Inner.Choices.{costing, offered, tried, cell_price, cell_fits, cost_of, table_choice, choice_array}
use Rattle.cascade.specs.declared.Choice.{Choice}
use Rattle.cascade.proofs.Laws.Cells.{variables_most, cell_bits_most}
use Rattle.cascade.proofs.Laws.Cheapest.{tried_fits, tried_unfit, tried_same, choice_bottom, choice_step, choice_leads}
use Rattle.planner.specs.Inner.Ready.{CutReady}

-- ---- the sizes at a cut

-- The sizes from g down are still to be tried; what they then give is the choice.
pub record Trying (n h limit : ℕ) (table : List ℤ) (choices : List (Option Choice)) (best : Option Choice) (g : ℕ) : Type 0 where
  pub inside : g ≤ n - h
  pub leads : tried (cell_price n table) (cell_fits n table limit) (λ cut. get_or choices cut None) h best g ≡ table_choice n table limit h

module _ {n h limit : ℕ} {table : List ℤ} {choices : List (Option Choice)} (r : CutReady n h limit table choices) where
  open r use {cut, below}

  pub trying_all : Trying n h limit table choices None (n - h)
  trying_all = record {
    inside = omega arith;
    leads =
        tried_same (cell_price n table) (cell_fits n table limit) (λ c. get_or choices c None) (table_choice n table limit) h None (n - h) (λ c p q. below c p (let l = cut in omega arith))
        ∙ sym (choice_step (cell_price n table) (cell_fits n table limit) n h cut);
  }

  -- A cell of a size that is tried ends at one of the cuts.
  pub size_ends : (g : ℕ) → g ≤ n - h → h + g ≤ n
  size_ends g l = let c = cut in omega arith

  -- Cuts are small.
  pub cuts_small : Accepted n table → (h < n) × (n ≤ 12)
  cuts_small admitted = (cut, variables_most n table admitted)

  module _ (best : Option Choice) (g : ℕ) (t : Trying n h limit table choices best g) (some : 0 < g) where
    down : g ≡ suc (g - 1)
    down = omega arith

    pub tried_fitting : cell_fits n table limit h g ≡ true → Trying n h limit table choices (offered g (cell_price n table h g) (get_or choices (h + g) None) best) (g - 1)
    tried_fitting fits = record {
      inside = let i = t.inside in omega arith;
      leads = sym (step g (g - 1) down fits) ∙ t.leads;
    }
      where
        step : (size rest : ℕ) → size ≡ suc rest → cell_fits n table limit h size ≡ true → tried (cell_price n table) (cell_fits n table limit) (λ c. get_or choices c None) h best size ≡ tried (cell_price n table) (cell_fits n table limit) (λ c. get_or choices c None) h (offered size (cell_price n table h size) (get_or choices (h + size) None) best) rest
        step size rest e f = rw e (tried_fits (cell_price n table) (cell_fits n table limit) (λ c. get_or choices c None) h best rest (rw e at f))

    pub tried_unfitting : cell_fits n table limit h g ≡ false → Trying n h limit table choices best (g - 1)
    tried_unfitting unfit = record {
      inside = let i = t.inside in omega arith;
      leads = sym (step g (g - 1) down unfit) ∙ t.leads;
    }
      where
        step : (size rest : ℕ) → size ≡ suc rest → cell_fits n table limit h size ≡ false → tried (cell_price n table) (cell_fits n table limit) (λ c. get_or choices c None) h best size ≡ tried (cell_price n table) (cell_fits n table limit) (λ c. get_or choices c None) h best rest
        step size rest e f = rw e (tried_unfit (cell_price n table) (cell_fits n table limit) (λ c. get_or choices c None) h best rest (rw e at f))

  pub tried_all : (best : Option Choice) (g : ℕ) → Trying n h limit table choices best g → g ≡ 0 → best ≡ table_choice n table limit h
  unfolding tried
  tried_all best g t e = sym (ap (tried (cell_price n table) (cell_fits n table limit) (λ c. get_or choices c None) h best) e) ∙ t.leads

-- ---- what a choice costs at most

-- The memory bits of a cell at most.
abbrev pub most_cell_bits : ℕ
most_cell_bits = 151552

module _ (n : ℕ) (table : List ℤ) (admitted : Accepted n table) (limit : ℕ) where
  -- At the bottom cut it costs nothing.
  bottom_costs_nothing : (h : ℕ) → h ≡ n → cost_of (table_choice n table limit h) ≡ 0
  unfolding cost_of
  bottom_costs_nothing h e = ap (λ cut. cost_of (table_choice n table limit cut)) e ∙ ap cost_of (choice_bottom (cell_price n table) (cell_fits n table limit) n)

  choice_most_within : (m h : ℕ) → n - h ≤ m → h ≤ n → cost_of (table_choice n table limit h) ≤ (n - h) * most_cell_bits
  unfolding cost_of cell_price
  choice_most_within zero h few inside = let z = bottom_costs_nothing h (omega arith) in omega arith
  choice_most_within (suc m) h few inside = yes_or_no (ltb h n) (λ l. above (ltb-true h n l) (λ cut. choice_most_within m cut) (table_choice n table limit h) refl) (λ l. let z = bottom_costs_nothing h (let g = ltb-false h n l in omega arith) in omega arith)
    where
      above : h < n → ((cut : ℕ) → n - cut ≤ m → cut ≤ n → cost_of (table_choice n table limit cut) ≤ (n - cut) * most_cell_bits) → (choice : Option Choice) → table_choice n table limit h ≡ choice → cost_of (table_choice n table limit h) ≤ (n - h) * most_cell_bits
      above l lower None e = rw e (omega arith)
      above l lower (Some choice) e =
          let leads = choice_leads (cell_price n table) (cell_fits n table limit) n h choice.cost choice.size l e in
          let some = leads.some in
          let within = leads.inside in
          let together = leads.together in
          let price = cell_bits_most n table admitted h choice.size within in
          let rest = rw leads.below at (lower (h + choice.size) (omega arith) within) in
          rw e (omega arith)

  -- A choice costs at most as much as one cell for each variable left.
  pub choice_cost_most : (h : ℕ) → h ≤ n → cost_of (table_choice n table limit h) ≤ (n - h) * most_cell_bits
  choice_cost_most h inside = choice_most_within (n - h) h (omega arith) inside

-- What a size costs with the choice where its cell ends.
pub offer_small : {n h limit : ℕ} {table : List ℤ} {choices : List (Option Choice)} → Accepted n table → CutReady n h limit table choices → (g : ℕ) → 0 < g → g ≤ n - h → cell_price n table h g + cost_of (get_or choices (h + g) None) < 2 ^ 63
unfolding cell_price
offer_small {n} {h} {limit} {table} {choices} admitted r g some inside =
    let c = r.cut in
    let few = variables_most n table admitted in
    let ends = size_ends r g inside in
    let price = cell_bits_most n table admitted h g ends in
    let rest = choice_cost_most n table admitted limit (h + g) ends in
    rw (r.below (h + g) (omega arith) ends) (omega arith)

-- ---- the choices at all cuts

-- The choices from cut h down are made, and no other place holds one.
pub record ChosenFrom (n limit : ℕ) (table : List ℤ) (h : ℕ) (choices : List (Option Choice)) : Type 0 where
  pub cut : h ≤ n
  pub places : length choices ≡ 13
  pub made : (c : ℕ) → h ≤ c → c ≤ n → get_or choices c None ≡ table_choice n table limit c
  pub free : (c : ℕ) → n < c → get_or choices c None ≡ None

module _ (n limit : ℕ) (table : List ℤ) (few : n ≤ 12) where
  -- Where the choice at one cut is set, the others stay.
  chosen_more : (h : ℕ) (choices : List (Option Choice)) → h ≤ n → length choices ≡ 13 → ((c : ℕ) → h < c → c ≤ n → get_or choices c None ≡ table_choice n table limit c) → ((c : ℕ) → n < c → get_or choices c None ≡ None) → ChosenFrom n limit table h (set choices h (table_choice n table limit h))
  chosen_more h choices cut places made free = record {
    cut = cut;
    places = length-set choices h (table_choice n table limit h) ∙ places;
    made = λ c p q.
        yes_or_no (ltb h c)
        (λ l. let above = ltb-true h c l in get_or-set_other choices h c (table_choice n table limit h) None (λ e. omega arith) ∙ made c above q)
        (λ l. let here : c ≡ h = (let g = ltb-false h c l in omega arith) in rw here (get_or-set_same choices h (table_choice n table limit h) None (omega arith)));
    free = λ c p. get_or-set_other choices h c (table_choice n table limit h) None (λ e. omega arith) ∙ free c p;
  }

  -- At the bottom cut nothing is left to choose.
  pub chosen_bottom : ChosenFrom n limit table n (set (replicate 13 None) n (costing 0 0))
  chosen_bottom =
      rw (sym (choice_bottom (cell_price n table) (cell_fits n table limit) n))
      (chosen_more n (replicate 13 None) (omega arith) refl (λ c p q. absurd (omega arith)) (λ c p. none c))
    where
      none : (c : ℕ) → get_or {A = Option Choice} (replicate 13 None) c None ≡ None
      none c = yes_or_no (ltb c 13) (λ l. get_or-replicate 13 c None None (ltb-true c 13 l)) (λ l. get_or-eq_default (replicate 13 None) None (ltb-false c 13 l))

  -- One cut further up.
  pub chosen_next : (h : ℕ) (choices : List (Option Choice)) → ChosenFrom n limit table h choices → 0 < h → ChosenFrom n limit table (h - 1) (set choices (h - 1) (table_choice n table limit (h - 1)))
  chosen_next h choices s some = chosen_more (h - 1) choices (let c = s.cut in omega arith) s.places (λ c p q. s.made c (omega arith) q) s.free

  -- At the top cut all choices are made.
  pub chosen_all : (choices : List (Option Choice)) → ChosenFrom n limit table 0 choices → choices ≡ choice_array n table limit
  unfolding choice_array most_variables
  chosen_all choices s = ext_get_or None choices (padded 13 None row) (s.places ∙ sym whole) each
    where
      row : List (Option Choice)
      row = map (table_choice n table limit) (numbers_from 0 (suc n))

      row_length : length row ≡ suc n
      row_length = length-map (numbers_from 0 (suc n)) (table_choice n table limit) ∙ length_range 0 (suc n)

      whole : length (padded 13 None row) ≡ 13
      whole = length_padded None 13 row (rw row_length (omega arith))

      each : (c : ℕ) → c < length choices → get_or choices c None ≡ get_or (padded 13 None row) c None
      each c l =
          yes_or_no (ltb n c)
          (λ e. s.free c (ltb-true n c e) ∙ sym (padded_free None 13 row c (let g = ltb-true n c e in omega (arith, row_length))))
          (λ e.
          let inside : c < suc n = (let g = ltb-false n c e in omega arith) in
          s.made c (omega arith) (omega arith)
          ∙ sym (padded_entry None 13 row c (rw row_length inside)
          ∙ get_d_map (table_choice n table limit) (numbers_from 0 (suc n)) c 0 None (rw length_range inside)
          ∙ ap (table_choice n table limit) (get_d_range 0 (suc n) c 0 inside ∙ zero-add c)))

-- The next cut up can be chosen at.
pub cut_ready : {n limit h : ℕ} {table : List ℤ} {choices : List (Option Choice)} → ChosenFrom n limit table h choices → 0 < h → CutReady n (h - 1) limit table choices
cut_ready s some = record { cut = let c = s.cut in omega arith; below = λ c p q. s.made c (omega arith) q }
