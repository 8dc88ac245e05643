-- The chosen grouping: 9 exactly where none fits; else it fits, costs least, and is the widest first among equals. The choices lead to it.
use Rattle.std.specs.Prelude.{ℕ, ◌+◌, ◌-◌, ◌≡◌, refl, ◌↔◌, ◌⊎◌, true, false, ◌&&◌, leb, ℤ}
use Rattle.std.proofs.Common.{sym, ◌∙◌, ap, ap₂, inl, inr, true≢false, arith}
use Rattle.std.proofs.Math.Path.{fun_ext}
use mathlib.Core.List.Memᴰ
use mathlib.Core.List.{List, [], ◌∷◌, Memᴰ}
use Rattle.numbers.specs.Answers.{Answer, accepted, refused}
use Rattle.numbers.specs.Lists.{keep, sum_of}
use Rattle.numbers.proofs.Laws.Bools.{yes_or_no}
use Rattle.numbers.proofs.Laws.Selections.{keep_same, among_kept, kept_among}
use Rattle.image.specs.Cells.{bits_of, total_bits}
use Rattle.cascade.specs.Cascade.{cell_of, cells_from}
use Rattle.cascade.specs.Groupings.{BestGrouping, groupings, address_width, fits_from, fits, cost, first_cheapest, chosen, is_grouping, wider_first}
use Rattle.cascade.specs.Inner.Choices.{costing, price_from, cells_fit, cheapest_from, cell_price, cell_fits, sizes_from, answered, table_choice}
use Rattle.cascade.proofs.Laws.Groupings.{grouping_among, among_grouping, groupings_widest_first, widest_kept, wider_one_way}
use Rattle.cascade.proofs.Laws.Cheapest.{first_cheapest_none, first_cheapest_nine, first_cheapest_among, first_cheapest_least, first_cheapest_widest, cheapest_by_choices, choice_cost}

module _ (n : ℕ) (table : List ℤ) (limit : ℕ) where
  -- The groupings that fit, in the order of preference.
  fitting_ones : List (List ℕ)
  fitting_ones = keep (fits n table limit) (groupings n)

  -- A grouping that fits is among them.
  fits_among : (sizes : List ℕ) → is_grouping n sizes ≡ true → fits n table limit sizes ≡ true → Memᴰ sizes fitting_ones
  unfolding fitting_ones
  fits_among sizes g f = among_kept (fits n table limit) (grouping_among n sizes g) f

  -- What is among them is a grouping that fits.
  among_fits : (sizes : List ℕ) → Memᴰ sizes fitting_ones → (is_grouping n sizes ≡ true) × (fits n table limit sizes ≡ true)
  unfolding fitting_ones
  among_fits sizes m = let r = kept_among (fits n table limit) (groupings n) m in (among_grouping n sizes r.0, r.1)

  -- Where no grouping fits there are none.
  none_fits : ((sizes : List ℕ) → is_grouping n sizes ≡ true → fits n table limit sizes ≡ false) → (l : List (List ℕ)) → fitting_ones ≡ l → l ≡ []
  none_fits h [] e = refl
  none_fits h (sizes ∷ l) e = let r = among_fits sizes (rw e (Memᴰ.head refl)) in absurd (true≢false (sym r.1 ∙ h sizes r.0))

  -- 9 exactly where no grouping fits the limit.
  pub chosen_refuses : (chosen n table limit ≡ refused 9) ↔ ((sizes : List ℕ) → is_grouping n sizes ≡ true → fits n table limit sizes ≡ false)
  unfolding chosen fitting_ones
  chosen_refuses = (
    (λ e sizes g. yes_or_no (fits n table limit sizes) (λ f. absurd (Memᴰ.not-nil (rw ((first_cheapest_none (cost n table) fitting_ones).0 e) at (fits_among sizes g f)))) (λ f. f)),
    (λ h. (first_cheapest_none (cost n table) fitting_ones).1 (none_fits h fitting_ones refl)),
  )

  -- A refusal is always 9.
  pub chosen_refuses_by_nine : (k : ℕ) → chosen n table limit ≡ refused k → k ≡ 9
  unfolding chosen fitting_ones
  chosen_refuses_by_nine k e = first_cheapest_nine (cost n table) fitting_ones k e

  -- The chosen grouping is the best one.
  pub chosen_best : (best : List ℕ) → chosen n table limit ≡ accepted best → BestGrouping n table limit best
  unfolding chosen fitting_ones
  chosen_best best e = record {
    grouping = (among_fits best (first_cheapest_among (cost n table) fitting_ones best e)).0;
    fitting = (among_fits best (first_cheapest_among (cost n table) fitting_ones best e)).1;
    least = λ sizes g f. first_cheapest_least (cost n table) fitting_ones best sizes e (fits_among sizes g f);
    widest = λ sizes g f c.
        first_cheapest_widest (cost n table) fitting_ones best sizes (widest_kept (fits n table limit) (groupings n) (groupings_widest_first n)) e (fits_among sizes g f) c;
  }

  -- Two best groupings are one.
  one_best : (left right : List ℕ) → BestGrouping n table limit left → BestGrouping n table limit right → left ≡ right
  one_best left right p q = same_or_wider (p.widest right q.grouping q.fitting (sym equal_cost)) (q.widest left p.grouping p.fitting equal_cost)
    where
      equal_cost : cost n table left ≡ cost n table right
      equal_cost =
          let a = p.least right q.grouping q.fitting in
          let b = q.least left p.grouping p.fitting in
          omega arith

      same_or_wider : (right ≡ left) ⊎ (wider_first left right ≡ true) → (left ≡ right) ⊎ (wider_first right left ≡ true) → left ≡ right
      same_or_wider (inl e) other = sym e
      same_or_wider (inr l) (inl e) = e
      same_or_wider (inr l) (inr r) = absurd (wider_one_way left right l r)

  -- The best grouping is chosen: the rule determines the answer.
  pub best_chosen : (best : List ℕ) → BestGrouping n table limit best → chosen n table limit ≡ accepted best
  best_chosen best b = either (chosen n table limit) refl
    where
      either : (answer : Answer (List ℕ)) → chosen n table limit ≡ answer → chosen n table limit ≡ accepted best
      either (accepted sizes) e = e ∙ ap accepted (one_best sizes best (chosen_best sizes e) b)
      either (refused k) e = absurd (true≢false (sym b.fitting ∙ chosen_refuses.0 (e ∙ ap refused (chosen_refuses_by_nine k e)) best b.grouping))

-- ---- from the bottom cut up

-- The cells' bits from cut h on are the sum of their prices.
bits_price : (n : ℕ) (table : List ℤ) (h : ℕ) (sizes : List ℕ) → total_bits (cells_from n table h sizes) ≡ price_from (cell_price n table) h sizes
unfolding total_bits cells_from sum_of price_from cell_price
bits_price n table h [] = refl
bits_price n table h (g ∷ sizes) = ap (λ rest. bits_of (cell_of n table h g) + rest) (bits_price n table (h + g) sizes)

-- A grouping's cost is the sum of its cells' prices.
pub cost_price : (n : ℕ) (table : List ℤ) (sizes : List ℕ) → cost n table sizes ≡ price_from (cell_price n table) 0 sizes
unfolding cost
cost_price n table sizes = bits_price n table 0 sizes

-- From cut h on, a list of sizes fits where each of its cells does.
fits_from_cells : (n : ℕ) (table : List ℤ) (limit h : ℕ) (sizes : List ℕ) → fits_from n table limit h sizes ≡ cells_fit (cell_fits n table limit) h sizes
unfolding fits_from cells_fit cell_fits
fits_from_cells n table limit h [] = refl
fits_from_cells n table limit h (g ∷ sizes) = ap (λ rest. leb (address_width n table h g) limit && rest) (fits_from_cells n table limit (h + g) sizes)

-- A grouping fits where each of its cells does.
pub fits_cells : (n : ℕ) (table : List ℤ) (limit : ℕ) (sizes : List ℕ) → fits n table limit sizes ≡ cells_fit (cell_fits n table limit) 0 sizes
unfolding fits
fits_cells n table limit sizes = fits_from_cells n table limit 0 sizes

-- The chosen grouping is the first cheapest from the top cut.
pub chosen_from_top : (n : ℕ) (table : List ℤ) (limit : ℕ) → chosen n table limit ≡ cheapest_from (cell_price n table) (cell_fits n table limit) 0 n
unfolding chosen cheapest_from
chosen_from_top n table limit =
    ap₂ (λ price l. first_cheapest price l) (fun_ext (cost_price n table)) (keep_same (fits n table limit) (cells_fit (cell_fits n table limit) 0) (groupings n) (fits_cells n table limit))

-- The chosen grouping is what the choices lead to from the top cut; 9 where the choice there has no list.
pub chosen_by_choices : (n : ℕ) (table : List ℤ) (limit : ℕ) → chosen n table limit ≡ answered (table_choice n table limit 0) (sizes_from (table_choice n table limit) n n 0)
chosen_by_choices n table limit =
    let all : n - 0 ≡ n = omega arith in
    chosen_from_top n table limit ∙ rw all at (cheapest_by_choices (cell_price n table) (cell_fits n table limit) n 0 (omega arith))

-- The choice at the top cut costs what the chosen grouping does.
pub choice_top_cost : (n : ℕ) (table : List ℤ) (limit total size : ℕ) → table_choice n table limit 0 ≡ costing total size → cost n table (sizes_from (table_choice n table limit) n n 0) ≡ total
choice_top_cost n table limit total size e =
    let all : n - 0 ≡ n = omega arith in
    cost_price n table (sizes_from (table_choice n table limit) n n 0)
    ∙ rw all at (choice_cost (cell_price n table) (cell_fits n table limit) n 0 total size (omega arith) e)
