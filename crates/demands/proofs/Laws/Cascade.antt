-- Plan and Compile go by the paper's checks.
use Rattle.std.specs.Prelude.{ℕ, zero, suc, ◌+◌, ◌^◌, ◌≤◌, ◌<◌, ◌≡◌, refl, ◌↔◌, true, ◌&&◌, List, [], ◌∷◌, ◌++◌, length, get_or, take, drop, replicate, ℤ, leb, eqb}
use Rattle.std.proofs.Common.{sym, ◌∙◌, subst, true≢false, arith}
use Rattle.std.proofs.Math.Path.{ap}
use Rattle.numbers.specs.Answers.{Answer, accepted, refused, map_answer}
use Rattle.numbers.specs.Conditions.{Limit}
use Rattle.numbers.specs.Lists.{every, padded, sum_of}
use Rattle.numbers.specs.Ranges.{most_variables, is_variables, is_limit, is_value}
use Rattle.numbers.proofs.Laws.Answers.{not_refused, unless_accepted, map_refused}
use Rattle.numbers.proofs.Laws.Bools.{both, and_both}
use Rattle.blocks.specs.Classes.{rail_at}
use Rattle.diagram.specs.Accepted.{Accepted}
use Rattle.diagram.specs.Build.{of_table}
use Rattle.cascade.specs.Compile.{image_for, compile, ImageSummary, image_summary, compile_answer, compile_cells, compile_buffer}
use Rattle.cascade.specs.Groupings.{BestGrouping, address_width, fits_from, fits, chosen, is_grouping, cost}
use Rattle.cascade.specs.Plan.{plan, plan_cells, no_cell, entries, size_array, cell_array, totals, plan_answer}
use Rattle.cascade.proofs.Theorems as cascades
use Rattle.cascade.proofs.Laws.Chosen.{chosen_refuses, chosen_refuses_by_nine, chosen_best, best_chosen}
use Rattle.demands.specs.Checks.{◌otherwise◌, AllHold, Decided}
use Rattle.demands.specs.Admitted.{FittingCells, FittingGrouping, GivesImage, plan_checks, compile_checks}
use Rattle.demands.proofs.Laws.Checks.{decided_accepted, decided_unless, decided_then, decided_map, decided_otherwise, all_append, answers_value, buffer_written, buffer_kept}
use Rattle.demands.proofs.Laws.Diagram.{decided_table}
use Rattle.numbers.proofs.Laws.Tests.{le_test, eq_test, and_test, limit_test, every_test}

-- ---- groupings that fit

-- From cut h on, the cell of each size keeps to the limit.
unfoldable KeepFrom : ℕ → List ℤ → ℕ → ℕ → List ℕ → Type 0
KeepFrom n table limit h sizes = (j : ℕ) → j < length sizes → rail_at n table (h + sum_of (take j sizes)) + get_or sizes j 0 ≤ limit

-- The tests from cut h on are these conditions.
fits_from_test : (n : ℕ) (table : List ℤ) (limit h : ℕ) (sizes : List ℕ) → (fits_from n table limit h sizes ≡ true) ↔ KeepFrom n table limit h sizes
unfolding fits_from address_width KeepFrom sum_of
fits_from_test n table limit h [] = ((λ e j l. absurd (omega arith)), (λ k. refl))
fits_from_test n table limit h (g ∷ sizes) =
    let rest = fits_from_test n table limit (h + g) sizes in
    let i = and_test (leb (rail_at n table h + g) limit) (fits_from n table limit (h + g) sizes) (le_test (rail_at n table h + g) limit) rest in
    let here : h + 0 ≡ h = omega arith in (
      (λ e j. keeps (i.0 e) j),
      (λ k. i.1 (rw here at (k 0 (omega arith)), λ j l. subst (λ c. rail_at n table c + get_or sizes j 0 ≤ limit) (joined (sum_of (take j sizes))) (k (suc j) (omega arith)))),
    )
  where
    joined : (s : ℕ) → h + (g + s) ≡ h + g + s
    joined s = omega arith

    keeps : (rail_at n table h + g ≤ limit) × KeepFrom n table limit (h + g) sizes → KeepFrom n table limit h (g ∷ sizes)
    keeps p zero l = let here : h + 0 ≡ h = omega arith in rw here p.0
    keeps p (suc j) l = subst (λ c. rail_at n table c + get_or sizes j 0 ≤ limit) (sym (joined (sum_of (take j sizes)))) (p.1 j (omega arith))

-- The tests by which groupings and the limit are judged are the paper's conditions.
fitting_test : (n : ℕ) (table : List ℤ) (limit h : ℕ) (sizes : List ℕ) → ((is_grouping h sizes && fits n table limit sizes) ≡ true) ↔ FittingCells n table limit h sizes
unfolding is_grouping fits KeepFrom
fitting_test n table limit h sizes =
    let some = every (leb 1) sizes in
    let sum = eqb (sum_of sizes) h in
    let none_before : (j : ℕ) → 0 + sum_of (take j sizes) ≡ sum_of (take j sizes) = λ j. omega arith in
    let i =
    and_test (some && sum) (fits_from n table limit 0 sizes)
    (and_test some sum (every_test (leb 1) sizes 0 (le_test 1)) (eq_test (sum_of sizes) h))
    (fits_from_test n table limit 0 sizes)
    in (
      (λ e.
          let r = i.0 e in
          record { some = r.0.0; sum = r.0.1; keeps = λ j l. rw (none_before j) at (r.1 j l) }),
      (λ r. i.1 ((r.some, r.sum), λ j l. rw (none_before j) (r.keeps j l))),
    )

pub fitting_cells : (n : ℕ) (table : List ℤ) (limit h : ℕ) (sizes : List ℕ) → FittingCells n table limit h sizes ↔ ((is_grouping h sizes ≡ true) × (fits n table limit sizes ≡ true))
fitting_cells n table limit h sizes = let i = fitting_test n table limit h sizes in (
  (λ f. both (is_grouping h sizes) (fits n table limit sizes) (i.1 f)),
  (λ t. i.0 (and_both (is_grouping h sizes) (fits n table limit sizes) t.0 t.1)),
)

pub fitting_tests : (n : ℕ) (table : List ℤ) (limit : ℕ) (sizes : List ℕ) → FittingGrouping n table limit sizes ↔ ((is_grouping n sizes ≡ true) × (fits n table limit sizes ≡ true))
fitting_tests n table limit = fitting_cells n table limit n

module _ (n : ℕ) (table : List ℤ) (limit : ℕ) where
  -- Some grouping fits exactly where one is chosen.
  chosen_exists : (answer : Answer (List ℕ)) → chosen n table limit ≡ answer → ((sizes : List ℕ) × FittingGrouping n table limit sizes) ↔ ((a : List ℕ) × (answer ≡ accepted a))
  chosen_exists (accepted best) e =
      let b = chosen_best n table limit best e in (
        (λ s. (best, refl)),
        (λ s. (best, (fitting_tests n table limit best).1 (b.grouping, b.fitting))),
      )
  chosen_exists (refused k) e = (
    (λ s.
        let t = (fitting_tests n table limit s.0).0 s.1 in
        absurd (true≢false (sym t.1 ∙ (chosen_refuses n table limit).0 (e ∙ ap refused (chosen_refuses_by_nine n table limit k e)) s.0 t.0))),
    (λ s. not_refused s.0 k (sym s.1)),
  )

  -- The choice goes by 9 alone.
  decided_chosen : Decided (chosen n table limit) (((sizes : List ℕ) × FittingGrouping n table limit sizes) otherwise 9 ∷ [])
  decided_chosen = decided_otherwise (chosen n table limit) (chosen_exists (chosen n table limit) refl) (chosen_refuses_by_nine n table limit)

  -- ---- Plan

  -- The sizes go by Plan's checks, and so does its answer.
  decided_sizes : Decided (plan n table limit) (plan_checks n table limit)
  unfolding plan plan_checks
  decided_sizes = decided_table n table (decided_unless (is_limit limit) (limit_test limit) decided_chosen)

  pub decided_plan : Decided (plan_answer n table limit) (plan_checks n table limit)
  unfolding plan_answer
  decided_plan = decided_map (totals n table) (plan n table limit) decided_sizes

  -- Where a grouping fits, one is chosen.
  pub best_exists : (sizes : List ℕ) → FittingGrouping n table limit sizes → (best : List ℕ) × BestGrouping n table limit best
  best_exists sizes f = let s = (chosen_exists (chosen n table limit) refl).0 (sizes, f) in (s.0, chosen_best n table limit s.0 s.1)

  -- ---- Compile

  -- An accepted plan is the chosen grouping, and so the best one.
  plan_best : (sizes : List ℕ) → plan n table limit ≡ accepted sizes → BestGrouping n table limit sizes
  unfolding plan of_table
  plan_best sizes e =
      let a = unless_accepted (is_variables n) 1 _ sizes e in
      let b = unless_accepted (eqb (length table) (2 ^ n)) 2 _ sizes a.1 in
      let c = unless_accepted (every is_value table) 3 _ sizes b.1 in
      let d = unless_accepted (is_limit limit) 8 _ sizes c.1 in
      chosen_best n table limit sizes d.1

  -- There is one best grouping.
  pub one_best : (left right : List ℕ) → BestGrouping n table limit left → BestGrouping n table limit right → left ≡ right
  one_best left right p q = let e : accepted left ≡ accepted right = sym (best_chosen n table limit left p) ∙ best_chosen n table limit right q in cc

  -- The room is enough for the one best grouping exactly where it is for every best grouping.
  room_test : (room : ℕ) (sizes : List ℕ) → BestGrouping n table limit sizes → (leb (length (image_for n table sizes)) room ≡ true) ↔ ((best : List ℕ) → BestGrouping n table limit best → length (image_for n table best) ≤ room)
  room_test room sizes b = (
    (λ h best c. subst (λ l. length (image_for n table l) ≤ room) (one_best sizes best b c) ((le_test (length (image_for n table sizes)) room).0 h)),
    (λ h. (le_test (length (image_for n table sizes)) room).1 (h sizes b)),
  )

  -- Compile: Plan's checks, then the room for the image.
  pub decided_compile : (room : ℕ) → Decided (compile_answer n table limit room) (compile_checks n table limit room)
  unfolding compile_answer compile compile_checks
  decided_compile room =
      decided_map (image_summary n table) (compile n table limit room)
      (decided_then (plan n table limit) decided_sizes
      (λ sizes e. decided_unless (leb (length (image_for n table sizes)) room) (room_test room sizes (plan_best sizes e)) (decided_accepted sizes)))

  -- ---- what is answered

  -- An accepted plan is the best grouping.
  plan_only : (best : List ℕ) → BestGrouping n table limit best → (sizes : List ℕ) → plan n table limit ≡ accepted sizes → sizes ≡ best
  plan_only best b sizes e = one_best sizes best (plan_best sizes e) b

  -- Where Plan's checks hold the best grouping is answered: its totals, and its arrays.
  sizes_value : AllHold (plan_checks n table limit) → (best : List ℕ) → BestGrouping n table limit best → plan n table limit ≡ accepted best
  sizes_value h best b = answers_value decided_sizes best (plan_only best b) h

  pub plan_value : AllHold (plan_checks n table limit) → (best : List ℕ) → BestGrouping n table limit best → plan_answer n table limit ≡ accepted (totals n table best)
  unfolding plan_answer
  plan_value h best b = ap (map_answer (totals n table)) (sizes_value h best b)

  -- The arrays beside Plan's verdict: the entries, and 0 behind them.
  pub plan_arrays : AllHold (plan_checks n table limit) → (best : List ℕ) → BestGrouping n table limit best → (size_array (plan n table limit) ≡ padded 12 0 best) × (cell_array n table (plan n table limit) ≡ padded 12 no_cell (plan_cells n table 0 best))
  unfolding size_array cell_array entries most_variables
  plan_arrays h best b = rw (sizes_value h best b) (refl, refl)

  -- A compiled grouping is the best one.
  compiled_value : (room : ℕ) → AllHold (compile_checks n table limit room) → (best : List ℕ) → BestGrouping n table limit best → compile n table limit room ≡ accepted best
  unfolding compile compile_checks AllHold
  compiled_value room h best b =
      let parts = (all_append (plan_checks n table limit) _).0 h in
      rw (sizes_value parts.0 best b, (le_test (length (image_for n table best)) room).1 (parts.1.0 best b))

  pub compile_value : (room : ℕ) → AllHold (compile_checks n table limit room) → (best : List ℕ) → BestGrouping n table limit best → compile_answer n table limit room ≡ accepted (image_summary n table best)
  unfolding compile_answer
  compile_value room h best b = ap (map_answer (image_summary n table)) (compiled_value room h best b)

  pub compile_cells_lem : (room : ℕ) → AllHold (compile_checks n table limit room) → (best : List ℕ) → BestGrouping n table limit best → compile_cells n table limit room ≡ padded 12 no_cell (plan_cells n table 0 best)
  unfolding compile_cells cell_array entries most_variables
  compile_cells_lem room h best b = rw (compiled_value room h best b)

  -- The image stands in front, and nothing behind it is changed; a refusal changes nothing.
  pub compile_buffer_lem : (buffer : List ℕ) → AllHold (compile_checks n table limit (length buffer)) → (best : List ℕ) → BestGrouping n table limit best → compile_buffer n table limit buffer ≡ image_for n table best ++ drop (length (image_for n table best)) buffer
  unfolding compile_buffer
  compile_buffer_lem buffer h best b = buffer_written (compile n table limit (length buffer)) best (image_for n table) buffer (compiled_value (length buffer) h best b)

  pub compile_kept : (buffer : List ℕ) (k : ℕ) → compile_answer n table limit (length buffer) ≡ refused k → compile_buffer n table limit buffer ≡ buffer
  unfolding compile_buffer compile_answer
  compile_kept buffer k h = buffer_kept (compile n table limit (length buffer)) k (image_for n table) buffer (map_refused (image_summary n table) (compile n table limit (length buffer)) k h)

  -- The arrays beside a refusal hold 0.
  pub plan_arrays_refused : (k : ℕ) → plan_answer n table limit ≡ refused k → (size_array (plan n table limit) ≡ replicate 12 0) × (cell_array n table (plan n table limit) ≡ replicate 12 no_cell)
  unfolding plan_answer size_array cell_array entries most_variables padded
  plan_arrays_refused k h = rw (map_refused (totals n table) (plan n table limit) k h) (refl, refl)

  pub compile_cells_refused : (room k : ℕ) → compile_answer n table limit room ≡ refused k → compile_cells n table limit room ≡ replicate 12 no_cell
  unfolding compile_answer compile_cells cell_array entries most_variables padded
  compile_cells_refused room k h = rw (map_refused (image_summary n table) (compile n table limit room) k h)

-- ---- what Compile gives where some grouping fits

pub gives_image : (n : ℕ) (table : List ℤ) → Accepted n table → (limit : ℕ) → Limit limit → (sizes : List ℕ) → FittingGrouping n table limit sizes
    → (best : List ℕ) × (BestGrouping n table limit best × ((buffer : List ℕ) → length (image_for n table best) ≤ length buffer → GivesImage n table limit best buffer))
gives_image n table admitted limit l sizes fitting =
    let t = (fitting_tests n table limit sizes).0 fitting in
    let g = cascades.compile_gives n table admitted limit l sizes t.0 t.1 in
    (g.0, (g.1, λ buffer room. let r = g.2 buffer room in record { summary = r.0; answered = r.1; written = r.2; cells = r.3; bits = r.4 }))

pub fitting_costs_as_many : (n : ℕ) (table : List ℤ) (limit : ℕ) (buffer : List ℕ) (r : ImageSummary) → compile_answer n table limit (length buffer) ≡ accepted r → (sizes : List ℕ) → FittingGrouping n table limit sizes → r.planned.bits ≤ cost n table sizes
fitting_costs_as_many n table limit buffer r compiled sizes fitting =
    let t = (fitting_tests n table limit sizes).0 fitting in
    cascades.compiled_least n table limit buffer r compiled sizes t.0 t.1
