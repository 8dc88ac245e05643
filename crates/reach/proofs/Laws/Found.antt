-- What Reach finds for an accepted table: the cuts, the least limit, and how both stand to Plan.
use Rattle.std.specs.Prelude.{ℕ, suc, ◌-◌, ◌≤◌, ◌<◌, ◌≡◌, ◌↔◌, ◌⊎◌, true, length, get_or, replicate, ℤ}
use Rattle.std.proofs.Common.{sym, ◌∙◌, inl, inr, true≢false, zero-add, arith}
use Rattle.std.proofs.Math.Path.{ap}
use mathlib.Core.List.{List, ◌∷◌, ◌++◌, Memᴰ}
use Rattle.numbers.specs.Answers.{accepted, refused, map_answer}
use Rattle.numbers.specs.Conditions.{Limit}
use Rattle.numbers.specs.Lists.{numbers_from, padded}
use Rattle.numbers.specs.Ranges.{is_limit, most_variables}
use Rattle.numbers.proofs.Laws.Lists.{length_range, get_d_range}
use Rattle.numbers.proofs.Laws.Tests.{limit_test}
use Rattle.diagram.specs.Accepted.{Accepted}
use Rattle.cascade.specs.Groupings.{address_width}
use Rattle.cascade.specs.Plan.{plan, entries}
use Rattle.cascade.proofs.Laws.Cells.{variables_some}
use Rattle.reach.specs.Reach.{is_reached, Arriving, reached_cuts, least_limit, Reachable, reachable, reach, cut_array, reach_totals, reach_answer}
use Rattle.reach.specs.Inner.Narrowest.{furthest}
use Rattle.reach.proofs.Laws.Answers as answers
use Rattle.reach.proofs.Laws.Beside.{limit_within, planned_reached, plan_tells, plan_some, nine_where_unreached, plan_nine}
use Rattle.reach.proofs.Laws.Narrowest.{furthest_cut}
use Rattle.reach.proofs.Laws.Reached.{one_wide, reached_arriving, cuts_run, bottom_furthest, least_within, least_reaches, below_reaches_not, none_fits_there, listed_arriving, reached_with_n}

-- Plan answers a grouping.
abbrev pub Planned : ℕ → List ℤ → ℕ → Type 0
Planned n table limit = (sizes : List ℕ) × (plan n table limit ≡ accepted sizes)

module _ (n : ℕ) (table : List ℤ) (limit : ℕ) where
  -- What an answer holds.
  pub reach_finds : (f : Reachable) → reach n table limit ≡ accepted f → (f.cuts ≡ reached_cuts n table limit) × (f.limit ≡ least_limit n table)
  unfolding reachable
  reach_finds f e = let is = (answers.answer_tells n table limit f e).1.1 in (ap (λ g. g.cuts) is, ap (λ g. g.limit) is)

  -- It answers where Plan answers a grouping and where Plan answers 9.
  pub answers_beside_plan : (Planned n table limit ⊎ (plan n table limit ≡ refused 9)) ↔ (reach n table limit ≡ accepted (reachable n table limit))
  answers_beside_plan = (
    (λ p. let t = plan_tells n table limit p in answers.reach_finds n table limit t.0 t.1),
    (λ e. let t = answers.answer_tells n table limit (reachable n table limit) e in plan_some n table limit t.0 t.1.0),
  )

  -- ---- the cuts

  pub lists_exactly : (h : ℕ) → ((h ≤ n) × Arriving n table limit h) ↔ Memᴰ h (reached_cuts n table limit)
  lists_exactly h = let exactly = listed_arriving n table limit h in (exactly.1, exactly.0)

  module _ (a : Accepted n table) where
    abbrev cuts : List ℕ
    cuts = reached_cuts n table limit

    -- They run from cut 0 on without a gap, to the bottom cut at most.
    run : cuts ≡ numbers_from 0 (suc (furthest (one_wide n table) limit n))
    run = cuts_run n table a.size limit

    pub no_gap : cuts ≡ numbers_from 0 (length cuts)
    no_gap = run ∙ sym (ap (numbers_from 0) (ap length run ∙ length_range 0 _))

    pub cuts_number : (1 ≤ length cuts) × (length cuts ≤ suc n)
    cuts_number =
        let many = ap length run ∙ length_range 0 (suc (furthest (one_wide n table) limit n)) in
        let most = furthest_cut (one_wide n table) limit n in
        (omega arith, omega arith)

    pub cut_0_first : (rest : List ℕ) × (cuts ≡ 0 ∷ rest)
    unfolding numbers_from
    cut_0_first = (numbers_from 1 (furthest (one_wide n table) limit n), run)

    pub cuts_rise : (j k : ℕ) → j < k → k < length cuts → get_or cuts j 0 < get_or cuts k 0
    cuts_rise j k l inside = let p = at j (omega arith) in let q = at k inside in omega arith
      where
        at : (i : ℕ) → i < length cuts → get_or cuts i 0 ≡ i
        at i below = ap (λ l. get_or l i 0) no_gap ∙ get_d_range 0 (length cuts) i 0 below ∙ zero-add i

-- ---- the least limit

module _ (n : ℕ) (table : List ℤ) (a : Accepted n table) where
  pub n_always_fits : Arriving n table n n
  n_always_fits = (reached_arriving n table n n).0 (reached_with_n n table a.size)

  pub least_fits : Arriving n table (least_limit n table) n
  least_fits = (reached_arriving n table _ n).0 (least_reaches n table a.size _ (omega arith))

  pub smaller_fits_not : (smaller : ℕ) → smaller < least_limit n table → ¬ Arriving n table smaller n
  smaller_fits_not smaller l some = true≢false (sym ((reached_arriving n table smaller n).1 some) ∙ below_reaches_not n table smaller l)

  pub least_to_n : (1 ≤ least_limit n table) × (least_limit n table ≤ n)
  least_to_n = least_within n table a.size (variables_some n table a)

  pub least_admitted : Limit (least_limit n table)
  least_admitted = (limit_test _).0 (limit_within n table a (least_limit n table) least_to_n.0 least_to_n.1)

  -- Plan beside it.
  pub nine_exactly : (limit : ℕ) → Limit limit → (limit < least_limit n table) ↔ (plan n table limit ≡ refused 9)
  nine_exactly limit l = let exactly = plan_nine n table limit a ((limit_test limit).1 l) in (exactly.1, exactly.0)

  pub plan_from_least : (limit : ℕ) → Limit limit → least_limit n table ≤ limit → Planned n table limit
  plan_from_least limit l enough = grouping (plan_some n table limit a ((limit_test limit).1 l))
    where
      grouping : Planned n table limit ⊎ (plan n table limit ≡ refused 9) → Planned n table limit
      grouping (inl p) = p
      grouping (inr r) = absurd (let below = (nine_exactly limit l).1 r in omega arith)

  pub plan_with_least : Planned n table (least_limit n table)
  plan_with_least = plan_from_least (least_limit n table) least_admitted (omega arith)

-- It is the same for every limit given.
pub one_least : (n : ℕ) (table : List ℤ) (limit other : ℕ) (f g : Reachable) → reach n table limit ≡ accepted f → reach n table other ≡ accepted g → g.limit ≡ f.limit
one_least n table limit other f g e d = (reach_finds n table other g d).1 ∙ sym (reach_finds n table limit f e).1

-- ---- what stopped it, and what comes back

module _ (n : ℕ) (table : List ℤ) (limit : ℕ) (a : Accepted n table) (l : Limit limit) where
  limited : is_limit limit ≡ true
  limited = (limit_test limit).1 l

  pub bottom_listed : Planned n table limit ↔ Memᴰ n (reached_cuts n table limit)
  bottom_listed = (
    (λ p. (lists_exactly n table limit n).0 (omega arith, (reached_arriving n table limit n).0 (planned_reached n table limit p.0 p.1))),
    (λ m. grouping ((reached_arriving n table limit n).1 ((lists_exactly n table limit n).1 m).1) (plan_some n table limit a limited)),
  )
    where
      grouping : is_reached n table limit n ≡ true → Planned n table limit ⊎ (plan n table limit ≡ refused 9) → Planned n table limit
      grouping reached (inl p) = p
      grouping reached (inr r) = absurd (true≢false (sym reached ∙ (nine_where_unreached n table limit a limited).0 r))

  pub all_listed : Planned n table limit → reached_cuts n table limit ≡ numbers_from 0 (suc n)
  all_listed p = run n table limit a ∙ ap (λ last. numbers_from 0 (suc last)) ((bottom_furthest n table a.size limit).0 (planned_reached n table limit p.0 p.1))

  pub stopped_there : plan n table limit ≡ refused 9
      → (last : ℕ) × (last < n) × (reached_cuts n table limit ≡ numbers_from 0 (suc last)) × ((g : ℕ) → 1 ≤ g → limit < address_width n table last g)
  stopped_there p =
      let last = furthest (one_wide n table) limit n in
      let most = furthest_cut (one_wide n table) limit n in
      let unreached = (nine_where_unreached n table limit a limited).0 p in
      let other : last ≡ n → ⊥ = (λ bottom. true≢false (sym ((bottom_furthest n table a.size limit).1 bottom) ∙ unreached)) in
      let above : last < n = omega arith in
      (last, above, run n table limit a, none_fits_there n table a.size limit above)

  found : reach n table limit ≡ accepted (reachable n table limit)
  found = answers.reach_finds n table limit a limited

  pub reach_verdict : reach_answer n table limit ≡ accepted (record { count = length (reached_cuts n table limit); limit = least_limit n table })
  unfolding reach_answer reach_totals reachable
  reach_verdict = ap (map_answer reach_totals) found

  pub reach_array : cut_array (reach n table limit) ≡ reached_cuts n table limit ++ replicate (13 - length (reached_cuts n table limit)) 0
  unfolding cut_array entries padded most_variables reachable
  reach_array = ap cut_array found

pub reach_array_refused : (n : ℕ) (table : List ℤ) (limit k : ℕ) → reach n table limit ≡ refused k → cut_array (reach n table limit) ≡ replicate 13 0
unfolding cut_array entries padded most_variables
reach_array_refused n table limit k e = ap cut_array e
