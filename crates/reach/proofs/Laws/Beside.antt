-- Plan beside the least limit: 9 exactly below it.
use Rattle.std.specs.Prelude.{ℕ, ◌≤◌, ◌<◌, ◌≡◌, refl, ◌↔◌, ◌⊎◌, true, false, List, leb, ltb, ℤ}
use Rattle.std.proofs.Common.{sym, ◌∙◌, ap, inl, inr, true≢false, arith, le-leb, ltb-true, ltb-false}
use Rattle.numbers.specs.Answers.{Answer, accepted, refused}
use Rattle.numbers.specs.Ranges.{is_limit, widest_address}
use Rattle.numbers.proofs.Laws.Answers.{not_refused}
use Rattle.numbers.proofs.Laws.Bools.{yes_or_no, and_both}
use Rattle.diagram.specs.Accepted.{Accepted}
use Rattle.cascade.specs.Groupings.{fits, is_grouping, chosen}
use Rattle.cascade.specs.Plan.{plan}
use Rattle.cascade.proofs.Laws.Compiled.{plan_chooses}
use Rattle.cascade.proofs.Laws.Admitting.{plan_admits}
use Rattle.cascade.proofs.Laws.Cells.{variables_most}
use Rattle.cascade.proofs.Laws.Chosen.{chosen_refuses, chosen_refuses_by_nine, chosen_best}
use Rattle.reach.specs.Reach.{is_reached, least_limit}
use Rattle.reach.proofs.Laws.Answers.{by_checks}
use Rattle.reach.proofs.Laws.Reached.{reached_arriving, least_reaches, below_reaches_not}

-- A limit from 1 to n is admitted.
pub limit_within : (n : ℕ) (table : List ℤ) → Accepted n table → (limit : ℕ) → 1 ≤ limit → limit ≤ n → is_limit limit ≡ true
unfolding is_limit widest_address
limit_within n table a limit some most = and_both (leb 1 limit) (leb limit 12) (le-leb 1 limit some) (le-leb limit 12 (let f = variables_most n table a in omega arith))

module _ (n : ℕ) (table : List ℤ) (limit : ℕ) where
  -- Where the bottom cut is not reached no grouping fits.
  pub unreached_fits_not : is_reached n table limit n ≡ false → (sizes : List ℕ) → is_grouping n sizes ≡ true → fits n table limit sizes ≡ false
  unreached_fits_not e sizes grouping = yes_or_no (fits n table limit sizes) (λ fit. absurd (true≢false (sym ((reached_arriving n table limit n).1 (sizes, grouping, fit)) ∙ e))) (λ unfit. unfit)

  -- The other way round, 9 tells that it is not reached.
  nine_unreached : chosen n table limit ≡ refused 9 → is_reached n table limit n ≡ false
  nine_unreached r =
      yes_or_no (is_reached n table limit n)
      (λ e. let a = (reached_arriving n table limit n).0 e in absurd (true≢false (sym a.2 ∙ (chosen_refuses n table limit).0 r a.0 a.1)))
      (λ e. e)

  -- A grouping that Plan answers reaches it.
  pub planned_reached : (sizes : List ℕ) → plan n table limit ≡ accepted sizes → is_reached n table limit n ≡ true
  planned_reached sizes p = let best = chosen_best n table limit sizes (plan_admits n table limit sizes p).1.1 in (reached_arriving n table limit n).1 (sizes, best.grouping, best.fitting)

  -- What is known where Plan passes its checks.
  pub plan_tells : ((sizes : List ℕ) × (plan n table limit ≡ accepted sizes)) ⊎ (plan n table limit ≡ refused 9) → Accepted n table × (is_limit limit ≡ true)
  plan_tells =
      by_checks n table limit (λ a p. ((sizes : List ℕ) × (p ≡ accepted sizes)) ⊎ (p ≡ refused 9) → Accepted n table × (is_limit limit ≡ true))
      (λ a. other 1 (λ e. omega arith))
      (λ a b. other 2 (λ e. omega arith))
      (λ a b c. other 3 (λ e. omega arith))
      (λ t d. other 8 (λ e. omega arith))
      (λ t d p. (t, d))
    where
      other : (j : ℕ) → (j ≡ 9 → ⊥) → ((sizes : List ℕ) × (◌≡◌ {A = Answer (List ℕ)} (refused j) (accepted sizes))) ⊎ (◌≡◌ {A = Answer (List ℕ)} (refused j) (refused 9)) → Accepted n table × (is_limit limit ≡ true)
      other j not_nine (inl a) = not_refused a.0 j (sym a.1)
      other j not_nine (inr e) = absurd (not_nine (let same : j ≡ 9 = cc in same))

  module _ (t : Accepted n table) (d : is_limit limit ≡ true) where
    -- It then answers a grouping or 9.
    pub plan_some : ((sizes : List ℕ) × (plan n table limit ≡ accepted sizes)) ⊎ (plan n table limit ≡ refused 9)
    plan_some = either (chosen n table limit) refl
      where
        either : (answer : Answer (List ℕ)) → chosen n table limit ≡ answer → ((sizes : List ℕ) × (plan n table limit ≡ accepted sizes)) ⊎ (plan n table limit ≡ refused 9)
        either (accepted sizes) e = inl (sizes, plan_chooses n table t limit d ∙ e)
        either (refused k) e = inr (plan_chooses n table t limit d ∙ e ∙ ap refused (chosen_refuses_by_nine n table limit k e))

    -- 9 exactly where the bottom cut is not reached.
    pub nine_where_unreached : (plan n table limit ≡ refused 9) ↔ (is_reached n table limit n ≡ false)
    nine_where_unreached = (
      (λ e. nine_unreached (sym (plan_chooses n table t limit d) ∙ e)),
      (λ e. plan_chooses n table t limit d ∙ (chosen_refuses n table limit).1 (unreached_fits_not e)),
    )

    -- 9 exactly below the least limit.
    pub plan_nine : (plan n table limit ≡ refused 9) ↔ (limit < least_limit n table)
    plan_nine = (
      (λ e.
          yes_or_no (ltb limit (least_limit n table))
          (λ l. ltb-true limit (least_limit n table) l)
          (λ l. absurd (true≢false (sym (least_reaches n table t.size limit (ltb-false limit (least_limit n table) l)) ∙ nine_where_unreached.0 e)))),
      (λ l. nine_where_unreached.1 (below_reaches_not n table limit l)),
    )
