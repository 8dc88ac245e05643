-- Reach (W-205): which calls it answers and what turns the others away; for every accepted table which cuts are listed,
-- what the least limit is, and how both stand to Plan; and what comes back.
use Rattle.std.specs.Prelude.{ℕ, suc, ◌-◌, ◌^◌, ◌≤◌, ◌<◌, ◌≡◌, ◌↔◌, ◌⊎◌, length, get_or, replicate, ℤ, pos}
use mathlib.Core.List.{List, ◌∷◌, ◌++◌, Memᴰ}
use Rattle.numbers.specs.Answers.{accepted, refused}
use Rattle.numbers.specs.Conditions.{Variables, Limit, TableValue}
use Rattle.numbers.specs.Lists.{numbers_from}
use Rattle.diagram.specs.Accepted.{Accepted}
use Rattle.cascade.specs.Groupings.{address_width}
use Rattle.cascade.specs.Plan.{plan}
use Rattle.reach.specs.Reach.{Arriving, reached_cuts, least_limit, Reachable, reachable, reach, cut_array, reach_answer}
use Rattle.reach.proofs.Laws.Refusals as refusals
use Rattle.reach.proofs.Laws.Found as proved

-- Plan answers a grouping.
abbrev Planned : ℕ → List ℤ → ℕ → Type 0
Planned n table limit = (sizes : List ℕ) × (plan n table limit ≡ accepted sizes)

-- ---- which calls are answered, and what turns the others away

module _ (n : ℕ) (table : List ℤ) (limit : ℕ) where
  -- An accepted table with an admitted limit is answered, and nothing else is.
  pub reach_accepts : (Accepted n table × Limit limit) ↔ ((f : Reachable) × (reach n table limit ≡ accepted f))
  reach_accepts = refusals.reach_accepts n table limit

  -- The answer is the cuts that are arrived at, and the least limit.
  pub reach_finds : (f : Reachable) → reach n table limit ≡ accepted f
      → (f.cuts ≡ reached_cuts n table limit) × (f.limit ≡ least_limit n table)
  reach_finds = proved.reach_finds n table limit

  -- 1, 2, 3 and 8, each exactly where the checks before it pass and its own fails.
  pub one_first : (¬ Variables n) ↔ (reach n table limit ≡ refused 1)
  one_first = refusals.one_first n table limit

  pub two_next : (Variables n × ¬ (length table ≡ 2 ^ n)) ↔ (reach n table limit ≡ refused 2)
  two_next = refusals.two_next n table limit

  pub three_next :
      (Variables n × (length table ≡ 2 ^ n) × ((x : ℕ) × (x < 2 ^ n) × ¬ TableValue (get_or table x (pos 0))))
      ↔ (reach n table limit ≡ refused 3)
  three_next = refusals.three_next n table limit

  pub eight_last : (Accepted n table × ¬ Limit limit) ↔ (reach n table limit ≡ refused 8)
  eight_last = refusals.eight_last n table limit

  -- These are Plan's refusals, with the same numbers, but for 9, which is never given.
  pub refused_as_by_plan : (k : ℕ) → ((plan n table limit ≡ refused k) × ¬ (k ≡ 9))
      ↔ (reach n table limit ≡ refused k)
  refused_as_by_plan = refusals.refused_as_by_plan n table limit

  pub never_nine : ¬ (reach n table limit ≡ refused 9)
  never_nine = refusals.never_nine n table limit

  -- It answers where Plan answers a grouping and where Plan answers 9, and gives the same two things in both.
  pub answers_beside_plan : (Planned n table limit ⊎ (plan n table limit ≡ refused 9))
      ↔ (reach n table limit ≡ accepted (reachable n table limit))
  answers_beside_plan = proved.answers_beside_plan n table limit

-- ---- the cuts

-- Listed is every cut that some list of fitting cells from cut 0 arrives at, and no other.
pub lists_exactly : (n : ℕ) (table : List ℤ) (limit h : ℕ)
    → ((h ≤ n) × Arriving n table limit h) ↔ Memᴰ h (reached_cuts n table limit)
lists_exactly = proved.lists_exactly

module _ (n : ℕ) (table : List ℤ) (limit : ℕ) (admitted : Accepted n table) where
  -- The cuts of the list.
  abbrev cuts : List ℕ
  cuts = reached_cuts n table limit

  -- Cut 0 stands first.
  pub cut_0_first : (rest : List ℕ) × (cuts ≡ 0 ∷ rest)
  cut_0_first = proved.cut_0_first n table limit admitted

  -- Each is above those before it; so none stands twice.
  pub cuts_rise : (j k : ℕ) → j < k → k < length cuts → get_or cuts j 0 < get_or cuts k 0
  cuts_rise = proved.cuts_rise n table limit admitted

  -- They run from cut 0 on without a gap, to the bottom cut at most.
  pub no_gap : cuts ≡ numbers_from 0 (length cuts)
  no_gap = proved.no_gap n table limit admitted

  pub cuts_number : (1 ≤ length cuts) × (length cuts ≤ suc n)
  cuts_number = proved.cuts_number n table limit admitted

-- ---- the least limit

module _ (n : ℕ) (table : List ℤ) (admitted : Accepted n table) where
  -- Some grouping fits it.
  pub least_fits : Arriving n table (least_limit n table) n
  least_fits = proved.least_fits n table admitted

  -- None fits a smaller one.
  pub smaller_fits_not : (smaller : ℕ) → smaller < least_limit n table → ¬ Arriving n table smaller n
  smaller_fits_not = proved.smaller_fits_not n table admitted

  -- Some grouping fits the limit n, whatever the table.
  pub n_always_fits : Arriving n table n n
  n_always_fits = proved.n_always_fits n table admitted

  -- So the least limit is from 1 to n, and can be given.
  pub least_to_n : (1 ≤ least_limit n table) × (least_limit n table ≤ n)
  least_to_n = proved.least_to_n n table admitted

  pub least_admitted : Limit (least_limit n table)
  least_admitted = proved.least_admitted n table admitted

  -- Plan answers 9 exactly for the admitted limits below it,
  pub nine_exactly : (limit : ℕ) → Limit limit → (limit < least_limit n table) ↔ (plan n table limit ≡ refused 9)
  nine_exactly = proved.nine_exactly n table admitted

  -- and a grouping for it and for every greater one.
  pub plan_with_least : Planned n table (least_limit n table)
  plan_with_least = proved.plan_with_least n table admitted

  pub plan_from_least : (limit : ℕ) → Limit limit → least_limit n table ≤ limit → Planned n table limit
  plan_from_least = proved.plan_from_least n table admitted

-- Whatever limit is given, the answer has the same least one.
pub one_least : (n : ℕ) (table : List ℤ) (limit other : ℕ) (f g : Reachable)
    → reach n table limit ≡ accepted f → reach n table other ≡ accepted g → g.limit ≡ f.limit
one_least = proved.one_least

-- ---- what stopped it, and what comes back

module _ (n : ℕ) (table : List ℤ) (limit : ℕ) (admitted : Accepted n table) (limited : Limit limit) where
  -- The cuts of the list.
  abbrev listed : List ℕ
  listed = reached_cuts n table limit

  -- The bottom cut is listed exactly where Plan answers a grouping; the list is then that of all cuts.
  pub bottom_listed : Planned n table limit ↔ Memᴰ n listed
  bottom_listed = proved.bottom_listed n table limit admitted limited

  pub all_listed : Planned n table limit → listed ≡ numbers_from 0 (suc n)
  all_listed = proved.all_listed n table limit admitted limited

  -- Where Plan answers 9, the list ends above the bottom cut, and from its last cut no cell fits.
  pub stopped_there : plan n table limit ≡ refused 9
      → (last : ℕ) × (last < n) × (listed ≡ numbers_from 0 (suc last))
      × ((g : ℕ) → 1 ≤ g → limit < address_width n table last g)
  stopped_there = proved.stopped_there n table limit admitted limited

  -- The number of cuts and the least limit come back; the cuts stand in front of the array, and 0 behind them.
  pub reach_verdict : reach_answer n table limit
      ≡ accepted (record { count = length listed; limit = least_limit n table })
  reach_verdict = proved.reach_verdict n table limit admitted limited

  pub reach_array : cut_array (reach n table limit) ≡ listed ++ replicate (13 - length listed) 0
  reach_array = proved.reach_array n table limit admitted limited

-- In a refusal all 0.
pub reach_array_refused : (n : ℕ) (table : List ℤ) (limit k : ℕ) → reach n table limit ≡ refused k
    → cut_array (reach n table limit) ≡ replicate 13 0
reach_array_refused = proved.reach_array_refused
