-- Reach goes by its checks, and what it finds.
use Rattle.std.specs.Prelude.{ℕ, ◌≡◌, List, ℤ}
use Rattle.numbers.specs.Answers.{accepted}
use Rattle.numbers.specs.Ranges.{is_limit}
use Rattle.numbers.proofs.Laws.Tests.{limit_test}
use Rattle.diagram.specs.Accepted.{Accepted}
use Rattle.reach.specs.Reach.{reachable, least_limit, reach, reach_totals, reach_answer}
use Rattle.reach.proofs.Laws.Answers.{answer_tells}
use Rattle.reach.proofs.Theorems as reaches
use Rattle.demands.specs.Checks.{AllHold, Decided}
use Rattle.demands.specs.Admitted.{table_checks}
use Rattle.demands.specs.Requested.{reach_checks, ReachOf}
use Rattle.demands.proofs.Laws.Checks.{decided_accepted, decided_unless, decided_map, all_append, answers_value}
use Rattle.demands.proofs.Laws.Diagram.{decided_table, accepted_table}
use Rattle.demands.proofs.Laws.Cascade.{fitting_cells, fitting_tests}

module _ (n : ℕ) (table : List ℤ) (limit : ℕ) where
  decided_found : Decided (reach n table limit) (reach_checks n table limit)
  unfolding reach reach_checks
  decided_found = decided_table n table (decided_unless (is_limit limit) (limit_test limit) (decided_accepted (reachable n table limit)))

  pub decided_reach : Decided (reach_answer n table limit) (reach_checks n table limit)
  unfolding reach_answer
  decided_reach = decided_map reach_totals (reach n table limit) decided_found

  pub reach_value : AllHold (reach_checks n table limit) → reach n table limit ≡ accepted (reachable n table limit)
  reach_value = answers_value decided_found (reachable n table limit) (λ f e. (answer_tells n table limit f e).1.1)

  -- What is found where all checks hold.
  module _ (all : AllHold (reach_checks n table limit)) where
    admitted : Accepted n table
    unfolding reach_checks
    admitted = (accepted_table n table).0 ((all_append (table_checks n table) _).0 all).0

    pub reach_of : ReachOf n table limit (reachable n table limit)
    unfolding reachable
    reach_of = record {
      listed = λ h.
          let l = reaches.lists_exactly n table limit h in (
            (λ p. let t = (fitting_cells n table limit h p.1.0).0 p.1.1 in l.0 (p.0, (p.1.0, t.0, t.1))),
            (λ m. let r = l.1 m in (r.0, (r.1.0, (fitting_cells n table limit h r.1.0).1 (r.1.1, r.1.2)))),
          );
      rising = reaches.cuts_rise n table limit admitted;
      fitting = let r = reaches.least_fits n table admitted in (r.0, (fitting_tests n table (least_limit n table) r.0).1 (r.1, r.2));
      smaller = λ less l sizes f. let t = (fitting_tests n table less sizes).0 f in reaches.smaller_fits_not n table admitted less l (sizes, t.0, t.1);
    }
