-- What follows from the class counts is Reach's answer.
use Rattle.std.specs.Prelude.{ℕ, suc, ◌<◌, ◌≡◌, true, List, get_or, ℤ, Ok, Err}
use Rattle.std.proofs.Math.Path.{sym, ap, ap₂}
use Rattle.std.proofs.Common.{◌∙◌, le_trans, arith, pow_mono}
use Rattle.std.proofs.Math.ListN.{length}
use Rattle.numbers.specs.Answers.{accepted, refused, map_answer}
use Rattle.numbers.specs.Refusals.{number, answer_of}
use Rattle.numbers.specs.declared.Refusal.{Refusal}
use Rattle.numbers.specs.Lists.{numbers_from, padded}
use Rattle.numbers.specs.Ranges.{is_limit, most_variables}
use Rattle.numbers.proofs.Laws.Lists.{length_range}
use Rattle.blocks.specs.Classes.{class_count, rail_at}
use Rattle.blocks.specs.Rows.{all_counts}
use Rattle.blocks.proofs.Laws.Classes.{class_count_le}
use Rattle.blocks.proofs.Laws.Places.{length_counts, count_at}
use Rattle.diagram.specs.Accepted.{Accepted}
use Rattle.cascade.specs.Groupings.{address_width}
use Rattle.cascade.specs.Plan.{entries}
use Rattle.cascade.proofs.Laws.Cells.{variables_most}
use Rattle.reach.specs.Reach.{reachable, reach, cut_array, reach_totals, reach_answer, reach_judgement, cuts_of, Reaches}
use Rattle.reach.specs.Inner.Narrowest.{furthest}
use Rattle.reach.proofs.Laws.Answers.{reach_finds}
use Rattle.reach.proofs.Laws.Narrowest.{furthest_same, widest_same}
use Rattle.reach.proofs.Laws.Reached.{one_wide, cuts_run, least_widest}
use Rattle.reach.specs.Inner.NarrowCells.{narrowest_in, CountsReady}
use Rattle.reach.specs.Inner.Counts.{reached_in}

module _ (n : ℕ) (table : List ℤ) (a : Accepted n table) {count_row : List ℕ} (counted : count_row ≡ all_counts n table) where
  pub count_is : (h : ℕ) → h < n → get_or count_row h 0 ≡ class_count n table h
  count_is h l = ap (λ row. get_or row h 0) counted ∙ count_at n table h (omega arith)

  -- The counts of an accepted table are ready.
  pub counts_ready : CountsReady n count_row
  counts_ready = record {
    variables = variables_most n table a;
    places = rw (counted, length_counts n table) (omega arith);
    few = λ h l. rw (count_is h l) (le_trans (class_count_le n table h (omega arith)) (pow_mono {i = h} {j = 12} (let m = variables_most n table a in omega arith)));
  }

  narrowest_is : (h : ℕ) → h < n → narrowest_in count_row h ≡ one_wide n table h
  unfolding narrowest_in address_width rail_at
  narrowest_is h l = rw (count_is h l)

  -- From them Reach's answer follows.
  pub counts_reach : (limit : ℕ) → is_limit limit ≡ true → Reaches n table limit (Ok (reached_in n limit count_row))
  unfolding answer_of cuts_of reached_in reachable reach_answer reach_totals reach_judgement cut_array entries most_variables
  counts_reach limit l =
      let last = furthest_same (narrowest_in count_row) (one_wide n table) n narrowest_is limit in
      let run = ap (λ k. numbers_from 0 (suc k)) last ∙ sym (cuts_run n table a.size limit) in
      let many = sym (length_range 0 (suc (furthest (narrowest_in count_row) limit n))) ∙ ap length run in
      let least = widest_same (narrowest_in count_row) (one_wide n table) n narrowest_is n (omega arith) ∙ sym (least_widest n table a.size) in
      let finds = reach_finds n table limit a l in
      record {
        judged = ap₂ (λ k w. accepted (record { count = k; limit = w })) many least ∙ sym (ap (map_answer reach_totals) finds);
        listed = ap (padded 13 0) run ∙ sym (ap cut_array finds);
      }

-- A refusal of Reach.
pub refused_reaches : (n : ℕ) (table : List ℤ) (limit : ℕ) (r : Refusal) → reach n table limit ≡ refused (number r) → Reaches n table limit (Err r)
unfolding answer_of reach_judgement reach_answer cuts_of cut_array padded entries most_variables
refused_reaches n table limit r e = record { judged = sym (ap (map_answer reach_totals) e); listed = sym (ap cut_array e) }
