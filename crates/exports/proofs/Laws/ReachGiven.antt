-- Reach's answer, known by cases, is what comes back through C.
use Rattle.std.specs.Prelude.{ℕ, ◌≡◌, List, ℤ, Result, Ok, Err}
use Rattle.std.proofs.Common.{sym, ◌∙◌, ap}
use Rattle.numbers.specs.Answers.{accepted, refused}
use Rattle.numbers.specs.Refusals.{number, answer_of}
use Rattle.numbers.specs.declared.Refusal.{Refusal}
use Rattle.reach.specs.Reach.{reach_answer, reach_judgement, cuts_of, Reaches}
use Rattle.reach.specs.declared.Reached.{Reached}
use Rattle.exports.specs.ReachGiven.{ReachGiven}

module _ (n : ℕ) (table : List ℤ) (limit : ℕ) (cuts : List ℕ) (count least : ℕ) (r : Result Reached Refusal) (reaches : Reaches n table limit r) where
  -- Cuts and a least limit come back.
  pub reach_given : (reached : Reached) → r ≡ Ok reached → ReachGiven n table limit cuts count least 0 reached.cuts reached.count reached.least
  unfolding reach_judgement answer_of cuts_of
  reach_given reached e =
      let a : reach_answer n table limit ≡ accepted (record { count = reached.count; limit = reached.least }) = sym reaches.judged ∙ ap reach_judgement e in
      record { answered = rw a; listed = rw a (sym (ap cuts_of e) ∙ reaches.listed); counted = rw a; limited = rw a }

  -- A refusal leaves all as it was.
  pub reach_refused : (refusal : Refusal) → r ≡ Err refusal → ReachGiven n table limit cuts count least (number refusal) cuts count least
  unfolding reach_judgement answer_of
  reach_refused refusal e =
      let a : reach_answer n table limit ≡ refused (number refusal) = sym reaches.judged ∙ ap reach_judgement e in
      record { answered = rw a; listed = rw a; counted = rw a; limited = rw a }
