-- Plan's and Compile's answers, known by cases, are what comes back through C.
use Rattle.std.specs.Prelude.{ℕ, ◌≡◌, length, ℤ, Result, Ok, Err}
use Rattle.std.proofs.Common.{sym, ◌∙◌, ap}
use mathlib.Core.List.{List, flat_map}
use Rattle.numbers.specs.Answers.{accepted, refused}
use Rattle.numbers.specs.Refusals.{number, answer_of}
use Rattle.numbers.specs.declared.Refusal.{Refusal}
use Rattle.cascade.specs.Plan.{plan_answer, judgement, Plans}
use Rattle.cascade.specs.Compile.{compile_answer, outcome, compiled_cells, Compiles}
use Rattle.cascade.specs.declared.Compiled.{Compiled}
use Rattle.cascade.specs.declared.Grouping.{Grouping}
use Rattle.cascade.specs.declared.Planned.{Planned}
use Rattle.exports.specs.CascadeGiven.{PlanGiven, CompileGiven}
use Rattle.cascade.specs.Rows.{cell_row}

module _ (n : ℕ) (table : List ℤ) (limit : ℕ) (sizes cells : List ℕ) (count bits : ℕ) (p : Planned) (plans : Plans n table limit p) where
  -- A grouping comes back.
  pub plan_given : (grouping : Grouping) (rows : List ℕ) → p.verdict ≡ Ok grouping → rows ≡ flat_map cell_row p.cells → PlanGiven n table limit sizes cells count bits 0 p.sizes rows grouping.cells grouping.bits
  unfolding judgement answer_of
  plan_given grouping rows e r =
      let a : plan_answer n table limit ≡ accepted (record { cells = grouping.cells; bits = grouping.bits }) = sym plans.judged ∙ ap judgement e in
      record {
        answered = rw a;
        sized = rw a plans.listed;
        celled = rw a (r ∙ ap (flat_map cell_row) plans.priced);
        counted = rw a;
        summed = rw a;
      }

  -- A refusal leaves all as it was.
  pub plan_refused : (refusal : Refusal) → p.verdict ≡ Err refusal → PlanGiven n table limit sizes cells count bits (number refusal) sizes cells count bits
  unfolding judgement answer_of
  plan_refused refusal e =
      let a : plan_answer n table limit ≡ refused (number refusal) = sym plans.judged ∙ ap judgement e in
      record { answered = rw a; sized = rw a; celled = rw a; counted = rw a; summed = rw a }

module _ (n : ℕ) (table : List ℤ) (limit : ℕ) (image cells : List ℕ) (image_length nodes count bits : ℕ) (c : Result Compiled Refusal) (image' : List ℕ) (compiles : Compiles n table limit image c image') where
  -- An image comes back.
  pub compile_given : (compiled : Compiled) (rows : List ℕ) → c ≡ Ok compiled → rows ≡ flat_map cell_row compiled.cells → CompileGiven n table limit image cells image_length nodes count bits 0 image' rows compiled.length compiled.nodes compiled.count compiled.bits
  unfolding outcome answer_of compiled_cells
  compile_given compiled rows e r =
      let a : compile_answer n table limit (length image) ≡ accepted (record { image_length = compiled.length; nodes = compiled.nodes; planned = record { cells = compiled.count; bits = compiled.bits } }) = sym compiles.answered ∙ ap outcome e in
      record {
        answered = rw a;
        imaged = compiles.left;
        celled = rw a (r ∙ ap (flat_map cell_row) (sym (ap compiled_cells e) ∙ compiles.priced));
        measured = rw a;
        noded = rw a;
        counted = rw a;
        summed = rw a;
      }

  -- A refusal leaves all as it was.
  pub compile_refused : (refusal : Refusal) → c ≡ Err refusal → CompileGiven n table limit image cells image_length nodes count bits (number refusal) image' cells image_length nodes count bits
  unfolding outcome answer_of
  compile_refused refusal e =
      let a : compile_answer n table limit (length image) ≡ refused (number refusal) = sym compiles.answered ∙ ap outcome e in
      record { answered = rw a; imaged = compiles.left; celled = rw a; measured = rw a; noded = rw a; counted = rw a; summed = rw a }
