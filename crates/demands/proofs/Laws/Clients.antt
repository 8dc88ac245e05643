-- What the contracts of Compile, Run and Expand say together.
use Rattle.std.specs.Prelude.{ℕ, ◌^◌, ◌≤◌, ◌≡◌, List, length, get_or, take, ltb, eqb, ℤ, pos, Result, Ok, Err}
use Rattle.std.proofs.Common.{refl, sym, ap, ◌∙◌, arith, length-append, length-take-le, ltb-true, ltb-false, eqb-true}
use borrow.Author.Tests.{eqb-false}
use Rattle.numbers.specs.Answers.{accepted, refused, unless, map_answer, and_then, buffer_after}
use Rattle.numbers.specs.Refusals.{answer_of, number}
use Rattle.numbers.specs.declared.Refusal.{Refusal}
use Rattle.numbers.proofs.Laws.Bools.{yes_or_no}
use Rattle.image.specs.Commands.{card_of}
use Rattle.image.specs.Run.{run, ran, expand, expand_buffer, Expands}
use Rattle.image.proofs.Theorems.{run_turns_x_away, expand_turns_length_away}
use Rattle.image.specs.declared.Evaluated.{Evaluated}
use Rattle.cascade.specs.Compile.{ImageSummary, image_summary, compile_answer, compile_buffer, compiled_image, outcome, Compiles}
use Rattle.cascade.proofs.Theorems.{compiled_runs, compiled_expands, compiled_bits}
use Rattle.cascade.proofs.Laws.Admitting.{compile_admits, report_admits}
use Rattle.cascade.specs.declared.Compiled.{Compiled}
use Rattle.demands.specs.Clients.{run_table, RunsTable, expand_table, ExpandsTable}

module _ (n : ℕ) (table : List ℤ) (limit : ℕ) (buffer : List ℕ) (r : ImageSummary) (compiled : compile_answer n table limit (length buffer) ≡ accepted r) where
  -- The compiled image lies within the buffer.
  pub image_inside : r.image_length ≤ length (compile_buffer n table limit buffer)
  unfolding compile_buffer image_summary
  image_inside =
      let q = report_admits n table limit (length buffer) r compiled in
      let c = compile_admits n table limit (length buffer) q.0 q.1.0 in
      rw (q.1.1, q.1.0, length-append) (omega arith)

  -- Run on it, for every X.
  pub image_run : (x : ℕ) → run (compiled_image r (compile_buffer n table limit buffer)) x ≡ unless (ltb x (2 ^ n)) 7 (accepted (record { value = get_or table x (pos 0); words = r.planned.cells }))
  unfolding card_of
  image_run x =
      yes_or_no (ltb x (2 ^ n))
      (λ l. compiled_runs n table limit buffer r compiled x (ltb-true x (2 ^ n) l) ∙ rw l)
      (λ l. (run_turns_x_away _ x).0 (_, (compiled_bits n table limit buffer r compiled).1, ltb-false x (2 ^ n) l) ∙ rw l)

  -- Expand on it, for every buffer.
  pub image_expand : (places : ℕ) → expand (compiled_image r (compile_buffer n table limit buffer)) places ≡ unless (eqb places (2 ^ n)) 2 (accepted table)
  unfolding card_of
  image_expand places =
      yes_or_no (eqb places (2 ^ n))
      (λ l. ap (expand (compiled_image r (compile_buffer n table limit buffer))) (eqb-true places (2 ^ n) l) ∙ compiled_expands n table limit buffer r compiled ∙ rw l)
      (λ l. (expand_turns_length_away _ places).0 (_, (compiled_bits n table limit buffer r compiled).1, eqb-false places (2 ^ n) l) ∙ rw l)

module _ (n : ℕ) (table : List ℤ) (limit : ℕ) (buffer buffer' : List ℕ) where
  -- Compile gave an image.
  module _ (image : Compiled) (compiles : Compiles n table limit buffer (Ok image) buffer') where
    abbrev reported : ImageSummary
    reported = record { image_length = image.length; nodes = image.nodes; planned = record { cells = image.count; bits = image.bits } }

    known : compile_answer n table limit (length buffer) ≡ accepted reported
    unfolding outcome answer_of
    known = sym compiles.answered

    pub front_inside : image.length ≤ length buffer'
    front_inside = rw compiles.left (image_inside n table limit buffer reported known)

    pub front_length : image.length ≡ length (take image.length buffer')
    front_length = sym (length-take-le _ _ front_inside)

    front : take image.length buffer' ≡ compiled_image reported (compile_buffer n table limit buffer)
    unfolding compiled_image
    front = ap (take image.length) compiles.left

    pub run_gives : (x : ℕ) (answer : Result Evaluated Refusal) → ran answer ≡ run (take image.length buffer') x → RunsTable n table limit buffer x answer buffer'
    unfolding run_table
    run_gives x answer e = record {
      answered = e ∙ ap (λ i. run i x) front ∙ image_run n table limit buffer reported known x ∙ sym (ap (λ a. and_then a (λ r. unless (ltb x (2 ^ n)) 7 (accepted (record { value = get_or table x (pos 0); words = r.planned.cells })))) known);
      left = compiles.left;
    }

    pub expand_gives : (values : List ℤ) (answer : Result (Unit {0}) Refusal) (values' : List ℤ) → Expands (take image.length buffer') values answer values' → ExpandsTable n table limit buffer values answer buffer' values'
    unfolding expand_table expand_buffer
    expand_gives values answer values' e =
        let same : expand (take image.length buffer') (length values) ≡ and_then (compile_answer n table limit (length buffer)) (λ r. unless (eqb (length values) (2 ^ n)) 2 (accepted table)) =
        (ap (λ i. expand i (length values)) front ∙ image_expand n table limit buffer reported known (length values) ∙ sym (ap (λ a. and_then a (λ r. unless (eqb (length values) (2 ^ n)) 2 (accepted table))) known)) in
        record {
          answered = e.answer ∙ ap (map_answer (λ t. tt)) same;
          left = compiles.left;
          written = e.written ∙ ap (λ a. buffer_after a (λ t. t) values) same;
        }

  -- Compile refused.
  module _ (refusal : Refusal) (compiles : Compiles n table limit buffer (Err refusal) buffer') where
    turned : compile_answer n table limit (length buffer) ≡ refused (number refusal)
    unfolding outcome answer_of
    turned = sym compiles.answered

    pub run_refused : (x : ℕ) → RunsTable n table limit buffer x (Err refusal) buffer'
    unfolding run_table ran answer_of
    run_refused x = record { answered = rw turned refl; left = compiles.left }

    pub expand_refused : (values : List ℤ) → ExpandsTable n table limit buffer values (Err refusal) buffer' values
    unfolding expand_table answer_of
    expand_refused values = record { answered = rw turned refl; left = compiles.left; written = rw turned }
