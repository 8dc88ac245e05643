-- Run and Expand of an accepted image, and of one that is refused.
use Rattle.std.specs.Prelude.{Ok, Err, ℕ, ◌^◌, ◌≤◌, ◌<◌, ◌≡◌, refl, List, ◌++◌, map, ltb, eqb, length, ℤ}
use Rattle.std.proofs.Common.{sym, ◌∙◌, append-nil, arith, drop_of_length-le, lt-ltb, le-ltb, eq-eqb, ne_eqb}
use Rattle.std.proofs.Math.Path.{ap}
use Rattle.std.proofs.lemmas.List.{length-map}
use Rattle.numbers.specs.Answers.{Answer, accepted, refused, unless, buffer_after}
use Rattle.numbers.specs.Lists.{numbers_from}
use Rattle.numbers.proofs.Laws.Answers.{map_refused}
use Rattle.numbers.proofs.Laws.Lists.{length_range}
use Rattle.image.specs.Cells.{Card}
use Rattle.image.specs.Inner.Evaluation.{Accepted, card_read, values_to}
use Rattle.image.specs.Run.{Expands, run_card, run, card_values, expand, expand_buffer}
use Rattle.image.specs.Reader.{reading}
use Rattle.image.proofs.Laws.Evaluating.{is_card}
use Rattle.image.proofs.Laws.Reading.{done}
use Rattle.image.specs.declared.Command.{Command}
use Rattle.numbers.specs.Refusals.{number, answer_of}
use Rattle.numbers.specs.declared.Refusal.{Refusal}

-- ---- what a check says

pub done_accepted : (answer : Answer (List Command)) → done answer ≡ accepted tt → (commands : List Command) × (answer ≡ accepted commands)
unfolding done
done_accepted (accepted commands) h = (commands, refl)
done_accepted (refused k) h = absurd (let z : ◌≡◌ {A = ℕ} 0 1 = cc in omega arith)

module _ (image : List ℕ) where
  pub check_refuses : (k : ℕ) → done (reading image) ≡ refused k → reading image ≡ refused k
  unfolding done
  check_refuses k h = map_refused (λ commands. tt) (reading image) k h

  pub check_accepts : done (reading image) ≡ accepted tt → Accepted image
  check_accepts h = let r = done_accepted (reading image) h in record { commands = r.0; read = r.1 }

  -- ---- Run

  pub run_refused : (x k : ℕ) → reading image ≡ refused k → run image x ≡ refused k
  unfolding run
  run_refused x k h = rw h

  module _ (a : Accepted image) where
    accepted_run : (x : ℕ) → run image x ≡ unless (ltb x (2 ^ (card_read image).n)) 7 (accepted (run_card (card_read image) x))
    unfolding run
    accepted_run x = rw (is_card image a, a.read)

    pub run_late : (x : ℕ) → 2 ^ (card_read image).n ≤ x → run image x ≡ refused 7
    run_late x h = accepted_run x ∙ ap (λ b. unless b 7 (accepted (run_card (card_read image) x))) (le-ltb x (2 ^ (card_read image).n) h)

    pub run_value : (x : ℕ) → x < 2 ^ (card_read image).n → run image x ≡ accepted (run_card (card_read image) x)
    run_value x h = accepted_run x ∙ ap (λ b. unless b 7 (accepted (run_card (card_read image) x))) (lt-ltb x (2 ^ (card_read image).n) h)

    -- ---- Expand

    accepted_expand : (room : ℕ) → expand image room ≡ unless (eqb room (2 ^ (card_read image).n)) 2 (accepted (card_values (card_read image)))
    unfolding expand
    accepted_expand room = rw (is_card image a, a.read)

    pub expand_room : (room : ℕ) → (room ≡ 2 ^ (card_read image).n → ⊥) → expand image room ≡ refused 2
    expand_room room h = accepted_expand room ∙ ap (λ b. unless b 2 (accepted (card_values (card_read image)))) (ne_eqb room (2 ^ (card_read image).n) h)

    pub expand_values : (room : ℕ) → room ≡ 2 ^ (card_read image).n → expand image room ≡ accepted (values_to (card_read image) room)
    unfolding values_to card_values
    expand_values room h =
        accepted_expand room
        ∙ ap (λ b. unless b 2 (accepted (card_values (card_read image)))) (eq-eqb room (2 ^ (card_read image).n) h)
        ∙ ap (λ n. accepted (map (λ x. (run_card (card_read image) x).value) (numbers_from 0 n))) (sym h)

  pub expand_refused : (room k : ℕ) → reading image ≡ refused k → expand image room ≡ refused k
  unfolding expand
  expand_refused room k h = rw h

  -- ---- the table buffer

  -- A refusal leaves it as it was.
  pub expands_refused : (buffer : List ℤ) (r : Refusal) → expand image (length buffer) ≡ refused (number r) → Expands image buffer (Err r) buffer
  unfolding answer_of expand_buffer
  expands_refused buffer r h = record { answer = rw h; written = rw h }

pub length_values : (card : Card) (count : ℕ) → length (values_to card count) ≡ count
unfolding values_to
length_values card count = length-map (numbers_from 0 count) (λ x. (run_card card x).value) ∙ length_range 0 count

-- Else it holds Run's values.
pub expands_table : (image : List ℕ) → Accepted image → (buffer after : List ℤ) → length buffer ≡ 2 ^ (card_read image).n → after ≡ values_to (card_read image) (length buffer) → Expands image buffer (Ok tt) after
unfolding answer_of expand_buffer
expands_table image a buffer after room e =
    let h = expand_values image a (length buffer) room in
    record {
      answer = rw h;
      written = (
          e
          ∙ sym
          (ap (λ answer. buffer_after answer (λ values. values) buffer) h
          ∙ ap (λ l. values_to (card_read image) (length buffer) ++ l) (drop_of_length-le buffer {i = length (values_to (card_read image) (length buffer))} (let l = length_values (card_read image) (length buffer) in omega arith))
          ∙ append-nil (values_to (card_read image) (length buffer)))
          );
    }
