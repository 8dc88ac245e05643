-- Words read, one in each cell, and Expand's entries.
use Rattle.std.specs.Prelude.{ℕ, ◌+◌, ◌-◌, ◌^◌, ◌<◌, ◌≡◌, refl, List, [], ◌∷◌, eqb, length, get_or, ℤ, pos}
use Rattle.std.proofs.Common.{sym, ◌∙◌, ap, subst, add-zero, zero-add, add-suc, suc-add, arith, eqb-true}
use Rattle.numbers.specs.Answers.{Answer, accepted, refused, map_answer, and_then, unless}
use Rattle.numbers.specs.Lists.{numbers_from}
use Rattle.numbers.proofs.Laws.Answers.{unless_accepted}
use Rattle.numbers.proofs.Laws.Lists.{length_range, get_d_range, get_d_map}
use Rattle.image.specs.Cells.{Cell, Card}
use Rattle.image.specs.Commands.{card_of}
use Rattle.image.specs.Inner.Evaluation.{Accepted, values_to}
use Rattle.image.specs.Reader.{reading}
use Rattle.image.specs.Run.{Result, run_from, run_card, run, card_values, expand}
use Rattle.image.proofs.Laws.Evaluating.{is_card}
use Rattle.image.proofs.Laws.Running.{run_value, length_values}
use Rattle.image.specs.declared.Command.{Command}

from_words : (left : ℕ) (cells : List Cell) (x class : ℕ) (result : Result) → (run_from left cells x class result).words ≡ result.words + length cells
unfolding run_from
from_words left [] x class result = sym (add-zero result.words)
from_words left (cell ∷ cells) x class result = from_words (left - cell.group) cells x _ _ ∙ suc-add result.words (length cells) ∙ sym (add-suc result.words (length cells))

-- One word is read in each cell.
pub card_words : (card : Card) (x : ℕ) → (run_card card x).words ≡ length card.cells
unfolding run_card
card_words card x = from_words card.n card.cells x 0 (record { value = card.offset; words = 0 }) ∙ zero-add (length card.cells)

-- Run of an accepted image.
pub run_of_card : (image : List ℕ) (commands : List Command) → reading image ≡ accepted commands → (x : ℕ) → x < 2 ^ (card_of commands).n → run image x ≡ accepted (run_card (card_of commands) x)
run_of_card image commands h x l =
    let a : Accepted image = record { commands = commands; read = h } in
    subst (λ card. run image x ≡ accepted (run_card card x)) (is_card image a) (run_value image a x (subst (λ card. x < 2 ^ card.n) (sym (is_card image a)) l))

-- ---- Expand's entries

-- An accepted Expand: the commands that were read, the buffer's length, and the values.
pub record Expansion (image : List ℕ) (room : ℕ) (values : List ℤ) : Type 0 where
  pub commands : List Command
  pub read : reading image ≡ accepted commands
  pub fits : room ≡ 2 ^ (card_of commands).n
  pub same : values ≡ card_values (card_of commands)

by_reading : (image : List ℕ) (room : ℕ) (values : List ℤ) (answer : Answer (List Command)) → reading image ≡ answer → and_then answer (λ commands. unless (eqb room (2 ^ (card_of commands).n)) 2 (accepted (card_values (card_of commands)))) ≡ accepted values → Expansion image room values
by_reading image room values (accepted commands) e h =
    let s = unless_accepted (eqb room (2 ^ (card_of commands).n)) 2 (accepted (card_values (card_of commands))) values h in
    record { commands = commands; read = e; fits = eqb-true room (2 ^ (card_of commands).n) s.0; same = (let same : values ≡ card_values (card_of commands) = cc s.1 in same) }
by_reading image room values (refused k) e h = absurd (let z : ◌≡◌ {A = ℕ} 0 1 = cc in omega arith)

pub expansion : (image : List ℕ) (room : ℕ) (values : List ℤ) → expand image room ≡ accepted values → Expansion image room values
unfolding expand
expansion image room values h = by_reading image room values (reading image) refl h

value_at : (card : Card) (x : ℕ) → x < 2 ^ card.n → get_or (card_values card) x (pos 0) ≡ (run_card card x).value
unfolding card_values
value_at card x h =
    get_d_map (λ x. (run_card card x).value) (numbers_from 0 (2 ^ card.n)) x 0 (pos 0) (subst (λ n. x < n) (sym (length_range 0 (2 ^ card.n))) h)
    ∙ ap (λ n. (run_card card n).value) (get_d_range 0 (2 ^ card.n) x 0 h ∙ zero-add x)

pub values_count : (card : Card) → length (card_values card) ≡ 2 ^ card.n
unfolding card_values values_to
values_count card = length_values card (2 ^ card.n)

-- Expand's entry X is Run's value at X.
pub expand_entry : (image : List ℕ) (room : ℕ) (values : List ℤ) → expand image room ≡ accepted values → (x : ℕ) → x < length values → map_answer (λ result. result.value) (run image x) ≡ accepted (get_or values x (pos 0))
expand_entry image room values h x l =
    let e = expansion image room values h in
    let card = card_of e.commands in
    let inside : x < 2 ^ card.n = subst (λ n. x < n) (ap length e.same ∙ values_count card) l in
    ap (map_answer (λ result. result.value)) (run_of_card image e.commands e.read x inside)
    ∙ ap accepted (sym (ap (λ l. get_or l x (pos 0)) e.same ∙ value_at card x inside))
