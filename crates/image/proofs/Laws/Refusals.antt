-- Which numbers turn an image away, when Run and Expand turn a call away themselves, and what Expand leaves in its buffer.
use Rattle.std.specs.Prelude.{ℕ, zero, suc, ◌+◌, ◌^◌, ◌≤◌, ◌<◌, ◌≡◌, refl, Bool, false, List, [], ◌∷◌, ◌++◌, ◌↔◌, length, get_or, leb, ltb, eqb, ℤ}
use Rattle.std.proofs.Common.{sym, ◌∙◌, ap, append-nil, arith, drop_of_length-le, ltb-false, le-ltb, ne_eqb}
use Rattle.std.proofs.lemmas.Bool.{eqb-false}
use Rattle.numbers.specs.Answers.{Answer, accepted, refused, unless, and_then}
use Rattle.numbers.proofs.Laws.Answers.{not_refused, unless_refused, test_fails, map_refused}
use Rattle.numbers.proofs.Laws.Bools.{yes_or_no}
use Rattle.image.specs.Commands.{card_of}
use Rattle.image.specs.Inner.Kinds.{is_end}
use Rattle.image.specs.Reader.{due, due_byte, due_size, command_at, keeps_rules, place_after, width_is_least, ends_well, judged, step, followed_by, read_from, reading}
use Rattle.image.specs.Run.{run, run_card, card_values, expand, expand_buffer}
use Rattle.image.proofs.Laws.Reading.{followed_last, followed_on}
use Rattle.image.proofs.Laws.Words.{expansion, values_count}
use Rattle.image.specs.declared.Command.{Command}
use Rattle.image.specs.declared.Place.{Place}

-- ---- the numbers of the reader

-- The numbers of the reader: 11 to 14.
abbrev pub OfImage : ℕ → Type 0
OfImage k = (11 ≤ k) × (k ≤ 14)

judged_number : (image : List ℕ) (p : Place) (c : Command) (k : ℕ) → judged image p c ≡ refused k → OfImage k
unfolding judged
judged_number image p c =
    unless_refused OfImage (keeps_rules p c) 13 (unless (ends_well image p c) 14 (accepted (c, place_after p c))) (omega arith, omega arith)
    (unless_refused OfImage (ends_well image p c) 14 (accepted (c, place_after p c)) (omega arith, omega arith)
    (λ k h. not_refused (c, place_after p c) k h))

pub step_number : (image : List ℕ) (p : Place) (k : ℕ) → step image p ≡ refused k → OfImage k
unfolding step
step_number image p =
    unless_refused OfImage (width_is_least p) 13 there (omega arith, omega arith)
    (unless_refused OfImage (ltb p.at (length image)) 11 known (omega arith, omega arith)
    (unless_refused OfImage (eqb (get_or image p.at 0) (due_byte (due p))) 12 whole (omega arith, omega arith)
    (unless_refused OfImage (leb (p.at + due_size (due p)) (length image)) 11 (judged image p c) (omega arith, omega arith)
    (judged_number image p c))))
  where
    c : Command
    c = command_at (due p) image p.at

    whole : Answer (Command × Place)
    whole = unless (leb (p.at + due_size (due p)) (length image)) 11 (judged image p c)

    known : Answer (Command × Place)
    known = unless (eqb (get_or image p.at 0) (due_byte (due p))) 12 whole

    there : Answer (Command × Place)
    there = unless (ltb p.at (length image)) 11 known

by_step : (after : Place → Answer (List Command)) → ((q : Place) (k : ℕ) → after q ≡ refused k → OfImage k) → (s : Answer (Command × Place)) → ((k : ℕ) → s ≡ refused k → OfImage k) → (k : ℕ) → and_then s (λ s. followed_by s.0 (after s.1)) ≡ refused k → OfImage k
by_step after later (refused j) here k h = let e : j ≡ k = cc in here k (ap refused e)
by_step after later (accepted s) here k h =
    yes_or_no (is_end s.0)
    (λ e. not_refused (s.0 ∷ []) k (sym (followed_last s.0 (after s.1) e) ∙ h))
    (λ e. later s.1 k (map_refused (λ l. s.0 ∷ l) (after s.1) k (sym (followed_on s.0 (after s.1) e) ∙ h)))

from_number : (steps : ℕ) (image : List ℕ) (p : Place) (k : ℕ) → read_from steps image p ≡ refused k → OfImage k
unfolding read_from
from_number zero image p k h = let e : 11 ≡ k = cc in (omega arith, omega arith)
from_number (suc steps) image p k h = by_step (read_from steps image) (from_number steps image) (step image p) (step_number image p) k h

pub reading_number : (image : List ℕ) (k : ℕ) → reading image ≡ refused k → OfImage k
unfolding reading
reading_number image k h = from_number (suc (length image)) image _ k h

-- ---- refusals of Run and Expand

-- An operation that checks the image and then makes one test refuses by that test, with a number that the reader does not have,
-- exactly where the image is accepted and the test fails.
module _ {A : Type 0} (test : List Command → Bool) (value : List Command → A) (number : ℕ) (own : number < 11) where
  abbrev Tested : Answer (List Command) → Answer A
  Tested answer = and_then answer (λ commands. unless (test commands) number (accepted (value commands)))

  own_refusal : (image : List ℕ) (answer : Answer (List Command)) → reading image ≡ answer → Tested answer ≡ refused number → (commands : List Command) × (reading image ≡ accepted commands) × (test commands ≡ false)
  own_refusal image (accepted commands) e h = (commands, e, test_fails (test commands) number (value commands) number h)
  own_refusal image (refused k) e h = let n = reading_number image k e in let same : k ≡ number = cc in absurd (omega arith)

  refuses_itself : (image : List ℕ) → ((commands : List Command) × (reading image ≡ accepted commands) × (test commands ≡ false)) ↔ (Tested (reading image) ≡ refused number)
  refuses_itself image = ((λ s. rw (s.1, s.2)), own_refusal image (reading image) refl)

-- Run: X is not below 2^n.
pub run_refuses : (image : List ℕ) (x : ℕ) → ((commands : List Command) × (reading image ≡ accepted commands) × (2 ^ (card_of commands).n ≤ x)) ↔ (run image x ≡ refused 7)
unfolding run
run_refuses image x =
    let i = refuses_itself (λ commands. ltb x (2 ^ (card_of commands).n)) (λ commands. run_card (card_of commands) x) 7 (omega arith) image in (
      (λ s. i.0 (s.0, s.1, le-ltb x (2 ^ (card_of s.0).n) s.2)),
      (λ h. let s = i.1 h in (s.0, s.1, ltb-false x (2 ^ (card_of s.0).n) s.2)),
    )

-- Expand: the buffer's length is not 2^n.
pub expand_refuses : (image : List ℕ) (room : ℕ) → ((commands : List Command) × (reading image ≡ accepted commands) × (¬ (room ≡ 2 ^ (card_of commands).n))) ↔ (expand image room ≡ refused 2)
unfolding expand
expand_refuses image room =
    let i = refuses_itself (λ commands. eqb room (2 ^ (card_of commands).n)) (λ commands. card_values (card_of commands)) 2 (omega arith) image in (
      (λ s. i.0 (s.0, s.1, ne_eqb room (2 ^ (card_of s.0).n) s.2)),
      (λ h. let s = i.1 h in (s.0, s.1, eqb-false room (2 ^ (card_of s.0).n) s.2)),
    )

-- ---- Expand's buffer

-- An accepted Expand leaves its values there, and nothing else.
pub buffer_accepted : (image : List ℕ) (buffer values : List ℤ) → expand image (length buffer) ≡ accepted values → expand_buffer image buffer ≡ values
unfolding expand_buffer
buffer_accepted image buffer values h =
    let e = expansion image (length buffer) values h in
    let long : length values ≡ length buffer = ap length e.same ∙ values_count (card_of e.commands) ∙ sym e.fits in
    rw h (ap (λ l. values ++ l) (drop_of_length-le buffer {i = length values} (omega arith)) ∙ append-nil values)

-- A refused one leaves it as it was.
pub buffer_refused : (image : List ℕ) (buffer : List ℤ) (k : ℕ) → expand image (length buffer) ≡ refused k → expand_buffer image buffer ≡ buffer
unfolding expand_buffer
buffer_refused image buffer k h = rw h
