-- Reading an image, Run and Expand go by the paper's checks.
use Prim.Native.Nat.{ℕ, zero, suc, ◌+◌, ◌^◌, ◌≤◌, ◌<◌}
use Rattle.std.specs.Prelude.{◌≡◌, ◌↔◌, Bool, true, false, List, [], ◌∷◌, length, get_or, ℤ, leb}
use Rattle.std.proofs.Math.Path.{refl, sym, ap, subst}
use Rattle.std.proofs.Common.{◌∙◌, true≢false, arith}
use Rattle.std.proofs.lemmas.Bool.{false≢true}
use Rattle.std.proofs.Math.Dec.{ltb, eqb}
use Rattle.numbers.specs.Answers.{Answer, accepted, refused, and_then}
use Rattle.numbers.specs.Ranges.{is_variables, is_value}
use Rattle.numbers.specs.Widths.{weight_width}
use Rattle.numbers.proofs.Laws.Answers.{not_refused, map_refused}
use Rattle.numbers.proofs.Laws.Bools.{yes_or_no}
use Rattle.operands.specs.Bytes.{AreBytes}
use Rattle.image.specs.Cells.{Card}
use Rattle.image.specs.Commands.{card_of, card_commands, image_of}
use Rattle.image.specs.Reader.{Due, table, cell, word, end, due, due_byte, due_size, command_at, keeps_rules, place_after, width_is_least, ends_well, judged, step, followed_by, read_from, start, reading}
use Rattle.image.specs.Run.{run, run_card, expand, expand_buffer, card_values}
use Rattle.image.proofs.Theorems.{accepted_card, accepted_image, card_image, card_described, card_run, card_expand}
use Rattle.image.proofs.Theorems as images
use Rattle.image.specs.Inner.Kinds.{is_end}
use Rattle.image.proofs.Laws.Reading.{followed_on, followed_last, step_moves, Checking, checking_start, checking_refused, checking_on}
use Rattle.image.proofs.Laws.Rules.{shape_test, shape_facts, word_test, word_facts}
use Rattle.image.proofs.Laws.Running.{check_refuses}
use Rattle.image.proofs.Laws.Steps.{step_accepted}
use Rattle.image.specs.declared.Command.{Command}
use Rattle.image.specs.declared.Command.TheVariants.{Table, Cell, Word, End}
use Rattle.image.specs.declared.Place.{Place}
use Rattle.demands.specs.Checks.{Decided}
use Rattle.demands.specs.Admitted.{OperandRules, command_here, place_checks, ComesTo, first, next, ImageFault, ImageOf, image_check, run_checks, expand_checks}
use Rattle.demands.proofs.Laws.Checks.{decided_accepted, decided_unless, decided_then, decided_check}
use Rattle.numbers.proofs.Laws.Tests.{le_test, lt_test, eq_test, and_test, or_test, variables_test, value_test}

-- ---- one place

-- The operand rules of each command.
rules_test : (p : Place) (command : Command) → (keeps_rules p command ≡ true) ↔ OperandRules p command
unfolding keeps_rules OperandRules
rules_test p (Table n offset) = and_test (is_variables n) (is_value offset) (variables_test n) (value_test offset)
rules_test p (Cell group incoming outgoing width) = (shape_facts p group incoming outgoing width, shape_test p group incoming outgoing width)
rules_test p (Word class weight) = (word_facts p class weight, word_test p class weight)
rules_test p (End bits) = eq_test bits p.bits

-- Words are left, or the width is the least.
width_test : (p : Place) → (width_is_least p ≡ true) ↔ (p.words ≡ 0 → p.width ≡ weight_width (p.least ∷ p.greatest ∷ []))
unfolding width_is_least
width_test p =
    let least = weight_width (p.least ∷ p.greatest ∷ []) in
    let i = or_test (ltb 0 p.words) (eqb p.width least) (lt_test 0 p.words) (eq_test p.width least) in (
      (λ h e. i.0 h (λ l. absurd (omega arith))),
      (λ h. i.1 (λ l. h (omega arith))),
    )

-- No other command is the end.
other_due {ℓ} : {X : Type ℓ} (d : Due) → d ≡ end → (due_byte d ≡ 0x45 → ⊥) → X
unfolding due_byte
other_due d e f = absurd (f (ap due_byte e))

-- Nothing follows the end.
ends_test : (image : List ℕ) (p : Place) → (ends_well image p (command_here image p) ≡ true) ↔ (due p ≡ end → length image ≡ p.at + 5)
unfolding command_here command_at ends_well due_byte
ends_test image p = by_due (due p)
  where
    by_due : (d : Due) → (ends_well image p (command_at d image p.at) ≡ true) ↔ (d ≡ end → length image ≡ p.at + 5)
    by_due table = ((λ h e. other_due table e (λ f. omega arith)), (λ h. refl))
    by_due cell = ((λ h e. other_due cell e (λ f. omega arith)), (λ h. refl))
    by_due word = ((λ h e. other_due word e (λ f. omega arith)), (λ h. refl))
    by_due end = let i = eq_test (length image) (p.at + 5) in ((λ h e. i.0 h), (λ h. i.1 (h refl)))

-- The last command is 0x45 exactly where the end is due.
end_test : (image : List ℕ) (p : Place) → (is_end (command_here image p) ≡ true) ↔ (due p ≡ end)
unfolding command_here command_at is_end due_byte
end_test image p = by_due (due p)
  where
    by_due : (d : Due) → (is_end (command_at d image p.at) ≡ true) ↔ (d ≡ end)
    by_due table = ((λ h. absurd (false≢true h)), (λ e. other_due table e (λ f. omega arith)))
    by_due cell = ((λ h. absurd (false≢true h)), (λ e. other_due cell e (λ f. omega arith)))
    by_due word = ((λ h. absurd (false≢true h)), (λ e. other_due word e (λ f. omega arith)))
    by_due end = ((λ h. refl), (λ e. refl))

-- A step goes by the checks of its place.
pub decided_step : (image : List ℕ) (p : Place) → Decided (step image p) (place_checks image p)
unfolding step judged place_checks command_here
decided_step image p =
    let command = command_at (due p) image p.at in
    decided_unless (width_is_least p) (width_test p)
    (decided_unless (ltb p.at (length image)) (lt_test p.at (length image))
    (decided_unless (eqb (get_or image p.at 0) (due_byte (due p))) (eq_test (get_or image p.at 0) (due_byte (due p)))
    (decided_unless (leb (p.at + due_size (due p)) (length image)) (le_test (p.at + due_size (due p)) (length image))
    (decided_unless (keeps_rules p command) (rules_test p command)
    (decided_unless (ends_well image p command) (ends_test image p)
    (decided_accepted (command, place_after p command)))))))

-- An accepted step reads the command at its place and goes behind it.
pub step_goes : (image : List ℕ) (p : Place) (command : Command) (q : Place) → step image p ≡ accepted (command, q) → (command ≡ command_here image p) × (q ≡ place_after p (command_here image p))
unfolding command_here
step_goes image p command q e =
    let s = step_accepted image p command q e in
    (s.command, s.next_place_lem ∙ ap (place_after p) s.command)

-- ---- the places that are reached

module _ (image : List ℕ) where
  -- An accepted step that is not the last comes to a reached place.
  reached_on : (p : Place) (command : Command) (q : Place) → ComesTo image p → step image p ≡ accepted (command, q) → is_end command ≡ false → ComesTo image q
  reached_on p command q r e l =
      let s = step_goes image p command q e in
      subst (ComesTo image) (sym s.1)
      (next p r ((decided_step image p).accepts.1 ((command, q), e)) (λ d. absurd (true≢false (sym ((end_test image p).1 d) ∙ ap is_end (sym s.0) ∙ l))))

  -- From a reached place on, a refusal is that of the first check which fails at some reached place: by its own step, or after it.
  after_step : (steps : ℕ) (p : Place) (k : ℕ) → ComesTo image p → ((command : Command) (q : Place) → step image p ≡ accepted (command, q) → is_end command ≡ false → read_from steps image q ≡ refused k → ImageFault image k) → (s : Answer (Command × Place)) → step image p ≡ s → and_then s (λ t. followed_by t.0 (read_from steps image t.1)) ≡ refused k → ImageFault image k
  unfolding ImageFault
  after_step steps p k r later (refused j) e f = let same : j ≡ k = cc in (p, (r, ((decided_step image p).refuses k).1 (e ∙ ap refused same)))
  after_step steps p k r later (accepted (command, q)) e f =
      yes_or_no (is_end command)
      (λ l. not_refused (command ∷ []) k (sym (followed_last command (read_from steps image q) l) ∙ f))
      (λ l. later command q e l (map_refused (λ rest. command ∷ rest) (read_from steps image q) k (sym (followed_on command (read_from steps image q) l) ∙ f)))

  from_reached : (steps : ℕ) (p : Place) → ComesTo image p → p.at ≤ length image → length image < p.at + steps → (k : ℕ) → read_from steps image p ≡ refused k → ImageFault image k
  unfolding read_from
  from_reached zero p r inside enough k h = absurd (omega arith)
  from_reached (suc steps) p r inside enough k h =
      after_step steps p k r
      (λ command q e l f.
      let moved = step_moves image p command q (step_accepted image p command q e) in
      let forward = moved.0 in
      from_reached steps q (reached_on p command q r e l) moved.1 (omega arith) k f)
      (step image p) refl h

  -- What is left to be read at a reached place decides the whole image.
  reached_decides : AreBytes image → (p : Place) → ComesTo image p → Checking image p
  reached_decides bytes p first = checking_start image
  reached_decides bytes q (next p r all more) =
      let s = (decided_step image p).accepts.0 all in
      let command = s.0.0 in
      let goes = step_goes image p command s.0.1 s.1 in
      let on : is_end command ≡ false = yes_or_no (is_end command) (λ l. absurd (more ((end_test image p).0 (ap is_end (sym goes.0) ∙ l)))) (λ l. l) in
      subst (Checking image) goes.1 (checking_on image p command s.0.1 bytes (reached_decides bytes p r) s.1 on)

  -- An image is refused with k exactly where the first check that fails at some reached place gives k.
  pub reading_fault : AreBytes image → (k : ℕ) → ImageFault image k ↔ (reading image ≡ refused k)
  unfolding reading start ImageFault
  reading_fault bytes k = (
    (λ f. check_refuses image k (checking_refused image f.0 k (reached_decides bytes f.0 f.1.0) (((decided_step image f.0).refuses k).0 f.1.1))),
    (λ h. from_reached (suc (length image)) start first (omega arith) (omega arith) k h),
  )

  -- An image is accepted exactly where it is that of a card.
  pub reading_card : AreBytes image → ((card : Card) × ImageOf image card) ↔ ((commands : List Command) × (reading image ≡ accepted commands))
  unfolding ImageOf
  reading_card bytes = (
    (λ c. (card_commands c.0, ap reading c.1.1 ∙ card_image c.0 c.1.0)),
    (λ s. (card_of s.0, (accepted_card image s.0 s.1, accepted_image image s.0 s.1 bytes))),
  )

  -- It is the card that its commands describe, and no other.
  pub read_card : (commands : List Command) → reading image ≡ accepted commands → (card : Card) → ImageOf image card → card_of commands ≡ card
  unfolding ImageOf
  read_card commands h card c =
      let e : accepted commands ≡ accepted (card_commands card) = sym h ∙ ap reading c.1 ∙ card_image card c.0 in
      let same : commands ≡ card_commands card = cc in
      ap card_of same ∙ card_described card

  -- Reading goes by the check of the image.
  decided_reading : AreBytes image → Decided (reading image) (image_check image ∷ [])
  unfolding image_check
  decided_reading bytes = decided_check (reading image) (reading_card bytes) (reading_fault bytes)

  -- ---- Run and Expand

  -- A condition on the card's variables, for a read image.
  variables_of_card : AreBytes image → {P : ℕ → Type 0} (b : ℕ → Bool) → ((n : ℕ) → (b n ≡ true) ↔ P n) → (commands : List Command) → reading image ≡ accepted commands → (b (card_of commands).n ≡ true) ↔ ((card : Card) → ImageOf image card → P card.n)
  unfolding ImageOf
  variables_of_card bytes {P} b t commands h = (
    (λ e card c. subst (λ d. P d.n) (read_card commands h card c) ((t (card_of commands).n).0 e)),
    (λ f. (t (card_of commands).n).1 (f (card_of commands) (accepted_card image commands h, accepted_image image commands h bytes))),
  )

  -- Run: the image, then X.
  pub decided_run : AreBytes image → (x : ℕ) → Decided (run image x) (run_checks image x)
  unfolding run run_checks
  decided_run bytes x =
      decided_then (reading image) (decided_reading bytes)
      (λ commands h.
      decided_unless (ltb x (2 ^ (card_of commands).n)) (variables_of_card bytes (λ n. ltb x (2 ^ n)) (λ n. lt_test x (2 ^ n)) commands h)
      (decided_accepted (run_card (card_of commands) x)))

  -- Expand: the image, then the buffer's length.
  pub decided_expand : AreBytes image → (room : ℕ) → Decided (expand image room) (expand_checks image room)
  unfolding expand expand_checks
  decided_expand bytes room =
      decided_then (reading image) (decided_reading bytes)
      (λ commands h.
      decided_unless (eqb room (2 ^ (card_of commands).n)) (variables_of_card bytes (λ n. eqb room (2 ^ n)) (λ n. eq_test room (2 ^ n)) commands h)
      (decided_accepted (card_values (card_of commands))))

  -- ---- what is answered

  module _ (card : Card) (is : ImageOf image card) where
    -- The card's answer.
    pub run_value : (x : ℕ) → x < 2 ^ card.n → run image x ≡ accepted (run_card card x)
    unfolding ImageOf
    run_value x l = ap (λ i. run i x) is.1 ∙ card_run card is.0 x l

    -- The card's values.
    pub expand_value : (room : ℕ) → room ≡ 2 ^ card.n → expand image room ≡ accepted (card_values card)
    unfolding ImageOf
    expand_value room e = ap (λ i. expand i room) is.1 ∙ ap (expand (image_of card)) e ∙ card_expand card is.0

    -- They fill the buffer.
    pub expand_filled : (buffer : List ℤ) → length buffer ≡ 2 ^ card.n → expand_buffer image buffer ≡ card_values card
    expand_filled buffer e = images.expand_writes image buffer (card_values card) (expand_value (length buffer) e)

pub expand_buffer_lem : (image : List ℕ) (buffer : List ℤ) (card : Card) → ImageOf image card → length buffer ≡ 2 ^ card.n → expand_buffer image buffer ≡ card_values card
expand_buffer_lem image buffer card is = expand_filled image card is buffer
