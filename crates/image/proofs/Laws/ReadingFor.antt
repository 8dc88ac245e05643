-- Reading an image for a given n: what the first command decides, and when such an image is accepted.
use Rattle.std.specs.Prelude.{ℕ, ◌+◌, ◌≤◌, ◌≡◌, true, false, ◌&&◌, List, ◌++◌, ◌↔◌, leb, eqb, get_or, ℤ}
use Rattle.std.proofs.Math.Path.{refl, sym, ap, subst}
use Rattle.std.proofs.Common.{◌∙◌}
use Rattle.std.proofs.lemmas.Bool.{false≢true}
use Rattle.std.proofs.Math.Bool.{not}
use native.Mathlib.Omega.{arith}
use Rattle.std.proofs.Math.ListN.{length, length-append}
use borrow.Author.Tests.{leb-true, eqb-true, eqb-false, le-leb, eq-eqb, ne_eqb, not-true}
use Rattle.numbers.specs.Answers.{Answer, accepted, refused, unless, and_then}
use Rattle.numbers.proofs.Laws.Answers.{not_refused, unless_accepted, unless_refused}
use Rattle.numbers.proofs.Laws.Bools.{yes_or_no, both}
use Rattle.numbers.proofs.Laws.Bounds.{value_mag}
use Rattle.numbers.proofs.Laws.Tests.{variables_test, value_test}
use Rattle.numbers.specs.Conditions.{Variables, TableValue}
use Rattle.numbers.specs.Ranges.{is_variables, is_value}
use Rattle.operands.specs.Bytes.{unsigned_at, signed_at}
use Rattle.operands.proofs.Laws.Operands.{unsigned_one}
use Rattle.image.specs.Commands.{command_bytes, card_commands, card_of}
use Rattle.image.specs.Inner.GivenN.{has_other_n}
use Rattle.image.specs.Inner.Kinds.{kind_of, is_end}
use Rattle.image.specs.Reader.{due_byte, due_size, command_at, keeps_rules, place_after, ends_well, judged, step, read_from, start, reading, reading_for}
use Rattle.image.proofs.Laws.Cards.{start_width, start_due, table_may}
use Rattle.image.proofs.Laws.Due.{ends_well_before}
use Rattle.image.proofs.Laws.Images.{Holds, length_bytes, bytes_stand, reading_standing, commands_of_card, card_keeps}
use Rattle.image.proofs.Laws.Refusals.{OfImage, step_number, reading_number}
use Rattle.image.proofs.Laws.Standing.{Stands, Standing, step_back}
use Rattle.image.proofs.Laws.Steps.{Stepped, step_judged, judged_accepted, step_accepted}
use Rattle.image.specs.declared.Command.{Command}
use Rattle.image.specs.declared.Command.TheVariants.{Table}
use Rattle.image.specs.declared.Place.{Place}

-- ---- by the first command

pub reading_first_refused : (image : List ℕ) (k : ℕ) → step image start ≡ refused k → reading image ≡ refused k
unfolding reading read_from
reading_first_refused image k h = rw h

module _ (n : ℕ) (image : List ℕ) where
  -- It is refused as ever.
  pub first_refused : (k : ℕ) → step image start ≡ refused k → reading_for n image ≡ refused k
  unfolding reading_for
  first_refused k h = rw h

  module _ (c : Command) (q : Place) (h : step image start ≡ accepted (c, q)) where
    -- It carries another n.
    pub first_other : (q.n ≡ n → ⊥) → reading_for n image ≡ refused 13
    unfolding reading_for
    first_other other = rw (h, ne_eqb q.n n other)

    -- It carries this n.
    pub first_same : q.n ≡ n → reading_for n image ≡ reading image
    unfolding reading_for
    first_same same = rw (h, eq-eqb q.n n same)

-- ---- by the bytes of the first command

-- A whole 0x56 with another n is 13, whatever its offset.
module _ (n : ℕ) (image : List ℕ) where
  abbrev opening : Command
  opening = Table (unsigned_at image 1 1) (signed_at image 2)

  opening_judged : 6 ≤ length image → get_or image 0 0 ≡ 0x56 → step image start ≡ judged image start opening
  unfolding start due_byte due_size command_at
  opening_judged room byte =
      step_judged image start start_width (omega arith) (byte ∙ ap due_byte (sym start_due)) (subst (λ d. 0 + due_size d ≤ length image) (sym start_due) room)
      ∙ ap (λ d. judged image start (command_at d image 0)) start_due

  pub other_refused : has_other_n n image ≡ true → reading_for n image ≡ refused 13
  unfolding has_other_n place_after is_end judged
  other_refused h =
      let parts = both (leb 6 (length image)) (eqb (get_or image 0 0) 0x56 && not (eqb (get_or image 1 0) n)) h in
      let bytes = both (eqb (get_or image 0 0) 0x56) (not (eqb (get_or image 1 0) n)) parts.1 in
      let room = leb-true 6 (length image) parts.0 in
      let judging = opening_judged room (eqb-true (get_or image 0 0) 0x56 bytes.0) in
      yes_or_no (keeps_rules start opening)
      (λ rules. first_other n image opening (place_after start opening) (judging ∙ judged_accepted image start opening rules (ends_well_before image start opening refl))
      (λ same. eqb-false (get_or image 1 0) n (not-true (eqb (get_or image 1 0) n) bytes.1) (sym (unsigned_one image 1 (omega arith)) ∙ same)))
      (λ rules. first_refused n image 13 (judging ∙ ap (λ t. unless t 13 (unless (ends_well image start opening) 14 (accepted (opening, place_after start opening)))) rules))

  -- What an accepted first step tells: a whole 0x56 whose n is the place's.
  opening_stepped : (c : Command) (q : Place) → Stepped image start c q → (6 ≤ length image) × (get_or image 0 0 ≡ 0x56) × (q.n ≡ get_or image 1 0)
  unfolding start due_byte due_size command_at place_after
  opening_stepped c q s =
      let room : 6 ≤ length image = subst (λ d. 0 + due_size d ≤ length image) start_due s.room in (
        room,
        s.byte ∙ ap due_byte start_due,
        ap (λ p. p.n) (s.next_place_lem ∙ ap (place_after start) (s.command ∙ ap (λ d. command_at d image 0) start_due)) ∙ unsigned_one image 1 (omega arith),
      )

  pub other_not : has_other_n n image ≡ false → reading_for n image ≡ reading image
  unfolding has_other_n
  other_not h = by_step (step image start) refl
    where
      by_step : (s : Answer (Command × Place)) → step image start ≡ s → reading_for n image ≡ reading image
      by_step (refused k) e = first_refused n image k e ∙ sym (reading_first_refused image k e)
      by_step (accepted (c, q)) e =
          let told = opening_stepped c q (step_accepted image start c q e) in
          first_same n image c q e
          (told.2
          ∙ yes_or_no (eqb (get_or image 1 0) n)
          (λ same. eqb-true (get_or image 1 0) n same)
          (λ other. absurd (false≢true (sym h ∙ rw (le-leb 6 (length image) told.0, told.1, other)))))

-- A 0x56 that keeps its rules is read, whatever follows.
step_table : (image : List ℕ) (n : ℕ) (offset : ℤ) → is_variables n ≡ true → is_value offset ≡ true → Stands image 0 (Table n offset) → step image start ≡ accepted (Table n offset, place_after start (Table n offset))
unfolding start is_end
step_table image n offset v o s = step_back image start (Table n offset) (table_may n offset v o) s (ends_well_before image start (Table n offset) refl)

module _ (n : ℕ) (offset : ℤ) (variables : Variables n) (value : TableValue offset) (rest : List ℕ) where
  abbrev image : List ℕ
  image = command_bytes (Table n offset) ++ rest

  table_stands : Stands image 0 (Table n offset)
  unfolding Holds kind_of due_size Variables
  table_stands =
      let small = value_mag offset ((value_test offset).1 value) in
      let size = length-append (command_bytes (Table n offset)) rest in
      let own = length_bytes (Table n offset) in
      (bytes_stand image 0 (Table n offset) rest (omega arith, record { sfits = omega arith }) (omega arith) refl).0

  table_read : step image start ≡ accepted (Table n offset, place_after start (Table n offset))
  table_read = step_table image n offset ((variables_test n).1 variables) ((value_test offset).1 value) table_stands

  -- An image that begins with another n.
  pub other_n : (given : ℕ) → ¬ (n ≡ given) → reading_for given image ≡ refused 13
  unfolding place_after
  other_n given other = first_other given image _ _ table_read other

  -- One that begins with this n.
  pub own_n : reading_for n image ≡ reading image
  unfolding place_after
  own_n = first_same n image _ _ table_read refl

-- ---- an accepted image

-- The first command of an accepted image.
module _ (image : List ℕ) (commands : List Command) (h : reading image ≡ accepted commands) where
  first_read : step image start ≡ accepted (Table (card_of commands).n (card_of commands).offset, place_after start (Table (card_of commands).n (card_of commands).offset))
  unfolding Standing card_commands
  first_read =
      let card = card_of commands in
      let keeps = card_keeps image commands h in
      let standing : Standing image 0 (card_commands card) = subst (Standing image 0) (commands_of_card image commands h) (reading_standing image commands h) in
      step_table image card.n card.offset keeps.variables keeps.offset standing.0

  accepted_for : reading_for (card_of commands).n image ≡ accepted commands
  unfolding place_after
  accepted_for = first_same (card_of commands).n image _ _ first_read refl ∙ h

  accepted_other : (n : ℕ) → ((card_of commands).n ≡ n → ⊥) → reading_for n image ≡ refused 13
  unfolding place_after
  accepted_other n other = first_other n image _ _ first_read other

-- It is accepted for its own n alone.
module _ (n : ℕ) (image : List ℕ) where
  by_first : (commands : List Command) (first : Answer (Command × Place)) → and_then first (λ s. unless (eqb s.1.n n) 13 (reading image)) ≡ accepted commands → reading image ≡ accepted commands
  by_first commands (accepted s) h = (unless_accepted (eqb s.1.n n) 13 (reading image) commands h).1
  by_first commands (refused k) h = absurd (let z : ◌≡◌ {A = ℕ} 0 1 = cc in omega arith)

  pub for_accepted : (commands : List Command) → ((reading image ≡ accepted commands) × ((card_of commands).n ≡ n)) ↔ (reading_for n image ≡ accepted commands)
  unfolding reading_for
  for_accepted commands = ((λ s. subst (λ k. reading_for k image ≡ accepted commands) s.1 (accepted_for image commands s.0)), back)
    where
      back : reading_for n image ≡ accepted commands → (reading image ≡ accepted commands) × ((card_of commands).n ≡ n)
      back h =
          let read = by_first commands (step image start) h in (
            read,
            yes_or_no (eqb (card_of commands).n n)
                (λ e. eqb-true (card_of commands).n n e)
                (λ e. not_refused commands 13 (sym h ∙ accepted_other image commands read n (eqb-false (card_of commands).n n e))),
          )

  -- Its refusals have the reader's numbers.
  first_number_lem : (first : Answer (Command × Place)) → ((k : ℕ) → first ≡ refused k → OfImage k) → (k : ℕ) → and_then first (λ s. unless (eqb s.1.n n) 13 (reading image)) ≡ refused k → OfImage k
  first_number_lem (refused j) here k h = here k (ap refused (let e : j ≡ k = cc in e))
  first_number_lem (accepted s) here k h = unless_refused OfImage (eqb s.1.n n) 13 (reading image) (omega arith, omega arith) (reading_number image) k h

  pub for_number : (k : ℕ) → reading_for n image ≡ refused k → OfImage k
  unfolding reading_for
  for_number k h = first_number_lem (step image start) (step_number image start) k h
