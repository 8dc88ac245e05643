-- One step of the reader, case by case.
use Rattle.std.specs.Prelude.{ℕ, ◌+◌, ◌≤◌, ◌<◌, ◌≡◌, refl, true, false, List, ltb, leb, eqb, length, get_or}
use Rattle.std.proofs.Common.{sym, ◌∙◌, ap}
use borrow.Author.Tests.{leb-true, eqb-true, lt-ltb, le-ltb, le-leb, lt-leb, eq-eqb, ne_eqb}
use Rattle.numbers.specs.Answers.{accepted, refused}
use Rattle.numbers.proofs.Laws.Answers.{unless_accepted}
use Rattle.image.specs.Inner.Kinds.{kind_of}
use Rattle.image.specs.Reader.{Due, table, cell, word, end, due, due_byte, due_size, command_at, keeps_rules, place_after, width_is_least, ends_well, judged, step}
use Rattle.image.specs.declared.Command.{Command}
use Rattle.image.specs.declared.Place.{Place}

pub command_kind : (d : Due) (image : List ℕ) (at : ℕ) → kind_of (command_at d image at) ≡ d
unfolding kind_of command_at
command_kind table image at = refl
command_kind cell image at = refl
command_kind word image at = refl
command_kind end image at = refl

module _ (image : List ℕ) (p : Place) where
  pub step_wide : width_is_least p ≡ false → step image p ≡ refused 13
  unfolding step
  step_wide w = rw w

  pub step_none : width_is_least p ≡ true → length image ≤ p.at → step image p ≡ refused 11
  unfolding step
  step_none w h = rw (w, le-ltb p.at (length image) h)

  pub step_other : width_is_least p ≡ true → p.at < length image → (get_or image p.at 0 ≡ due_byte (due p) → ⊥) → step image p ≡ refused 12
  unfolding step
  step_other w h b = rw (w, lt-ltb p.at (length image) h, ne_eqb (get_or image p.at 0) (due_byte (due p)) b)

  pub step_cut : width_is_least p ≡ true → p.at < length image → get_or image p.at 0 ≡ due_byte (due p) → length image < p.at + due_size (due p) → step image p ≡ refused 11
  unfolding step
  step_cut w h b l = rw (w, lt-ltb p.at (length image) h, eq-eqb (get_or image p.at 0) (due_byte (due p)) b, lt-leb (p.at + due_size (due p)) (length image) l)

  pub step_judged : width_is_least p ≡ true → p.at < length image → get_or image p.at 0 ≡ due_byte (due p) → p.at + due_size (due p) ≤ length image → step image p ≡ judged image p (command_at (due p) image p.at)
  unfolding step
  step_judged w h b l = rw (w, lt-ltb p.at (length image) h, eq-eqb (get_or image p.at 0) (due_byte (due p)) b, le-leb (p.at + due_size (due p)) (length image) l)

  pub judged_accepted : (c : Command) → keeps_rules p c ≡ true → ends_well image p c ≡ true → judged image p c ≡ accepted (c, place_after p c)
  unfolding judged
  judged_accepted c k e = rw (k, e)

-- What an accepted step tells: the command stands at the place, is due there and keeps its rules.
pub record Stepped (image : List ℕ) (p : Place) (c : Command) (next : Place) : Type 0 where
  pub width : width_is_least p ≡ true
  pub byte : get_or image p.at 0 ≡ due_byte (due p)
  pub room : p.at + due_size (due p) ≤ length image
  pub command : c ≡ command_at (due p) image p.at
  pub rules : keeps_rules p c ≡ true
  pub ends : ends_well image p c ≡ true
  pub next_place_lem : next ≡ place_after p c

pub step_accepted : (image : List ℕ) (p : Place) (c : Command) (next : Place) → step image p ≡ accepted (c, next) → Stepped image p c next
unfolding step judged
step_accepted image p c next h =
    let d = command_at (due p) image p.at in
    let s1 = unless_accepted (width_is_least p) 13 _ (c, next) h in
    let s2 = unless_accepted (ltb p.at (length image)) 11 _ (c, next) s1.1 in
    let s3 = unless_accepted (eqb (get_or image p.at 0) (due_byte (due p))) 12 _ (c, next) s2.1 in
    let s4 = unless_accepted (leb (p.at + due_size (due p)) (length image)) 11 _ (c, next) s3.1 in
    let s5 = unless_accepted (keeps_rules p d) 13 _ (c, next) s4.1 in
    let s6 = unless_accepted (ends_well image p d) 14 _ (c, next) s5.1 in
    let same : ◌≡◌ {A = Command × Place} (d, place_after p d) (c, next) = cc s6.1 in
    let is_c : d ≡ c = ap (λ x. x.0) same in
    record {
      width = s1.0;
      byte = eqb-true (get_or image p.at 0) (due_byte (due p)) s3.0;
      room = leb-true (p.at + due_size (due p)) (length image) s4.0;
      command = sym is_c;
      rules = rw is_c at s5.0;
      ends = rw is_c at s6.0;
      next_place_lem = sym (ap (λ x. x.1) same) ∙ ap (place_after p) is_c;
    }
