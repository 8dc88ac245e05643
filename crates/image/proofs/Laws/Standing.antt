-- What an accepted reading is: commands that stand in the image one behind another, each allowed where it stands.
use Rattle.std.specs.Prelude.{ℕ, zero, suc, ◌+◌, ◌≤◌, ◌≡◌, refl, true, false, List, [], ◌∷◌, length, get_or}
use Rattle.std.proofs.Common.{sym, ◌∙◌, ap, subst, arith, eqb-true, eq-eqb}
use Rattle.std.proofs.lemmas.Bool.{false≢true}
use Rattle.numbers.specs.Answers.{Answer, accepted, refused, map_answer, and_then}
use Rattle.numbers.proofs.Laws.Bools.{yes_or_no}
use Rattle.image.specs.Inner.Kinds.{kind_of, is_end}
use Rattle.image.specs.Reader.{due, due_byte, due_size, command_at, keeps_rules, place_after, width_is_least, ends_well, judged, step, followed_by, read_from}
use Rattle.image.proofs.Laws.Due.{ends_well_last, ends_well_before}
use Rattle.image.proofs.Laws.Reading.{followed_on, followed_last, size_some}
use Rattle.image.proofs.Laws.Steps.{Stepped, step_accepted, step_judged, judged_accepted, command_kind}
use Rattle.image.specs.declared.Command.{Command}
use Rattle.image.specs.declared.Command.TheVariants.{Table, Cell, Word, End}
use Rattle.image.specs.declared.Place.{Place}

-- A command that may stand at a place, whatever the bytes.
pub record May (p : Place) (c : Command) : Type 0 where
  pub width : width_is_least p ≡ true
  pub allowed : due p ≡ kind_of c
  pub rules : keeps_rules p c ≡ true

-- Commands that may stand one behind another from a place on, the last of them 0x45.
pub data Allowed : Place → List Command → Type 0 where
  last : {p : Place} (c : Command) → is_end c ≡ true → May p c → Allowed p (c ∷ [])
  more : {p : Place} (c : Command) {rest : List Command} → is_end c ≡ false → May p c → Allowed (place_after p c) rest → Allowed p (c ∷ rest)

-- A command's byte and operands stand in the image.
pub record Stands (image : List ℕ) (at : ℕ) (c : Command) : Type 0 where
  pub byte : get_or image at 0 ≡ due_byte (kind_of c)
  pub room : at + due_size (kind_of c) ≤ length image
  pub operands : command_at (kind_of c) image at ≡ c

-- Commands stand in the image one behind another, to its end.
unfoldable pub Standing : List ℕ → ℕ → List Command → Type 0
Standing image at [] = at ≡ length image
Standing image at (c ∷ rest) = Stands image at c × Standing image (at + due_size (kind_of c)) rest

-- The place after a command.
pub after_at : (p : Place) (c : Command) → (place_after p c).at ≡ p.at + due_size (kind_of c)
unfolding place_after kind_of due_size
after_at p (Table n offset) = refl
after_at p (Cell group incoming outgoing width) = refl
after_at p (Word class weight) = refl
after_at p (End bits) = refl

end_size_lem : (c : Command) → is_end c ≡ true → due_size (kind_of c) ≡ 5
unfolding is_end kind_of due_size
end_size_lem (Table n offset) h = absurd (false≢true h)
end_size_lem (Cell group incoming outgoing width) h = absurd (false≢true h)
end_size_lem (Word class weight) h = absurd (false≢true h)
end_size_lem (End bits) h = refl

-- ---- from a reading to its commands

-- What an accepted step says of its command.
module _ (image : List ℕ) (p : Place) (c : Command) (q : Place) (s : Stepped image p c q) where
  is_due_lem : due p ≡ kind_of c
  is_due_lem = sym (ap kind_of s.command ∙ command_kind (due p) image p.at)

  step_may : May p c
  step_may = record { width = s.width; allowed = is_due_lem; rules = s.rules }

  step_stands : Stands image p.at c
  step_stands =
      record {
        byte = s.byte ∙ ap due_byte is_due_lem;
        room = subst (λ d. p.at + due_size d ≤ length image) is_due_lem s.room;
        operands = ap (λ d. command_at d image p.at) (sym is_due_lem) ∙ sym s.command;
      }

-- The commands that reading from a place gives are allowed there, and stand there.
abbrev Parts : List ℕ → Place → List Command → Type 0
Parts image p commands = Allowed p commands × Standing image p.at commands

abbrev Answered : List ℕ → Place → Answer (List Command) → Type 0
Answered image p answer = (commands : List Command) → answer ≡ accepted commands → Parts image p commands

not_accepted {ℓ} : {A : Type 0} {X : Type ℓ} (k : ℕ) (a : A) → refused k ≡ accepted a → X
not_accepted k a h = absurd (let z : ◌≡◌ {A = ℕ} 0 1 = cc in omega arith)

parts_last : (image : List ℕ) (p : Place) (c : Command) (q : Place) → Stepped image p c q → is_end c ≡ true → Parts image p (c ∷ [])
unfolding Standing
parts_last image p c q s e = (
  last c e (step_may image p c q s),
  (
    step_stands image p c q s,
    ap (λ n. p.at + n) (end_size_lem c e) ∙ sym (eqb-true (length image) (p.at + 5) (sym (ends_well_last image p c e) ∙ s.ends)),
  ),
)

parts_more : (image : List ℕ) (p : Place) (c : Command) (q : Place) (rest : List Command) → Stepped image p c q → is_end c ≡ false → Parts image q rest → Parts image p (c ∷ rest)
unfolding Standing
parts_more image p c q rest s e parts =
    let later : Parts image (place_after p c) rest = subst (λ r. Parts image r rest) s.next_place_lem parts in (
      more c e (step_may image p c q s) later.0,
      (step_stands image p c q s, subst (λ n. Standing image n rest) (after_at p c) later.1),
    )

-- The same, by what the rest is read as.
by_rest : (image : List ℕ) (p : Place) (c : Command) (q : Place) → Stepped image p c q → is_end c ≡ false → (rest : Answer (List Command)) → Answered image q rest → Answered image p (map_answer (λ l. c ∷ l) rest)
by_rest image p c q s e (accepted rest) later commands h = subst (Parts image p) (let same : c ∷ rest ≡ commands = cc in same) (parts_more image p c q rest s e (later rest refl))
by_rest image p c q s e (refused k) later commands h = not_accepted k commands h

by_step : (image : List ℕ) (p : Place) (after : Place → Answer (List Command)) → ((q : Place) → Answered image q (after q)) → (s : Answer (Command × Place)) → step image p ≡ s → Answered image p (and_then s (λ s. followed_by s.0 (after s.1)))
by_step image p after later (refused k) e commands h = not_accepted k commands h
by_step image p after later (accepted s) e commands h =
    let stepped = step_accepted image p s.0 s.1 e in
    yes_or_no (is_end s.0)
    (λ l. subst (Parts image p) (let same : s.0 ∷ [] ≡ commands = cc (sym (followed_last s.0 (after s.1) l) ∙ h) in same) (parts_last image p s.0 s.1 stepped l))
    (λ l. by_rest image p s.0 s.1 stepped l (after s.1) (later s.1) commands (sym (followed_on s.0 (after s.1) l) ∙ h))

pub reading_parts : (steps : ℕ) (image : List ℕ) (p : Place) → Answered image p (read_from steps image p)
unfolding read_from
reading_parts zero image p commands h = not_accepted 11 commands h
reading_parts (suc steps) image p commands h = by_step image p (read_from steps image) (reading_parts steps image) (step image p) refl commands h

-- ---- from commands to their reading

-- A command that is allowed and stands at a place is read there.
pub step_back : (image : List ℕ) (p : Place) (c : Command) → May p c → Stands image p.at c → ends_well image p c ≡ true → step image p ≡ accepted (c, place_after p c)
step_back image p c m s e =
    let is_command : command_at (due p) image p.at ≡ c = ap (λ d. command_at d image p.at) m.allowed ∙ s.operands in
    let room : p.at + due_size (due p) ≤ length image = subst (λ d. p.at + due_size d ≤ length image) (sym m.allowed) s.room in
    step_judged image p m.width (let n = size_some (due p) in omega arith) (s.byte ∙ ap due_byte (sym m.allowed)) room
    ∙ ap (λ k. judged image p k) is_command
    ∙ judged_accepted image p c m.rules e

pub reading_back : (image : List ℕ) (p : Place) (commands : List Command) → Allowed p commands → Standing image p.at commands → (steps : ℕ) → length commands ≤ steps → read_from steps image p ≡ accepted commands
unfolding read_from Standing
reading_back image p commands (last c e m) s zero h = absurd (omega arith)
reading_back image p commands (last c e m) s (suc steps) h =
    let ends : ends_well image p c ≡ true = ends_well_last image p c e ∙ eq-eqb (length image) (p.at + 5) (sym s.1 ∙ ap (λ n. p.at + n) (end_size_lem c e)) in
    ap (λ a. and_then a (λ s'. followed_by s'.0 (read_from steps image s'.1))) (step_back image p c m s.0 ends)
    ∙ followed_last c (read_from steps image (place_after p c)) e
reading_back image p commands (more c e m later) s zero h = absurd (omega arith)
reading_back image p commands (more c {rest} e m later) s (suc steps) h =
    ap (λ a. and_then a (λ s'. followed_by s'.0 (read_from steps image s'.1))) (step_back image p c m s.0 (ends_well_before image p c e))
    ∙ followed_on c (read_from steps image (place_after p c)) e
    ∙ ap (map_answer (λ l. c ∷ l)) (reading_back image (place_after p c) rest later (subst (λ n. Standing image n rest) (sym (after_at p c)) s.1) steps (omega arith))

-- Commands that stand in an image are no more than its bytes.
pub standing_count : (image : List ℕ) (at : ℕ) (commands : List Command) → Standing image at commands → at + length commands ≤ length image
unfolding Standing
standing_count image at [] s = omega arith
standing_count image at (c ∷ rest) s = let h = standing_count image (at + due_size (kind_of c)) rest s.1 in let n = size_some (kind_of c) in omega arith
