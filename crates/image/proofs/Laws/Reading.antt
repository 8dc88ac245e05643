-- Reading a whole image: a loop of steps gives what the definition says.
use Prim.Native.Nat.{ℕ, zero, suc, ◌+◌, ◌≤◌, ◌<◌}
use Rattle.std.specs.Prelude.{◌≡◌, true, false, List, [], ◌∷◌, length}
use Rattle.std.proofs.Math.Path.{refl, ap}
use Rattle.std.proofs.Common.{sym, ◌∙◌, arith, lit<}
use Rattle.std.proofs.lemmas.Bool.{false≢true}
use Rattle.numbers.specs.Answers.{Answer, accepted, refused, map_answer, and_then}
use Rattle.operands.specs.Bytes.{AreBytes}
use Rattle.image.specs.Inner.Bounds.{WithinBounds}
use Rattle.image.specs.Inner.Kinds.{width_of, is_end}
use Rattle.image.specs.Reader.{Due, table, cell, word, end, due, due_size, command_at, place_after, step, followed_by, read_from, start, reading}
use Rattle.image.proofs.Laws.Bounds.{bounds_start, bounds_kept}
use Rattle.operands.proofs.Laws.Operands.{unsigned_one}
use Rattle.image.proofs.Laws.Steps.{Stepped, step_accepted}
use Rattle.image.specs.declared.Command.{Command}
use Rattle.image.specs.declared.Command.TheVariants.{Table, Cell, Word, End}
use Rattle.image.specs.declared.Place.{Place}

-- ---- a command and those that follow it

pub followed_on : (c : Command) (rest : Answer (List Command)) → is_end c ≡ false → followed_by c rest ≡ map_answer (λ l. c ∷ l) rest
unfolding followed_by is_end
followed_on (Table n offset) rest h = refl
followed_on (Cell group incoming outgoing width) rest h = refl
followed_on (Word class weight) rest h = refl
followed_on (End bits) rest h = absurd (false≢true (sym h))

pub followed_last : (c : Command) (rest : Answer (List Command)) → is_end c ≡ true → followed_by c rest ≡ accepted (c ∷ [])
unfolding followed_by is_end
followed_last (Table n offset) rest h = absurd (false≢true h)
followed_last (Cell group incoming outgoing width) rest h = absurd (false≢true h)
followed_last (Word class weight) rest h = absurd (false≢true h)
followed_last (End bits) rest h = refl

-- ---- the next place

pub place_moves : (p : Place) (d : Due) (image : List ℕ) (at : ℕ) → (place_after p (command_at d image at)).at ≡ p.at + due_size d
unfolding place_after command_at due_size
place_moves p table image at = refl
place_moves p cell image at = refl
place_moves p word image at = refl
place_moves p end image at = refl

pub size_some : (d : Due) → 1 ≤ due_size d
unfolding due_size
size_some table = lit< tt
size_some cell = lit< tt
size_some word = lit< tt
size_some end = lit< tt

-- The place after an accepted step is further on, and within the image.
pub step_moves : (image : List ℕ) (p : Place) (c : Command) (q : Place) → Stepped image p c q → (p.at < q.at) × (q.at ≤ length image)
step_moves image p c q s =
    let e : q.at ≡ p.at + due_size (due p) = ap (λ r. r.at) s.next_place_lem ∙ ap (λ k. (place_after p k).at) s.command ∙ place_moves p (due p) image p.at in
    let h = size_some (due p) in
    let r = s.room in
    (omega arith, omega arith)

-- A weight width is read from one byte.
pub width_small : (image : List ℕ) → AreBytes image → (d : Due) (at : ℕ) → at + due_size d ≤ length image → width_of (command_at d image at) < 256
unfolding AreBytes width_of command_at due_size
width_small image bytes table at h = lit< tt
width_small image bytes cell at h = rw (unsigned_one image (at + 6) (omega arith)) (bytes (at + 6))
width_small image bytes word at h = lit< tt
width_small image bytes end at h = lit< tt

pub step_bounds : (image : List ℕ) (p : Place) (c : Command) (q : Place) → AreBytes image → WithinBounds p → Stepped image p c q → WithinBounds q
step_bounds image p c q bytes b s = rw s.next_place_lem (bounds_kept p c b s.rules (rw s.command (width_small image bytes (due p) p.at s.room)))

-- ---- so far

-- Whether an image is accepted, its commands left out.
unfoldable pub done : Answer (List Command) → Answer (Unit {0})
done answer = map_answer (λ commands. tt) answer

-- The steps from a place on decide whether the image is accepted.
pub record Checking (image : List ℕ) (p : Place) : Type 0 where
  pub bounds : WithinBounds p
  pub inside : p.at ≤ length image
  pub steps : ℕ
  pub enough : length image < p.at + steps
  pub decides : done (reading image) ≡ done (read_from steps image p)

module _ (image : List ℕ) where
  pub checking_start : Checking image start
  unfolding reading start
  checking_start = record { bounds = bounds_start; inside = omega arith; steps = suc (length image); enough = omega arith; decides = refl }

  -- One step of the steps left.
  one_step : (p : Place) → p.at ≤ length image → (steps : ℕ) → length image < p.at + steps → (k : ℕ) × (steps ≡ suc k)
  one_step p w zero h = absurd (omega arith)
  one_step p w (suc k) h = (k, refl)

  pub checking_refused : (p : Place) (k : ℕ) → Checking image p → step image p ≡ refused k → done (reading image) ≡ refused k
  unfolding read_from done
  checking_refused p k h e =
      let s = one_step p h.inside h.steps h.enough in
      h.decides ∙ ap (λ n. done (read_from n image p)) s.1 ∙ ap (λ a. done (and_then a (λ s'. followed_by s'.0 (read_from s.0 image s'.1)))) e

  pub checking_last : (p : Place) (c : Command) (q : Place) → Checking image p → step image p ≡ accepted (c, q) → is_end c ≡ true → done (reading image) ≡ accepted tt
  unfolding read_from done
  checking_last p c q h e l =
      let s = one_step p h.inside h.steps h.enough in
      h.decides
      ∙ ap (λ n. done (read_from n image p)) s.1
      ∙ ap (λ a. done (and_then a (λ s'. followed_by s'.0 (read_from s.0 image s'.1)))) e
      ∙ ap done (followed_last c (read_from s.0 image q) l)

  done_cons : (c : Command) (a : Answer (List Command)) → done (map_answer (λ l. c ∷ l) a) ≡ done a
  unfolding done
  done_cons c (accepted l) = refl
  done_cons c (refused k) = refl

  pub checking_on : (p : Place) (c : Command) (q : Place) → AreBytes image → Checking image p → step image p ≡ accepted (c, q) → is_end c ≡ false → Checking image q
  unfolding read_from done
  checking_on p c q bytes h e l =
      let s = one_step p h.inside h.steps h.enough in
      let stepped = step_accepted image p c q e in
      let moved = step_moves image p c q stepped in
      record {
        bounds = step_bounds image p c q bytes h.bounds stepped;
        inside = moved.1;
        steps = s.0;
        enough = (let m = moved.0 in let n = h.enough in let o = s.1 in omega arith);
        decides = (
            h.decides
            ∙ ap (λ n. done (read_from n image p)) s.1
            ∙ ap (λ a. done (and_then a (λ s'. followed_by s'.0 (read_from s.0 image s'.1)))) e
            ∙ ap done (followed_on c (read_from s.0 image q) l)
            ∙ done_cons c (read_from s.0 image q)
            );
      }
