-- The pair run goes by its checks.
use Rattle.std.specs.Prelude.{ℕ, ◌+◌, ◌*◌, ◌^◌, ◌≤◌, ◌<◌, ◌≡◌, ◌↔◌, true, List, [], ◌∷◌, leb, ltb, eqb}
use Rattle.std.proofs.Math.Path.{refl, ap}
use Rattle.std.proofs.Common.{sym, ◌∙◌, subst, true≢false, eqb-true, eq-eqb}
use Rattle.numbers.specs.Answers.{Answer, accepted, refused, unless, and_then}
use Rattle.numbers.proofs.Laws.Answers.{not_refused}
use Rattle.numbers.proofs.Laws.Bools.{yes_or_no}
use Rattle.numbers.proofs.Laws.Tests.{le_test, lt_test, and_test}
use Rattle.operands.specs.Bytes.{AreBytes}
use Rattle.image.specs.Cells.{Card}
use Rattle.image.specs.Commands.{card_of}
use Rattle.image.specs.Reader.{due, command_at, place_after, step, start, reading, reading_for}
use Rattle.image.specs.Run.{Result, run_card, run}
use Rattle.image.proofs.Laws.ReadingFor.{reading_first_refused, for_accepted}
use Rattle.image.proofs.Laws.Words.{run_of_card}
use Rattle.image.specs.declared.Command.{Command}
use Rattle.image.specs.declared.Place.{Place}
use Rattle.pairs.specs.Pairs.{is_pair_bits, is_pair, pair_index, pair_run}
use Rattle.pairs.proofs.Laws.Indices.{index_below}
use Rattle.demands.specs.Checks.{AllHold, Decided}
use Rattle.demands.specs.Admitted.{command_here, place_checks, ImageOf}
use Rattle.demands.specs.Requested.{first_n, FaultFor, another, as_ever, image_check_for, pair_checks}
use Rattle.demands.proofs.Laws.Checks.{decided_accepted, decided_passing, decided_unless, decided_then, decided_check}
use Rattle.demands.proofs.Laws.Image.{decided_step, step_goes, reading_fault, reading_card, read_card}

module _ (n : ℕ) (image : List ℕ) where
  -- The n of the place after a good first command is the one that it carries.
  first_place : (command : Command) (q : Place) → step image start ≡ accepted (command, q) → q.n ≡ first_n image
  unfolding first_n command_here command_at place_after due start
  first_place command q e = ap (λ p. p.n) (step_goes image start command q e).1

  module _ (bytes : AreBytes image) where
    -- Where the first command is refused, that is the fault.
    fault_at_first : (j k : ℕ) → step image start ≡ refused j → FaultFor n image k → j ≡ k
    fault_at_first j k e (another all other) = let s = (decided_step image start).accepts.0 all in not_refused s.0 j (sym s.1 ∙ e)
    fault_at_first j k e (as_ever same fault) = let both : refused j ≡ refused k = sym (reading_first_refused image j e) ∙ (reading_fault image bytes k).0 fault in cc

    module _ (command : Command) (q : Place) (e : step image start ≡ accepted (command, q)) where
      good : AllHold (place_checks image start)
      good = (decided_step image start).accepts.1 ((command, q), e)

      -- Where it carries the given n, the fault is as ever; else it is 13.
      fault_of_own : first_n image ≡ n → (k : ℕ) → FaultFor n image k → reading image ≡ refused k
      fault_of_own own k (another all other) = absurd (other own)
      fault_of_own own k (as_ever same fault) = (reading_fault image bytes k).0 fault

      fault_of_other : ¬ (first_n image ≡ n) → (k : ℕ) → FaultFor n image k → 13 ≡ k
      fault_of_other other k (another all o) = refl
      fault_of_other other k (as_ever same fault) = absurd (other (same good))

    -- Reading for a given n is refused with k exactly where checking finds this fault.
    fault_where : (k : ℕ) (s : Answer (Command × Place)) → step image start ≡ s
        → FaultFor n image k ↔ (and_then s (λ first. unless (eqb first.1.n n) 13 (reading image)) ≡ refused k)
    fault_where k (refused j) e = (
      (λ f. ap refused (fault_at_first j k e f)),
      (λ h. as_ever (λ all. let s = (decided_step image start).accepts.0 all in not_refused s.0 j (sym s.1 ∙ e)) ((reading_fault image bytes k).1 (reading_first_refused image j e ∙ h))),
    )
    fault_where k (accepted (command, q)) e =
        yes_or_no (eqb q.n n)
        (λ t.
        let own : first_n image ≡ n = sym (first_place command q e) ∙ eqb-true q.n n t in (
          (λ f. rw t (fault_of_own command q e own k f)),
          (λ h. as_ever (λ all. own) ((reading_fault image bytes k).1 (rw t at h))),
        ))
        (λ t.
        let other : ¬ (first_n image ≡ n) = (λ own. absurd (true≢false (sym (eq-eqb q.n n (first_place command q e ∙ own)) ∙ t))) in (
          (λ f. rw t (ap refused (fault_of_other command q e other k f))),
          (λ h. subst (FaultFor n image) (let both : refused 13 ≡ refused k = rw t at h in let same : 13 ≡ k = cc in same) (another (good command q e) other)),
        ))

    -- An image for a given n is accepted exactly where it is that of a card of n variables.
    card_where : ((card : Card) × (ImageOf image card × (card.n ≡ n))) ↔ ((commands : List Command) × (reading_for n image ≡ accepted commands))
    card_where = (
      (λ c.
          let s = (reading_card image bytes).0 (c.0, c.1.0) in
          (s.0, (for_accepted n image s.0).0 (s.1, ap (λ d. d.n) (read_card image s.0 s.1 c.0 c.1.0) ∙ c.1.1))),
      (λ s.
          let r = (for_accepted n image s.0).1 s.1 in
          let c = (reading_card image bytes).1 (s.0, r.0) in
          (c.0, (c.1, ap (λ d. d.n) (sym (read_card image s.0 r.0 c.0 c.1)) ∙ r.1))),
    )

    decided_for : Decided (reading_for n image) (image_check_for n image ∷ [])
    unfolding image_check_for reading_for
    decided_for = decided_check (reading_for n image) card_where (λ k. fault_where k (step image start) refl)

module _ (m : ℕ) (image : List ℕ) (x y : ℕ) where
  bits_test : (is_pair_bits m ≡ true) ↔ ((1 ≤ m) × (m ≤ 6))
  unfolding is_pair_bits
  bits_test = and_test (leb 1 m) (leb m 6) (le_test 1 m) (le_test m 6)

  pair_test : (is_pair m x y ≡ true) ↔ ((x < 2 ^ m) × (y < 2 ^ m))
  unfolding is_pair
  pair_test = and_test (ltb x (2 ^ m)) (ltb y (2 ^ m)) (lt_test x (2 ^ m)) (lt_test y (2 ^ m))

  -- Run's answer at the index of a pair, on an image for n = 2m.
  pub pair_there : (commands : List Command) → reading_for (2 * m) image ≡ accepted commands → (x < 2 ^ m) × (y < 2 ^ m)
      → run image (pair_index m x y) ≡ accepted (run_card (card_of commands) (pair_index m x y))
  pair_there commands h inside =
      let r = (for_accepted (2 * m) image commands).1 h in
      run_of_card image commands r.0 (pair_index m x y) (rw r.1 (index_below m x y inside.0 inside.1))

  pub decided_pair : AreBytes image → Decided (pair_run m image x y) (pair_checks m image x y)
  unfolding pair_run pair_checks
  decided_pair bytes =
      decided_unless (is_pair_bits m) bits_test
      (decided_then (reading_for (2 * m) image) (decided_for (2 * m) image bytes)
      (λ commands h.
      decided_passing (is_pair m x y) pair_test
      (λ t. rw (pair_there commands h (pair_test.0 t)) (decided_accepted (run_card (card_of commands) (pair_index m x y))))))

  -- Where all hold, the answer is Run's at Z.
  pub pair_value : AreBytes image → AllHold (pair_checks m image x y) → (pair_run m image x y ≡ run image (2 ^ m * x + y)) × ((r : Result) × (run image (2 ^ m * x + y) ≡ accepted r))
  unfolding pair_checks image_check_for AllHold pair_run pair_index
  pair_value bytes all =
      let s = (card_where (2 * m) image bytes).0 all.1.0 in
      let ran = pair_there s.0 s.1 all.1.1.0 in
      (rw (bits_test.1 all.0, s.1, pair_test.1 all.1.1.0) refl, (run_card (card_of s.0) (2 ^ m * x + y), ran))
