-- Cases of Run and Expand, by what they answered and left.
use Rattle.std.specs.Prelude.{◌≡◌, ℕ, ◌<◌, ◌≤◌, false, ◌&&◌, List, map, length, replicate, ℤ, pos, slice_index_or, Result, refl}
use Rattle.std.proofs.Math.Path.{sym, ap, ap₂}
use Rattle.std.proofs.Common.{◌∙◌, subst, le-leb}
use Rattle.std.proofs.Math.ListN.{length-replicate}
use Rattle.std.proofs.lemmas.Bool.{lt-leb}
use Rattle.numbers.specs.Answers.{Answer, accepted, refused, map_answer}
use Rattle.image.specs.Run.{run, expand, expand_buffer, ran, Expands}
use Rattle.numbers.specs.Refusals.{answer_of}
use Rattle.numbers.specs.declared.Refusal.{Refusal}
use Rattle.image.specs.declared.Evaluated.{Evaluated}
use Rattle.cases.specs.Rows.{size_at, byte_of, number_lent, answer_is, front_holds}
use Rattle.cases.proofs.Laws.Tests.{passed, failed}
use Rattle.cases.specs.ImageCases.{ran_is, run_passes, expanded_is, expand_passes}

module _ (numbers image : List ℤ) where
  -- More bytes than an image has here.
  pub run_too_long : 512 < length image → run_passes numbers image ≡ false
  unfolding run_passes
  run_too_long l = failed _ (lt-leb (length image) 512 l)

  -- Run's answer decides.
  pub run_judged : {x refusal words : ℕ} {value : ℤ} {bytes : List ℕ} (answer : Result Evaluated Refusal) → length image ≤ 512 → bytes ≡ map byte_of image → x ≡ size_at numbers 1 → refusal ≡ size_at numbers 2 → value ≡ slice_index_or numbers 3 (pos 0) → words ≡ size_at numbers 4 → ran answer ≡ run bytes x → run_passes numbers image ≡ ran_is refusal value words (ran answer)
  unfolding run_passes
  run_judged answer l e place told worth read runs =
      passed _ (le-leb (length image) 512 l)
      ∙ ap (ran_is (size_at numbers 2) (slice_index_or numbers 3 (pos 0)) (size_at numbers 4)) (sym (runs ∙ ap₂ run e place))
      ∙ sym (cc (told, worth, read))

-- Only a refusal is told of Expand's answer.
expanded_mapped : {A B : Type 0} (f : A → B) (numbers : List ℤ) (answer : Answer A) → expanded_is numbers (map_answer f answer) ≡ expanded_is numbers answer
unfolding expanded_is answer_is
expanded_mapped f numbers (accepted a) = refl
expanded_mapped f numbers (refused k) = refl

module _ (numbers image front : List ℤ) where
  pub expand_too_long : 512 < length image → expand_passes numbers image front ≡ false
  unfolding expand_passes
  expand_too_long l = failed _ (lt-leb (length image) 512 l)

  module _ {places : ℕ} (short : length image ≤ 512) (room : places ≡ size_at numbers 1) where
    -- More places than can be lent.
    pub expand_too_many : 4096 < places → expand_passes numbers image front ≡ false
    unfolding expand_passes
    expand_too_many l = passed _ (le-leb (length image) 512 short) ∙ failed _ (lt-leb (size_at numbers 1) 4096 (subst (λ k. 4096 < k) room l))

    -- The answer and the lent table decide.
    pub expand_judged : {bytes : List ℕ} (lent : List ℤ) (answer : Result Unit Refusal) (left : List ℤ) → places ≤ 4096 → bytes ≡ map byte_of image → lent ≡ replicate places number_lent → Expands bytes lent answer left → expand_passes numbers image front ≡ (expanded_is numbers (answer_of answer) && front_holds number_lent left front)
    unfolding expand_passes
    expand_judged {bytes} lent answer left l b e expands =
        passed _ (le-leb (length image) 512 short)
        ∙ passed _ (le-leb (size_at numbers 1) 4096 (subst (λ k. k ≤ 4096) room l))
        ∙ ap₂ (λ told row. told && front_holds number_lent row front)
        (sym
        (ap (expanded_is numbers) expands.answer
        ∙ expanded_mapped (λ values. tt) numbers (expand bytes (length lent))
        ∙ ap (expanded_is numbers) (ap₂ expand b (ap length e ∙ length-replicate places number_lent ∙ room))))
        (sym (expands.written ∙ ap₂ expand_buffer b (e ∙ ap (λ k. replicate k number_lent) room)))
