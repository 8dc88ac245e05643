-- Cases of the pair run, by what it answered.
use Rattle.std.specs.Prelude.{◌≡◌, ℕ, ◌<◌, ◌≤◌, false, List, map, length, ℤ, pos, slice_index_or, Result}
use Rattle.std.proofs.Math.Path.{sym, ap}
use Rattle.std.proofs.Common.{◌∙◌, le-leb}
use Rattle.std.proofs.lemmas.Bool.{lt-leb}
use Rattle.image.specs.Run.{ran}
use Rattle.numbers.specs.declared.Refusal.{Refusal}
use Rattle.image.specs.declared.Evaluated.{Evaluated}
use Rattle.pairs.specs.Pairs.{pair_run}
use Rattle.cases.specs.Rows.{size_at, byte_of}
use Rattle.cases.proofs.Laws.Tests.{passed, failed}
use Rattle.cases.specs.ImageCases.{ran_is}
use Rattle.cases.specs.PairCases.{pair_run_passes}

module _ (numbers image : List ℤ) where
  -- More bytes than an image has here.
  pub pair_run_too_long : 512 < length image → pair_run_passes numbers image ≡ false
  unfolding pair_run_passes
  pair_run_too_long l = failed _ (lt-leb (length image) 512 l)

  -- The pair run's answer decides.
  pub pair_run_judged : {m x y refusal words : ℕ} {value : ℤ} {bytes : List ℕ} (answer : Result Evaluated Refusal) → length image ≤ 512 → bytes ≡ map byte_of image → m ≡ size_at numbers 1 → x ≡ size_at numbers 2 → y ≡ size_at numbers 3 → refusal ≡ size_at numbers 4 → value ≡ slice_index_or numbers 5 (pos 0) → words ≡ size_at numbers 6 → ran answer ≡ pair_run m bytes x y → pair_run_passes numbers image ≡ ran_is refusal value words (ran answer)
  unfolding pair_run_passes
  pair_run_judged answer l e bits row column told worth read runs =
      passed _ (le-leb (length image) 512 l)
      ∙ ap (ran_is (size_at numbers 4) (slice_index_or numbers 5 (pos 0)) (size_at numbers 6)) (sym (runs ∙ cc (e, bits, row, column)))
      ∙ sym (cc (told, worth, read))
