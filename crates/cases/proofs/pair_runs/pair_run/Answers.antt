-- `pair_runs::pair_run` meets its contract.
use Rattle.std.proofs.Common.{◌≡◌, sym, ◌∙◌, w32, to_z, of_z, rules, slice_index_or, pos, Some}
use Rattle.cases.specs.Rows.{image_bytes}
use Rattle.cases.proofs.Laws.Rows.{no_image, image_fits, image_within, image_size, image_taken}
use Rattle.cases.proofs.Laws.PairCases.{pair_run_too_long, pair_run_judged}
use Rattle.cases.proofs.pair_runs.pair_run.Goals as goal
use Rattle.cases.proofs.pair_runs.pair_run.Goals.{In-Some}

pub returns-in_default : goal.returns-in_default
returns-in_default c = let a = c.args in sym (pair_run_too_long a.numbers.now a.image.now (no_image a.image.now (sym c.image_bytes.ensures ∙ c.in_default.is)))

-- The image's bytes.
made : (c : In-Some) → image_bytes c.args.image.now ≡ Some c.in-Some.bytes
made c = sym c.image_bytes.ensures ∙ c.in-Some.is

pub slice_bounds-bytes-end : goal.slice_bounds-bytes-end
slice_bounds-bytes-end c = image_within c.args.image.now (made (goal.at.slice_bounds-bytes-end c).In-Some)

pub slice_bounds-pair_run-end : goal.slice_bounds-pair_run-end
slice_bounds-pair_run-end c = image_size c.args.image.now (made (goal.at.slice_bounds-pair_run-end c).In-Some)

pub returns : goal.returns
returns c =
    let a = c.args in
    let m = made (goal.at.returns c).In-Some in
    let value : to_z w32 (of_z w32 c.number_at-value.result) ≡ slice_index_or a.numbers.now 5 (pos 0) = search rules in
    c.ran_is.ensures
    ∙ sym (pair_run_judged a.numbers.now a.image.now c.pair_run-answer.result (image_fits a.image.now m) (image_taken a.image.now m) c.size_at-m.ensures.value c.size_at-x.ensures.value c.size_at-y.ensures.value c.size_at-refusal.ensures.value value c.size_at-words.ensures.value c.pair_run-answer.ensures)
