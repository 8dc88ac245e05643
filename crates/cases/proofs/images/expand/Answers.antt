-- `images::expand` meets its contract: what Expand answered and left decides.
use Rattle.std.proofs.Common.{◌≡◌, Some, ◌≤◌, ◌&&◌, List, length, take, replicate, ℤ, sym, ap, ◌∙◌, length-take-le, take_at}
use Rattle.numbers.specs.Refusals.{answer_of}
use Rattle.cases.specs.Rows.{image_bytes, number_lent, front_holds}
use Rattle.cases.proofs.Laws.Rows.{no_image, image_fits, image_within, image_size, image_taken}
use Rattle.cases.proofs.Laws.Tests.{passed, failed, lent_front}
use Rattle.cases.specs.ImageCases.{expanded_is, expand_passes}
use Rattle.cases.proofs.Laws.ImageCases.{expand_too_long, expand_too_many, expand_judged}
use Rattle.cases.proofs.images.expand.Goals as goal
use Rattle.cases.proofs.images.expand.Goals.{In-Some, After-expand-answer}

pub returns-in_default : goal.returns-in_default
returns-in_default c = let a = c.args in sym (expand_too_long a.numbers.now a.image.now a.front.now (no_image a.image.now (sym c.image_bytes.ensures ∙ c.in_default.is)))

-- The image's bytes.
made : (c : In-Some) → image_bytes c.args.image.now ≡ Some c.in-Some.bytes
made c = sym c.image_bytes.ensures ∙ c.in-Some.is

pub slice_bounds-bytes-end : goal.slice_bounds-bytes-end
slice_bounds-bytes-end c = image_within c.args.image.now (made (goal.at.slice_bounds-bytes-end c).In-Some)

pub slice_bounds-expand-end : goal.slice_bounds-expand-end
slice_bounds-expand-end c = image_size c.args.image.now (made (goal.at.slice_bounds-expand-end c).In-Some)

pub returns-then-places-gt-MOST_VALUES : goal.returns-then-places-gt-MOST_VALUES
returns-then-places-gt-MOST_VALUES c =
    let a = c.args in
    sym (expand_too_many a.numbers.now a.image.now a.front.now (image_fits a.image.now (made (goal.at.returns-then-places-gt-MOST_VALUES c).In-Some)) c.size_at-places.ensures.value c.if-places-gt-MOST_VALUES.true)

-- What Expand left, and what decides.
module _ (c : After-expand-answer) where
  abbrev front : List ℤ
  front = c.args.front.now

  abbrev numbers : List ℤ
  numbers = c.args.numbers.now

  abbrev image : List ℤ
  image = c.args.image.now

  image_is : image_bytes image ≡ Some c.in-Some.bytes
  image_is = sym c.image_bytes.ensures ∙ c.in-Some.is

  abbrev left : List ℤ
  left = c.expand-answer.new.table

  few : c.size_at-places.result ≤ 4096
  few = c.if-places-gt-MOST_VALUES.false

  kept : length left ≡ c.size_at-places.result
  kept = c.expand-answer.auto.table ∙ length-take-le _ _ few

  judged : expand_passes numbers image front ≡ (expanded_is numbers (answer_of c.expand-answer.result) && front_holds number_lent left front)
  judged =
      expand_judged numbers image front (image_fits image image_is) c.size_at-places.ensures.value
      (take c.size_at-places.result (replicate 4096 number_lent)) c.expand-answer.result left few (image_taken image image_is) (lent_front number_lent c.size_at-places.result 4096 few) c.expand-answer.ensures

pub returns-else-expanded_is : goal.returns-else-expanded_is
returns-else-expanded_is c = c.if-expanded_is.false ∙ sym (judged (goal.at.returns-else-expanded_is c).After-expand-answer ∙ failed _ (sym c.expanded_is.ensures ∙ c.if-expanded_is.false))

pub returns-then-expanded_is : goal.returns-then-expanded_is
returns-then-expanded_is c =
    let b = (goal.at.returns-then-expanded_is c).After-expand-answer in
    sym
    (judged b
    ∙ passed _ (sym c.expanded_is.ensures ∙ c.if-expanded_is.true)
    ∙ sym (c.numbers_hold.ensures ∙ ap (λ row. front_holds number_lent row (front b)) (take_at (left b) _ c.size_at-places.result (kept b))))
