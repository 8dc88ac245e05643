-- `images::ran_is` meets its contract.
use borrow.Author.Tests.{tests}
use Rattle.std.proofs.Common.{rules, ◌∙◌, refl}
use Rattle.numbers.proofs.Laws.Machine.{bits_equal}
use Rattle.image.specs.Run.{result_of, ran}
use Rattle.cases.specs.ImageCases.{ran_is}
use Rattle.cases.proofs.Laws.Rows.{answer_mapped}
use Rattle.cases.proofs.images.ran_is.Goals as goal

pub returns : goal.returns
unfolding ran_is ran result_of
returns c =
    let v = c.ranges.value in
    c.answer_is.ensures _ (λ found told e q. search (rules, tests, bits_equal)) ∙ answer_mapped _ _ _ refl
