-- `comparing::same_halves` meets its contract.
use Rattle.std.proofs.Common.{◌∙◌, ap₂}
use Rattle.std.proofs.lemmas.Bool.Decides.{same_from_decides, Decides-int_eq}
use Rattle.std.proofs.lemmas.Slice.Eq.{slice_eq-Decides}
use Rattle.blocks.specs.Classes.{same}
use Rattle.blocks.proofs.Laws.Same.{same_true, equal_same}
use Rattle.blocks.proofs.comparing.same_halves.Goals as goal

pub returns : goal.returns
returns c =
    let halves = c.split_at.result in
    let equal = slice_eq-Decides Decides-int_eq halves.0.now halves.1.now c.eq.result c.eq.ensures in
    same_from_decides c.eq.result (same halves.0.now halves.1.now) equal (same_true halves.0.now halves.1.now, equal_same halves.0.now halves.1.now)
    ∙ ap₂ same c.split_at.ensures.front c.split_at.ensures.back
