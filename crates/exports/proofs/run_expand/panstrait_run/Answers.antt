-- `run_expand::panstrait_run` meets its contract.
use Rattle.exports.specs.ImageGiven.{RunGiven}
use Rattle.exports.proofs.Laws.RanGiven.{same_given}
use Rattle.exports.proofs.run_expand.panstrait_run.Goals as goal

pub returns : goal.returns
unfolding RunGiven
returns c = same_given c.run.ensures c.hand_back.ensures
