-- `results::hand_back` meets its contract.
use Rattle.std.proofs.Common.{rules}
use Rattle.exports.proofs.Laws.RanGiven.{ran_accepted, ran_refused}
use Rattle.exports.proofs.results.hand_back.Goals as goal

pub returns-in-Ok : goal.returns-in-Ok
returns-in-Ok c = search (rules, ran_accepted)

pub returns-in-Err : goal.returns-in-Err
returns-in-Err c = search (rules, ran_refused)
