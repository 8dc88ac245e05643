-- `search::Known::uses_with` meets its contract.
use Rattle.std.proofs.Common.{◌≡◌, ◌+◌, ◌∙◌, ap, arith, get_or}
use Rattle.std.specs.Option.{unwrap_or}
use Rattle.classes.specs.Inner.Searching.{uses_with}
use Rattle.classes.proofs.search.Known.uses_with.Goals as goal
use Rattle.classes.proofs.search.Known.uses_with.Goals.{After-unwrap_or}

-- What is read: a class past the last has no uses.
read : (c : After-unwrap_or) → c.unwrap_or.result ≡ get_or c.args.self.now.use_counts.now c.args.class 0
read c =
    c.unwrap_or.ensures
    ∙ ap (λ o. unwrap_or o 0) c.copied.ensures
    ∙ c.get.ensures.lookup.4 (omega arith) 0

pub returns : goal.returns
unfolding uses_with
returns c = ap (λ uses. uses + 1) (read c)
