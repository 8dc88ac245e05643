-- `tables::values_fit` meets its contract.
use Rattle.std.proofs.Common.{rules, sym, ◌∙◌}
use Rattle.std.proofs.lemmas.Iterator.{YieldsList-from_slice}
use Rattle.std.proofs.lemmas.Iterator.Search.{all_from_yields_List}
use borrow.Author.Tests.{tests}
use Rattle.numbers.specs.Ranges.{is_value}
use Rattle.numbers.proofs.Laws.Lists.{every_all}
use Rattle.diagram.proofs.tables.values_fit.Goals as goal

pub returns : goal.returns
returns c = all_from_yields_List is_value _ _ _ c.all.ensures.ran (YieldsList-from_slice c.args.table.now cc) (λ x b q k. search (rules, tests)) ∙ sym (every_all is_value c.args.table.now)
