-- `rows::size_at` meets its contract.
use Rattle.std.proofs.Common.{ap, ◌∙◌}
use mir.Syntax.{w32}
use mir.Facts.{to_z-of_z}
use borrow.Author.Rules.{sfits_of}
use lib.Signed.{mag}
use Rattle.cases.specs.Rows.{size_at}
use Rattle.cases.proofs.rows.size_at.Goals as goal

pub returns-clause-value : goal.returns-clause-value
unfolding size_at
returns-clause-value c = c.unsigned_part.ensures ∙ ap mag (to_z-of_z {w = w32} (sfits_of c.number_at.type_inv) ∙ c.number_at.ensures)
