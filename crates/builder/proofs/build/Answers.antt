-- `builder::build` meets its contract.
use Rattle.std.specs.Prelude.{◌≡◌, Err}
use Rattle.std.proofs.Common.{sym}
use borrow.Author.Rules.{rules}
use Rattle.numbers.specs.Refusals.{answer_of}
use Rattle.diagram.proofs.Laws.Builds.{passed_table, build_unfit}
use Rattle.builder.proofs.build.Goals as goal

pub returns-in_err-check_table : goal.returns-in_err-check_table
unfolding answer_of
returns-in_err-check_table c =
    let a = c.args in
    let r = c.in_err-check_table.field-0.0 in
    let handed : c.from_residual.result ≡ Err r = search rules in
    rw handed (build_unfit a.n a.table.now a.nodes.now r (sym c.in_err-check_table.ensures))

pub build_checked-requires : goal.build_checked-requires
unfolding answer_of
build_checked-requires c = let a = c.args in passed_table a.n a.table.now (sym c.in_ok-check_table.ensures)
