-- `clients::expand_table` meets its contract, from the contracts of Compile and Expand.
use Rattle.std.proofs.Common.{rules, ◌≡◌, Err}
use Rattle.demands.proofs.Laws.Clients.{expand_gives, expand_refused}
use Rattle.demands.proofs.clients.expand_table.Goals as goal

pub returns-in_err-compiled : goal.returns-in_err-compiled
returns-in_err-compiled c =
    let a = c.args in
    let refusal = c.in_err-compiled.field-0.0 in
    let handed : c.from_residual.result ≡ Err refusal = search rules in
    rw handed (expand_refused a.n a.table.now a.limit a.image.now c.compile.new.image refusal c.in_err-compiled.ensures a.values.now)

pub returns : goal.returns
returns c =
    let a = c.args in
    expand_gives a.n a.table.now a.limit a.image.now c.compile.new.image c.in_ok-compiled.compiled c.in_ok-compiled.ensures a.values.now c.expand.result c.expand.new.table c.expand.ensures
